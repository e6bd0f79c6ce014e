-- Shapes whose modes stand in the order of their numbers, each once.
use Rattle.std.specs.Prelude.{ℕ, suc, ◌≤◌, List, [], ◌∷◌}
use Rattle.std.specs.List.{AllByRecursion}
use Rattle.av_kinds.specs.inner.Shapes.{ModeShape, LaneShape}

-- with numbers from k on
abbrev pub AreAscending : ℕ → List ModeShape → Type 0
AreAscending k [] = Unit {0}
AreAscending k (f ∷ modes) = (k ≤ f.number) × AreAscending (suc f.number) modes

abbrev pub IsOrdered : List LaneShape → Type 0
IsOrdered shape = AllByRecursion (λ (lane : LaneShape). AreAscending 0 lane.modes) shape
