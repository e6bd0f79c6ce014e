-- How many sets have a point. Only private contracts cite this.
use Rattle.std.specs.Prelude.{◌≢◌, ℕ, ◌+◌, ◌<◌, if◌then◌else◌, Any, List, [], ◌∷◌}
use Rattle.av_poly.specs.Points.{Set, Has}
use Rattle.av_tree.specs.Points.{Point}
use Rattle.av_flat.specs.Points.{has}

-- 1 where the set has the point
abbrev pub one_in : Point → Set → ℕ
one_in z set = if has set z then 1 else 0

-- the number of sets that have the point
abbrev pub coverage : Point → List Set → ℕ
coverage z [] = 0
coverage z (set ∷ sets) = one_in z set + coverage z sets

-- the domain has the point, and not just one of the sets has
abbrev pub IsOff : Set → List Set → Point → Type 0
IsOff domain sets z = Has domain z × (coverage z sets ≢ 1)

-- a point of the domain that two sets or more have
abbrev pub IsShared : Set → List Set → Point → Type 0
IsShared domain sets z = Has domain z × (1 < coverage z sets)

-- a point of the domain that the set has and one of the others
abbrev pub IsSharedBy : Set → Set → List Set → Point → Type 0
IsSharedBy domain set others z = Has domain z × Has set z × (0 < coverage z others)

-- one of the parts has the point
abbrev pub IsInAny : List Set → Point → Type 0
IsInAny parts z = Any (λ part. Has part z) parts
