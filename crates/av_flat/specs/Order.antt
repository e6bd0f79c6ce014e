-- The lexicographic order of points (textbook).
use Rattle.std.specs.Prelude.{◌≡◌, ◌<ℤ◌, ◌⊎◌, [], ◌∷◌}
use Rattle.av_tree.specs.Points.{Point}

-- the first point comes before the second
abbrev pub IsBefore : Point → Point → Type 0
IsBefore [] [] = ⊥
IsBefore [] (y ∷ ys) = Unit {0}
IsBefore (x ∷ xs) [] = ⊥
IsBefore (x ∷ xs) (y ∷ ys) = (x <ℤ y) ⊎ ((x ≡ y) × IsBefore xs ys)
