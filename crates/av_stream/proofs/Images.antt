-- The products of the rows of a matrix with a list of numbers, row by row.
use Rattle.std.proofs.Common.{◌≡◌, ℕ, ◌+◌, ◌<◌, ◌≤◌, ◌^◌, ◌++◌, ◌∷◌, [], ℤ, List, length, take, map, get_or, arith, to_z, of_z, w64, FitsSigned, to_z-of_z, ap, ◌∙◌}
use Rattle.std.specs.Int.{w128}
use Rattle.std.specs.Prelude.{unsigned_abs}
use Rattle.std.proofs.lemmas.Int.{ints}
use Rattle.std.proofs.lemmas.List.{take_more, map_push, get_or-map, length-map}
use Rattle.av_affine.specs.Numbers.{dot}
use Rattle.av_space.specs.Coordinates.{along}

-- of a row more
pub along_more : (size k : ℕ) (rows : List (List ℤ)) (xs : List ℤ) → k < length rows → along (map (take size) (take (k + 1) rows)) xs ≡ along (map (take size) (take k rows)) xs ++ dot (take size (get_or rows k [])) xs ∷ []
along_more size k rows xs lt =
    ap (λ (r : List (List ℤ)). along (map (take size) r) xs) (take_more rows k [] lt)
    ∙ ap (λ (r : List (List ℤ)). along r xs) (map_push (take size) (take k rows) (get_or rows k []))
    ∙ map_push (λ (row : List ℤ). dot row xs) (map (take size) (take k rows)) (take size (get_or rows k []))

-- of one row
pub along_at : (size k : ℕ) (rows : List (List ℤ)) (xs : List ℤ) (d : ℤ) → k < length rows → get_or (along (map (take size) rows) xs) k d ≡ dot (take size (get_or rows k [])) xs
along_at size k rows xs d lt =
    get_or-map (λ (row : List ℤ). dot row xs) (map (take size) rows) k [] d (omega (arith, length-map rows (take {A = ℤ} size), lt))
    ∙ ap (λ (row : List ℤ). dot row xs) (get_or-map (take size) rows k [] [] lt)

pub length_along : (size : ℕ) (rows : List (List ℤ)) (xs : List ℤ) → length (along (map (take size) rows) xs) ≡ length rows
length_along size rows xs = length-map (map (take size) rows) (λ (row : List ℤ). dot row xs) ∙ length-map rows (take {A = ℤ} size)

-- a number of 105 bits as one of 128 bits, and a small one as one of 64 bits
pub as_wide : (r : ℤ) → unsigned_abs r ≤ 2 ^ 105 → to_z w128 (of_z w128 r) ≡ r
as_wide r small = let f : FitsSigned w128 r = omega (arith, ints, small) in simp to_z-of_z

pub as_narrow : (r : ℤ) → unsigned_abs r ≤ 2 ^ 40 → to_z w64 (of_z w64 r) ≡ r
as_narrow r small = let f : FitsSigned w64 r = omega (arith, ints, small) in simp to_z-of_z
