-- The completion of a vector to a matrix with a whole inverse (own rule: unit rows beside one entry 1 or -1, else a row of
-- signs at two entries whose absolute values differ by 1).
use Rattle.std.specs.Prelude.{◌≡◌, ℕ, ℤ, pos, ◌<◌, not, ◌||◌, List, [], ◌∷◌, length, map, take, filter, Contains, unsigned_abs, slice_index_or, nat_eq, if◌then◌else◌}
use Rattle.std.specs.Int.{int_signum}
use Rattle.std.specs.List.{range_with_len, list_any}
use Rattle.av_affine.specs.declared.square.Square.{Square}

-- the rows of a matrix
abbrev pub rows_of : Square → List (List ℤ)
rows_of m = map (take m.size) (take m.size m.cells)

-- the first row
abbrev pub first_row : Square → List ℤ
first_row m = take m.size (slice_index_or m.cells 0 [])

-- the entry at a position
abbrev pub entry : List ℤ → ℕ → ℤ
entry v k = slice_index_or v k (pos 0)

-- k is the last position of an entry whose absolute value is one of these
pub record IsLastOf (sizes : List ℕ) (v : List ℤ) (k : ℕ) : Type 0 where
  pub within : k < length v
  pub here : Contains sizes (unsigned_abs (entry v k))
  pub after : (l : ℕ) → k < l → l < length v → Contains sizes (unsigned_abs (entry v l)) → ⊥

-- no entry has one of these absolute values
abbrev pub HasNone : List ℕ → List ℤ → Type 0
HasNone sizes v = (l : ℕ) → l < length v → Contains sizes (unsigned_abs (entry v l)) → ⊥

-- the positions below n but these, ascending
abbrev pub positions_but : List ℕ → ℕ → List ℕ
positions_but left n = filter (λ k. not (list_any (nat_eq k) left)) (range_with_len 0 n)

-- the row of n entries with 1 at a position, and 0 elsewhere
abbrev pub unit_row : ℕ → ℕ → List ℤ
unit_row n k = map (λ j. if nat_eq j k then pos 1 else pos 0) (range_with_len 0 n)

-- the row with the signs of the entries at two positions, and 0 elsewhere
abbrev pub signs_at : ℕ → ℕ → List ℤ → List ℤ
signs_at p q v = map (λ j. if nat_eq j p || nat_eq j q then int_signum (entry v j) else pos 0) (range_with_len 0 (length v))

-- the rows that complete v: v itself, then the row of signs where no entry is 1 or -1, then unit rows
pub data IsCompletion (v : List ℤ) (rows : List (List ℤ)) : Type 0 where
  beside_one : (p : ℕ) → IsLastOf (1 ∷ []) v p → rows ≡ v ∷ map (unit_row (length v)) (positions_but (p ∷ []) (length v)) → IsCompletion v rows
  beside_two : (p q : ℕ) → HasNone (1 ∷ []) v → IsLastOf (3 ∷ []) v p → IsLastOf (2 ∷ 4 ∷ []) v q
      → rows ≡ v ∷ signs_at p q v ∷ map (unit_row (length v)) (positions_but (p ∷ q ∷ []) (length v)) → IsCompletion v rows
