-- Completed matrices and their inverses cell by cell. Only private contracts cite this.
use Rattle.std.specs.Prelude.{ℕ, ℤ, pos, zero, suc, ◌<◌, ◌-ℤ◌, ◌*ℤ◌, neg_ℤ, List, [], ◌∷◌, nat_eq, ◌||◌, if◌then◌else◌}
use Rattle.std.specs.Int.{int_signum}
use Rattle.av_affine.specs.declared.pivot.Pivot.{Pivot}
use Rattle.av_affine.specs.declared.pivot.Pivot.TheVariants.{One, Two}
use Rattle.av_affine.specs.Completion.{entry, IsLastOf, HasNone}

-- 1 where the numbers are equal, and 0 elsewhere
abbrev pub delta : ℕ → ℕ → ℤ
delta zero zero = pos 1
delta zero (suc j) = pos 0
delta (suc i) zero = pos 0
delta (suc i) (suc j) = delta i j

-- the number at a place among all but one
abbrev pub skip : ℕ → ℕ → ℕ
skip zero k = suc k
skip (suc l) zero = zero
skip (suc l) (suc k) = suc (skip l k)

-- the position at a place among all but two, the second of which is identified by its own place beside the first
abbrev pub skip_two : ℕ → ℕ → ℕ → ℕ
skip_two p r k = skip p (skip r k)

-- the positions are among n
abbrev pub IsAmong : ℕ → Pivot → Type 0
IsAmong n (One p) = p < n
IsAmong n (Two p r) = (p < n) × (suc r < n)

-- the last 1 or -1; or the last 3 or -3 and the last of absolute value 2 or 4, where there is none
abbrev pub IsPivot : List ℤ → Pivot → Type 0
IsPivot v (One p) = IsLastOf (1 ∷ []) v p
IsPivot v (Two p r) = HasNone (1 ∷ []) v × IsLastOf (3 ∷ []) v p × IsLastOf (2 ∷ 4 ∷ []) v (skip p r)

-- the vector, and the unit rows of all positions but one
abbrev pub one_cell : List ℤ → ℕ → ℕ → ℕ → ℤ
one_cell v p zero j = entry v j
one_cell v p (suc i) j = delta (skip p i) j

-- the vector, its signs at two positions, and the unit rows of the others
abbrev pub two_cell : List ℤ → ℕ → ℕ → ℕ → ℕ → ℤ
two_cell v p r zero j = entry v j
two_cell v p r (suc zero) j = if nat_eq j p || nat_eq j (skip p r) then int_signum (entry v j) else pos 0
two_cell v p r (suc (suc i)) j = delta (skip_two p r i) j

abbrev pub completed_cell : Pivot → List ℤ → ℕ → ℕ → ℤ
completed_cell (One p) v = one_cell v p
completed_cell (Two p r) v = two_cell v p r

-- the row that solves for the entry at p: what the others leave, times the entry of v there, which is 1 or -1
abbrev pub one_solved : List ℤ → ℕ → ℕ → ℤ
one_solved v p zero = entry v p
one_solved v p (suc j) = neg_ℤ (entry v p *ℤ entry v (skip p j))

-- the other rows: units
abbrev pub one_unit : ℕ → ℕ → ℕ → ℤ
one_unit p i zero = pos 0
one_unit p i (suc j) = delta (skip p j) i

abbrev pub one_inverse : List ℤ → ℕ → ℕ → ℕ → ℤ
one_inverse v p i j = if nat_eq i p then one_solved v p j else one_unit p i j

-- the row that solves for one of two entries, by its row of the inverse of their block
abbrev pub two_solved : List ℤ → ℕ → ℕ → ℤ → ℤ → ℕ → ℤ
two_solved v p r head second zero = head
two_solved v p r head second (suc zero) = second
two_solved v p r head second (suc (suc j)) = neg_ℤ (head *ℤ entry v (skip_two p r j))

-- the other rows: units
abbrev pub two_unit : ℕ → ℕ → ℕ → ℕ → ℤ
two_unit p r i zero = pos 0
two_unit p r i (suc zero) = pos 0
two_unit p r i (suc (suc j)) = delta (skip_two p r j) i

-- the determinant of the block of two numbers over their signs
abbrev pub turn : ℤ → ℤ → ℤ
turn a b = a *ℤ int_signum b -ℤ b *ℤ int_signum a

abbrev pub two_inverse : List ℤ → ℕ → ℕ → ℕ → ℕ → ℤ
two_inverse v p r i j =
    let a = entry v p in
    let b = entry v (skip p r) in
    if nat_eq i p
    then two_solved v p r (turn a b *ℤ int_signum b) (neg_ℤ (turn a b *ℤ b)) j
    else (if nat_eq i (skip p r) then two_solved v p r (neg_ℤ (turn a b *ℤ int_signum a)) (turn a b *ℤ a) j else two_unit p r i j)

abbrev pub inverse_cell : Pivot → List ℤ → ℕ → ℕ → ℤ
inverse_cell (One p) v = one_inverse v p
inverse_cell (Two p r) v = two_inverse v p r
