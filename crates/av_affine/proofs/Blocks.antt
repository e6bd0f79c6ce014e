-- Rows of the inverse of a completed matrix.
use Rattle.std.proofs.Common.{◌≡◌, ◌≢◌, ℕ, refl, ℤ, ◌*ℤ◌, neg_ℤ, List, eq-eqb}
use Rattle.std.specs.Int.{int_signum}
use Rattle.std.proofs.lemmas.Bool.{ne_eqb}
use Rattle.av_affine.specs.Completion.{entry}
use Rattle.av_affine.specs.Cells.{skip, turn, one_solved, one_unit, one_inverse, two_solved, two_unit, two_inverse}

pub one_at : (v : List ℤ) (p i j : ℕ) → i ≡ p → one_inverse v p i j ≡ one_solved v p j
one_at v p i j e = let t = eq-eqb i p e in rw t refl

pub one_beside : (v : List ℤ) (p i j : ℕ) → i ≢ p → one_inverse v p i j ≡ one_unit p i j
one_beside v p i j e = let t = ne_eqb i p e in rw t refl

pub two_at : (v : List ℤ) (p r i j : ℕ) → i ≡ p
    → two_inverse v p r i j ≡ two_solved v p r (turn (entry v p) (entry v (skip p r)) *ℤ int_signum (entry v (skip p r))) (neg_ℤ (turn (entry v p) (entry v (skip p r)) *ℤ entry v (skip p r))) j
two_at v p r i j e = let t = eq-eqb i p e in rw t refl

pub two_at_other : (v : List ℤ) (p r i j : ℕ) → i ≢ p → i ≡ skip p r
    → two_inverse v p r i j ≡ two_solved v p r (neg_ℤ (turn (entry v p) (entry v (skip p r)) *ℤ int_signum (entry v p))) (turn (entry v p) (entry v (skip p r)) *ℤ entry v p) j
two_at_other v p r i j n e = let t = ne_eqb i p n in let u = eq-eqb i (skip p r) e in rw (t, u) refl

pub two_beside : (v : List ℤ) (p r i j : ℕ) → i ≢ p → i ≢ skip p r → two_inverse v p r i j ≡ two_unit p r i j
two_beside v p r i j n m = let t = ne_eqb i p n in let u = ne_eqb i (skip p r) m in rw (t, u) refl
