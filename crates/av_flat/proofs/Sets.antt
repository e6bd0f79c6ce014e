-- The test of a point decides whether the set has it.
use Rattle.std.proofs.Common.{◌≡◌, ◌↔◌, ℕ, ℤ, pos, ◌≤ℤ◌, Bool, true, false, IsTrue, List, [], ◌∷◌, length, refl, arith}
use Rattle.std.specs.Prelude.{nat_eq, int_le, ◌&&◌}
use Rattle.std.specs.List.{list_all}
use Rattle.std.proofs.lemmas.Int.{ints}
use Rattle.av_affine.specs.declared.form.Form.{Form}
use Rattle.av_affine.specs.Forms.{value_at}
use Rattle.av_poly.specs.Points.{Set, Has, Holds}
use Rattle.av_tree.specs.Points.{Point}
use Rattle.av_flat.specs.Points.{has, holds}

pub both_true : (a b : Bool) → IsTrue (a && b) → IsTrue a × IsTrue b
both_true true b h = (refl, h)
both_true false b h = absurd cc

pub both_hold : (a b : Bool) → IsTrue a → IsTrue b → IsTrue (a && b)
both_hold true b h k = k
both_hold false b h k = absurd cc

pub at_most : (j k : ℤ) → IsTrue (int_le j k) → j ≤ℤ k
at_most j k h = omega (arith, ints, h)

pub is_at_most : (j k : ℤ) → j ≤ℤ k → IsTrue (int_le j k)
is_at_most j k h = go (int_le j k) refl
  where
    go : (t : Bool) → int_le j k ≡ t → IsTrue (int_le j k)
    go true e = e
    go false e = absurd (omega (arith, ints, h, e))

pub equal : (m n : ℕ) → IsTrue (nat_eq m n) → m ≡ n
equal m n h = grind arith

pub is_equal : (m n : ℕ) → m ≡ n → IsTrue (nat_eq m n)
is_equal m n h = grind arith

rows_hold : (rows : List Form) (z : Point) → IsTrue (list_all (holds z) rows) → Holds rows z
rows_hold [] z h = tt
rows_hold (row ∷ rows) z h = let p = both_true (holds z row) (list_all (holds z) rows) h in (at_most (pos 0) (value_at row z) p.0, rows_hold rows z p.1)

all_pass : (rows : List Form) (z : Point) → Holds rows z → IsTrue (list_all (holds z) rows)
all_pass [] z h = refl
all_pass (row ∷ rows) z h = both_hold (holds z row) (list_all (holds z) rows) (is_at_most (pos 0) (value_at row z) h.0) (all_pass rows z h.1)

pub has_is : (set : Set) (z : Point) → IsTrue (has set z) ↔ Has set z
has_is set z = (
  (λ h. let p = both_true (nat_eq (length z) set.dim) (list_all (holds z) set.rows) h in record { dimension = equal (length z) set.dim p.0; holds = rows_hold set.rows z p.1 }),
  (λ h. both_hold (nat_eq (length z) set.dim) (list_all (holds z) set.rows) (is_equal (length z) set.dim h.dimension) (all_pass set.rows z h.holds)),
)
