-- Rows that cannot hold at once.
use Rattle.std.proofs.Common.{◌≡◌, ℕ, ◌<◌, ℤ, pos, ◌+ℤ◌, ◌-ℤ◌, ◌<ℤ◌, List, length, map, get_or, refl, subst, sym, arith}
use Rattle.std.proofs.lemmas.Int.{ints}
use Rattle.std.proofs.lemmas.List.Elements.{All-from_recursion}
use Rattle.av_affine.specs.declared.form.Form.{Form}
use Rattle.av_poly.specs.Points.{Holds, HoldsAt}
use Rattle.av_poly.proofs.Parting.{complement_points}

-- opposite coefficients, and constants that add up to less than 0
pub opposed : (row other : Form) (z : List ℤ) → other.coef ≡ map (λ x. pos 0 -ℤ x) row.coef → (row.constant +ℤ other.constant) <ℤ pos 0 → HoldsAt row z → HoldsAt other z → ⊥
opposed row other z e l h k =
    let least : Form = record { coef = other.coef; constant = pos 0 -ℤ row.constant -ℤ pos 1 } in
    (complement_points row least z e refl).0 (omega (arith, ints, l, k)) h

pub holds_at : (rows : List Form) (i : ℕ) (row : Form) (z : List ℤ) → i < length rows → row ≡ get_or rows i row → Holds rows z → HoldsAt row z
holds_at rows i row z l e h = subst (λ (r : Form). HoldsAt r z) (sym e) (All-from_recursion (λ r. HoldsAt r z) rows h i row l)
