-- In which order the coefficients of forms are met among rows that come one by one.
use Rattle.std.proofs.Common.{◌≡◌, ◌≢◌, ℕ, zero, suc, ◌⊎◌, ⊎_elim, ℤ, List, [], ◌∷◌, ◌++◌, length, get_or, take, refl, sym, ◌∙◌, ap, subst}
use Rattle.std.proofs.Math.Seq.{take-append_seam}
use Rattle.std.specs.List.{All, Any}
use Rattle.av_affine.specs.declared.form.Form.{Form}
use Rattle.av_poly.specs.Normal.{IsConstant, IsDivided, Tightens, HasDirection, IsMetBefore}
use Rattle.av_poly.proofs.Dividing.{divided_once, not_constant}

-- a first part of the list is a first part of the longer one
first_part : (c : ℕ) (xs : List Form) (x : Form) → (k : ℕ) × (take k (xs ++ x ∷ []) ≡ take c xs)
first_part zero xs x = (0, none xs)
  where
    none : (ys : List Form) → take 0 (ys ++ x ∷ []) ≡ take 0 ys
    none [] = refl
    none (y ∷ ys) = refl
first_part (suc c) [] x = (0, refl)
first_part (suc c) (y ∷ ys) x = let (k, e) = first_part c ys x in (suc k, ap (λ (zs : List Form). y ∷ zs) e)

-- what is met before stays so with one more row
pub met_more : (dim : ℕ) (rows : List Form) (row a b : Form) → IsMetBefore dim rows a b → IsMetBefore dim (rows ++ row ∷ []) a b
met_more dim rows row a b m =
    let (k, e) = first_part m.count rows row in
    record {
      count = k;
      met = subst (Any (HasDirection dim a.coef)) (sym e) m.met;
      not_met = subst (All (λ r. HasDirection dim b.coef r → ⊥)) (sym e) m.not_met;
    }

-- only the coefficients matter
pub met_alike : (dim : ℕ) (rows : List Form) (a b c d : Form) → a.coef ≡ c.coef → b.coef ≡ d.coef → IsMetBefore dim rows a b → IsMetBefore dim rows c d
met_alike dim rows a b c d p q m = record {
  count = m.count;
  met = subst (λ (coef : List ℤ). Any (HasDirection dim coef) (take m.count rows)) p m.met;
  not_met = subst (λ (coef : List ℤ). All (λ r. HasDirection dim coef r → ⊥) (take m.count rows)) q m.not_met;
}

-- coefficients of a divided row are met before those that the last row alone has
pub met_last : (dim : ℕ) (rows new : List Form) (row a b : Form) → Any (λ old. IsDivided dim old a) rows → All (λ r. IsConstant dim r ⊎ Any (Tightens dim r) new) rows → All (λ other. other.coef ≢ b.coef) new
    → IsMetBefore dim (rows ++ row ∷ []) a b
met_last dim rows new row a b (k, x, l, e, d) least apart =
    let all : take (length rows) (rows ++ row ∷ []) ≡ rows = take-append_seam rows (row ∷ []) in
    record {
      count = length rows;
      met = subst (Any (HasDirection dim a.coef)) (sym all) (k, x, l, e, (a, d, refl));
      not_met = subst (All (λ r. HasDirection dim b.coef r → ⊥)) (sym all) (λ j f m h. elsewhere (get_or rows j f) h (least j f m));
    }
  where
    elsewhere : (r : Form) → HasDirection dim b.coef r → IsConstant dim r ⊎ Any (Tightens dim r) new → ⊥
    elsewhere r (s, is, same) w = ⊎_elim
        (λ c. not_constant dim r s is c)
        (λ (j, y, m, f, t).
        apart j y m (ap (λ (z : Form). z.coef) f ∙ t.coef ∙ ap (λ (z : Form). z.coef) (divided_once dim r t.divided s t.is_divided is) ∙ same))
        w
