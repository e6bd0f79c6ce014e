-- What normalised rows say: the same points, and primitive rows.
use Rattle.std.proofs.Common.{◌≡◌, ℕ, zero, suc, ◌↔◌, ◌⊎◌, inl, inr, arith, ℤ, pos, ◌≤ℤ◌, List, [], ◌∷◌, length, get_or, refl, sym, ◌∙◌, ap, ap₂, subst}
use Rattle.std.proofs.Math.Nat.{zero-div}
use Rattle.std.specs.List.{All, Any}
use Rattle.std.specs.Int.{int_div_euclid}
use Rattle.std.proofs.lemmas.Int.{ints}
use Rattle.std.proofs.lemmas.List.Elements.{All-from_recursion, recursion_from_All, All-weaker}
use Rattle.av_affine.specs.declared.form.Form.{Form}
use Rattle.av_affine.specs.Numbers.{dot, IsGcdOf}
use Rattle.av_affine.proofs.Exact.{divided, divided_primitive}
use Rattle.av_poly.specs.Points.{Set, Has, Holds, HoldsAt}
use Rattle.av_poly.specs.Normal.{counted, IsConstant, IsNever, IsDivided, Tightens, AreTightest, AreNormalised, IsPrimitive, IsNormal, impossible}
use Rattle.av_poly.proofs.Dividing.{value_constant, same_points}

each_from : (rows : List Form) (z : List ℤ) → Holds rows z → All (λ row. HoldsAt row z) rows
each_from rows z h = All-from_recursion (λ row. HoldsAt row z) rows h

-- the tightest rows hold where the rows do
tightest_points : (dim : ℕ) (old new : List Form) (z : List ℤ) → length z ≡ dim → All (λ row. IsConstant dim row → pos 0 ≤ℤ row.constant) old → AreTightest dim old new → Holds new z ↔ Holds old z
tightest_points dim old new z n never s = (
  (λ h. recursion_from_All (λ row. HoldsAt row z) old (λ k d l. one (get_or old k d) (never k d l) (each_from new z h) (s.least k d l))),
  (λ h. recursion_from_All (λ row. HoldsAt row z) new (λ k d l. back (get_or new k d) (each_from old z h) (s.divided k d l))),
)
  where
    one : (row : Form) → (IsConstant dim row → pos 0 ≤ℤ row.constant) → All (λ r. HoldsAt r z) new → IsConstant dim row ⊎ Any (Tightens dim row) new → HoldsAt row z
    one row k h (inl c) = let e = value_constant dim row z n c in let f = k c in omega (arith, ints, e, f)
    one row k h (inr (j, x, l, e, t)) =
        let at : HoldsAt x z = subst (λ (r : Form). HoldsAt r z) e (h j x l) in
        let same : dot x.coef z ≡ dot t.divided.coef z = ap (λ xs. dot xs z) t.coef in
        let less = t.constant in
        let up : HoldsAt t.divided z = omega (arith, ints, at, same, less) in
        (same_points dim row t.divided z n t.is_divided).1 up

    back : (row : Form) → All (λ r. HoldsAt r z) old → Any (λ o. IsDivided dim o row) old → HoldsAt row z
    back row h (j, x, l, e, t) = (same_points dim x row z n t).0 (subst (λ (r : Form). HoldsAt r z) e (h j x l))

pub normal_points : (dim : ℕ) (old new : List Form) (z : List ℤ) → length z ≡ dim → AreNormalised dim old new → Holds new z ↔ Holds old z
normal_points dim old new z n (inl (w, e)) = ((λ h. absurd (nowhere (subst (λ (rows : List Form). Holds rows z) e h).0)), (λ h. absurd (never (each_from old z h) w)))
  where
    nowhere : HoldsAt impossible z → ⊥
    nowhere h = go z h
      where
        go : (z : List ℤ) → HoldsAt impossible z → ⊥
        go [] h = omega (arith, ints, h)
        go (a ∷ []) h = omega (arith, ints, h)
        go (a ∷ b ∷ []) h = omega (arith, ints, h)
        go (a ∷ b ∷ c ∷ []) h = omega (arith, ints, h)
        go (a ∷ b ∷ c ∷ d ∷ z) h = omega (arith, ints, h)

    never : All (λ r. HoldsAt r z) old → Any (IsNever dim) old → ⊥
    never h (j, x, l, q, t) =
        let at : HoldsAt x z = subst (λ (r : Form). HoldsAt r z) q (h j x l) in
        let v = value_constant dim x z n t.no_coefficients in
        let c = t.negative in
        omega (arith, ints, at, v, c)
normal_points dim old new z n (inr (never, s)) = tightest_points dim old new z n never s

-- ---- primitive rows

pub counted_divided : (n g : ℕ) (xs : List ℤ) → counted n (divided (counted n xs) g) ≡ divided (counted n xs) g
counted_divided n g [] = refl
counted_divided zero g (x ∷ xs) = ap₂ (λ (y : ℤ) ys. y ∷ ys) (ap pos (sym (zero-div g))) (counted_divided zero g xs)
counted_divided (suc n) g (x ∷ xs) = ap (λ ys. int_div_euclid x (pos g) ∷ ys) (counted_divided n g xs)

pub normal_is : (set : Set) (old : List Form) → AreNormalised set.dim old set.rows → IsNormal set
normal_is set old (inl w) = inl w.1
normal_is set old (inr (never, s)) = inr (All-weaker (λ row. Any (λ o. IsDivided set.dim o row) old) (IsPrimitive set.dim) (λ row w. primitive row w) set.rows s.divided, s.distinct)
  where
    primitive : (row : Form) → Any (λ o. IsDivided set.dim o row) old → IsPrimitive set.dim row
    primitive row (j, x, l, e, t) = record {
      gcd = subst (λ (xs : List ℤ). IsGcdOf xs 1) (sym t.coef) (divided_primitive (counted set.dim x.coef) t.divisor t.positive t.gcd);
      counts = subst (λ (xs : List ℤ). counted set.dim xs ≡ xs) (sym t.coef) (counted_divided set.dim t.divisor x.coef);
    }

-- the points of a set whose rows are normalised
pub normal_set : (new old : Set) (z : List ℤ) → new.dim ≡ old.dim → AreNormalised old.dim old.rows new.rows → Has new z ↔ Has old z
normal_set new old z d s = (
  (λ h. record { dimension = h.dimension ∙ d; holds = (normal_points old.dim old.rows new.rows z (h.dimension ∙ d) s).0 h.holds }),
  (λ h. record { dimension = h.dimension ∙ sym d; holds = (normal_points old.dim old.rows new.rows z h.dimension s).1 h.holds }),
)
