-- The tightest rows of rows that come one by one.
use Rattle.std.proofs.Common.{◌≡◌, ◌≢◌, ℕ, ◌<◌, ◌⊎◌, inl, inr, arith, ℤ, List, [], ◌∷◌, ◌++◌, length, length-set, get_or, refl, sym, ◌∙◌, ap, ap₂, subst}
use Rattle.std.proofs.Math.ListN.{set}
use Rattle.std.specs.List.{All, Any}
use Rattle.std.specs.Int.{int_min}
use Rattle.std.proofs.lemmas.Bool.{cases_eq}
use Rattle.std.proofs.lemmas.Int.{ints, clamps, by_lt_z}
use Rattle.std.proofs.lemmas.List.{get_or-set_same, get_or-set_other, get_or_default}
use Rattle.std.proofs.lemmas.List.Elements.{All-nil, All-push, All-weaker, All-set}
use Rattle.std.proofs.lemmas.List.Quantifiers.{all_pairs_push}
use Rattle.av_affine.specs.declared.form.Form.{Form}
use Rattle.av_poly.specs.Normal.{IsConstant, IsDivided, Tightens, IsMetBefore, AreTightest}
use Rattle.av_base.proofs.Anys.{any_before, any_last, any_set}
use Rattle.av_poly.proofs.Meeting.{met_more, met_alike, met_last}

-- a row with its constant lowered to another's
abbrev pub lower : Form → ℤ → Form
lower row constant = record { coef = row.coef; constant = int_min row.constant constant }

pub same_form : (a b : Form) → a.coef ≡ b.coef → a.constant ≡ b.constant → a ≡ b
same_form a b p q = ap₂ (λ coef constant. record { coef = coef; constant = constant }) p q

-- the lowered row is one of the two
lower_cases : (row other : Form) → row.coef ≡ other.coef → (lower row other.constant ≡ row) ⊎ (lower row other.constant ≡ other)
lower_cases row other e =
    by_lt_z other.constant row.constant
    (λ h. inr (same_form (lower row other.constant) other e (omega (arith, ints, clamps, h))))
    (λ h. inl (same_form (lower row other.constant) row refl (omega (arith, ints, clamps, h))))

pub tight_none : (dim : ℕ) → AreTightest dim [] []
tight_none dim = record { divided = All-nil _; least = All-nil _; distinct = λ i j d l m. absurd (omega arith); order = λ i j d l m. absurd (omega arith) }

-- a row without coefficients
pub tight_constant : (dim : ℕ) (old new : List Form) (row : Form) → AreTightest dim old new → IsConstant dim row → AreTightest dim (old ++ row ∷ []) new
tight_constant dim old new row h k = record {
  divided = All-weaker (λ r. Any (λ o. IsDivided dim o r) old) (λ r. Any (λ o. IsDivided dim o r) (old ++ row ∷ [])) (λ r. any_before (λ o. IsDivided dim o r) old row) new h.divided;
  least = All-push (λ r. IsConstant dim r ⊎ Any (Tightens dim r) new) old row h.least (inl k);
  distinct = h.distinct;
  order = λ i j d l m. met_more dim old row (get_or new i d) (get_or new j d) (h.order i j d l m);
}

tightens_itself : (dim : ℕ) (row divided : Form) → IsDivided dim row divided → Tightens dim row divided
tightens_itself dim row divided s = record { divided = divided; is_divided = s; coef = refl; constant = omega (arith, ints) }

-- a row with other coefficients than those before
pub tight_pushed : (dim : ℕ) (old new : List Form) (row divided : Form) → AreTightest dim old new → IsDivided dim row divided → All (λ other. other.coef ≢ divided.coef) new
    → AreTightest dim (old ++ row ∷ []) (new ++ divided ∷ [])
tight_pushed dim old new row divided h s n = record {
  divided = All-push (λ r. Any (λ o. IsDivided dim o r) (old ++ row ∷ [])) new divided
      (All-weaker (λ r. Any (λ o. IsDivided dim o r) old) (λ r. Any (λ o. IsDivided dim o r) (old ++ row ∷ [])) (λ r. any_before (λ o. IsDivided dim o r) old row) new h.divided)
      (any_last (λ o. IsDivided dim o divided) old row s);
  least = All-push (λ r. IsConstant dim r ⊎ Any (Tightens dim r) (new ++ divided ∷ [])) old row
      (All-weaker (λ r. IsConstant dim r ⊎ Any (Tightens dim r) new) (λ r. IsConstant dim r ⊎ Any (Tightens dim r) (new ++ divided ∷ []))
      (λ r w. elim w [ inl c ↦ inl c | inr a ↦ inr (any_before (Tightens dim r) new divided a) ]) old h.least)
      (inr (any_last (Tightens dim row) new divided (tightens_itself dim row divided s)));
  distinct = all_pairs_push (λ a b. a.coef ≢ b.coef) new divided h.distinct n;
  order = all_pairs_push (IsMetBefore dim (old ++ row ∷ [])) new divided
      (λ i j d l m. met_more dim old row (get_or new i d) (get_or new j d) (h.order i j d l m))
      (λ k d l. met_last dim old new row (get_or new k d) divided (h.divided k d l) h.least n);
}

coef_set : (new : List Form) (j : ℕ) (v : Form) (i : ℕ) (d : Form) → j < length new → v.coef ≡ (get_or new j v).coef → (get_or (set new j v) i d).coef ≡ (get_or new i d).coef
coef_set new j v i d l e = elim (cases_eq i j) [
  | inl s ↦ ap (λ (k : ℕ). (get_or (set new j v) k d).coef) s ∙ ap (λ (f : Form). f.coef) (get_or-set_same new j v d l) ∙ e ∙ ap (λ (f : Form). f.coef) (get_or_default new j v d l) ∙ ap (λ (k : ℕ). (get_or new k d).coef) (sym s)
  | inr n ↦ ap (λ (f : Form). f.coef) (get_or-set_other new j i v d n)
]

-- a row with the coefficients of one before
pub tight_lowered : (dim : ℕ) (old new : List Form) (row divided at : Form) (j : ℕ) → AreTightest dim old new → IsDivided dim row divided → j < length new → get_or new j divided ≡ at → at.coef ≡ divided.coef
    → AreTightest dim (old ++ row ∷ []) (set new j (lower at divided.constant))
tight_lowered dim old new row divided at j h s l g e = record {
  divided = All-set (λ r. Any (λ o. IsDivided dim o r) (old ++ row ∷ [])) new j v from
      (All-weaker (λ r. Any (λ o. IsDivided dim o r) old) (λ r. Any (λ o. IsDivided dim o r) (old ++ row ∷ [])) (λ r. any_before (λ o. IsDivided dim o r) old row) new h.divided);
  least = All-push (λ r. IsConstant dim r ⊎ Any (Tightens dim r) (set new j v)) old row
      (All-weaker (λ r. IsConstant dim r ⊎ Any (Tightens dim r) new) (λ r. IsConstant dim r ⊎ Any (Tightens dim r) (set new j v))
      (λ r w. elim w [ inl c ↦ inl c | inr a ↦ inr (any_set (Tightens dim r) new j v l (keep r) a) ]) old h.least)
      (inr (j, v, omega (arith, l, length-set new j v), get_or-set_same new j v v l, record { divided = divided; is_divided = s; coef = e; constant = omega (arith, ints, clamps) }));
  distinct = λ i k d m n q. h.distinct i k d m (omega (arith, n, length-set new j v)) (sym (coef_set new j v i d l same) ∙ q ∙ coef_set new j v k d l same);
  order = λ i k d m n. met_alike dim (old ++ row ∷ []) (get_or new i d) (get_or new k d) (get_or (set new j v) i d) (get_or (set new j v) k d) (sym (coef_set new j v i d l same)) (sym (coef_set new j v k d l same))
      (met_more dim old row (get_or new i d) (get_or new k d) (h.order i k d m (omega (arith, n, length-set new j v))));
}
  where
    v : Form
    v = lower at divided.constant

    same : at.coef ≡ (get_or new j (lower at divided.constant)).coef
    same = ap (λ (f : Form). f.coef) (sym g ∙ get_or_default new j divided (lower at divided.constant) l)

    from : Any (λ o. IsDivided dim o (lower at divided.constant)) (old ++ row ∷ [])
    from = elim (lower_cases at divided e) [
      | inl q ↦ any_before (λ o. IsDivided dim o (lower at divided.constant)) old row (subst (λ (r : Form). Any (λ o. IsDivided dim o r) old) (g ∙ sym q) (h.divided j divided l))
      | inr q ↦ any_last (λ o. IsDivided dim o (lower at divided.constant)) old row (subst (IsDivided dim row) (sym q) s)
    ]

    keep : (r x : Form) → get_or new j x ≡ x → Tightens dim r x → Tightens dim r (lower at divided.constant)
    keep r x p t =
        let i : at ≡ x = sym g ∙ get_or_default new j divided x l ∙ p in
        let c = t.constant in
        record {
          divided = t.divided;
          is_divided = t.is_divided;
          coef = ap (λ (f : Form). f.coef) i ∙ t.coef;
          constant = let k = ap (λ (f : Form). f.constant) i in omega (arith, ints, clamps, c, k);
        }
