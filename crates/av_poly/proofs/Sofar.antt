-- Rows of which the first k are normalised in place, so that the first ones are kept and the rest is as it was.
use Rattle.std.proofs.Common.{◌≡◌, ◌≢◌, ℕ, suc, ◌<◌, ◌≤◌, ◌+◌, ◌^◌, inl, inr, arith, pos, ◌≤ℤ◌, ◌<ℤ◌, List, [], ◌∷◌, ◌++◌, length, length-set, get_or, take, refl, sym, ◌∙◌, ap, subst}
use Rattle.std.proofs.Math.ListN.{set}
use Rattle.std.proofs.Math.Seq.{take-set-lt, take-suc-set}
use Rattle.std.specs.List.{All}
use Rattle.std.specs.Int.RustNames.{unsigned_abs}
use Rattle.std.proofs.lemmas.Int.{ints, clamps}
use Rattle.std.proofs.lemmas.List.{get_or-set_other, get_or-take, get_or_default, take_more, length-take-le, take_all}
use Rattle.std.proofs.lemmas.List.Elements.{All-nil, All-push, All-set, All-take, All-from_recursion}
use Rattle.av_affine.specs.declared.form.Form.{Form}
use Rattle.av_poly.specs.Points.{IsSmall}
use Rattle.av_poly.specs.Normal.{IsConstant, IsDivided, AreTightest, AreNormalised, impossible}
use Rattle.av_poly.specs.inner.Placing.{Places}
use Rattle.av_poly.proofs.Dividing.{not_constant}
use Rattle.av_poly.proofs.Tightening.{lower, tight_none, tight_constant, tight_pushed, tight_lowered}

pub record AreSofar (dim : ℕ) (old rows : List Form) (kept k : ℕ) : Type 0 where
  pub few : kept ≤ k
  pub size : length rows ≡ length old
  pub rest : (j : ℕ) (d : Form) → k ≤ j → get_or rows j d ≡ get_or old j d
  pub small : All IsSmall rows
  pub none_never : All (λ row. IsConstant dim row → pos 0 ≤ℤ row.constant) (take k old)
  pub tight : AreTightest dim (take k old) (take kept rows)

pub sofar_none : (dim : ℕ) (old : List Form) → All IsSmall old → AreSofar dim old old 0 0
sofar_none dim old h = record { few = omega arith; size = refl; rest = λ j d l. refl; small = h; none_never = All-nil _; tight = tight_none dim }

-- a row without coefficients that holds
pub sofar_constant : (dim : ℕ) (old rows : List Form) (kept k : ℕ) (row d : Form) → AreSofar dim old rows kept k → k < length old → get_or old k d ≡ row → IsConstant dim row → pos 0 ≤ℤ row.constant
    → AreSofar dim old rows kept (k + 1)
sofar_constant dim old rows kept k row d s l e c n =
    let t = take_more old k d l ∙ ap (λ (r : Form). take k old ++ r ∷ []) e in
    let few = s.few in
    record {
      few = omega (arith, few);
      size = s.size;
      rest = λ j x m. s.rest j x (omega (arith, m));
      small = s.small;
      none_never = subst (All (λ row. IsConstant dim row → pos 0 ≤ℤ row.constant)) (sym t) (All-push (λ row. IsConstant dim row → pos 0 ≤ℤ row.constant) (take k old) row s.none_never (λ _. n));
      tight = subst (λ (rs : List Form). AreTightest dim rs (take kept rows)) (sym t) (tight_constant dim (take k old) (take kept rows) row s.tight c);
    }

-- a row with coefficients, whose divided row lowers one that is kept
sofar_lowered : (dim : ℕ) (old rows : List Form) (kept k : ℕ) (row d divided : Form) (place : ℕ) → AreSofar dim old rows kept k → k < length old → get_or old k d ≡ row → IsDivided dim row divided → IsSmall divided
    → place < kept → (get_or rows place divided).coef ≡ divided.coef → AreSofar dim old (set rows place (lower (get_or rows place divided) divided.constant)) kept (k + 1)
sofar_lowered dim old rows kept k row d divided place s l e is sd p c =
    let at = get_or rows place divided in
    let v = lower at divided.constant in
    let few = s.few in
    let size = s.size in
    let within : place < length rows = omega (arith, few, size) in
    let small = s.small place divided within in
    let ca = small.constant in
    let cd = sd.constant in
    let t = take_more old k d l ∙ ap (λ (r : Form). take k old ++ r ∷ []) e in
    let short = length-take-le kept rows (omega (arith, few, size)) in
    let low = tight_lowered dim (take k old) (take kept rows) row divided at place s.tight is (omega (arith, short)) (get_or-take kept rows place divided p) c in
    record {
      few = omega (arith, few);
      size = length-set rows place v ∙ s.size;
      rest = λ j x m. get_or-set_other rows place j v x (λ q. omega (arith, q, m, few)) ∙ s.rest j x (omega (arith, m));
      small = All-set IsSmall rows place v (record { coefficients = small.coefficients; constant = omega (arith, ints, clamps, ca, cd) }) s.small;
      none_never = subst (All (λ row. IsConstant dim row → pos 0 ≤ℤ row.constant)) (sym t) (All-push (λ row. IsConstant dim row → pos 0 ≤ℤ row.constant) (take k old) row s.none_never (λ h. absurd (not_constant dim row divided is h)));
      tight = rw (t, take-set-lt kept rows place v p) low;
    }

-- a row with coefficients, whose divided row is kept
sofar_pushed : (dim : ℕ) (old rows : List Form) (kept k : ℕ) (row d divided : Form) → AreSofar dim old rows kept k → k < length old → get_or old k d ≡ row → IsDivided dim row divided → IsSmall divided
    → All (λ other. other.coef ≢ divided.coef) (take kept rows) → AreSofar dim old (set rows kept divided) (suc kept) (k + 1)
sofar_pushed dim old rows kept k row d divided s l e is sd n =
    let few = s.few in
    let size = s.size in
    let within : kept < length rows = omega (arith, few, size) in
    let t = take_more old k d l ∙ ap (λ (r : Form). take k old ++ r ∷ []) e in
    let more = tight_pushed dim (take k old) (take kept rows) row divided s.tight is n in
    record {
      few = omega (arith, few);
      size = length-set rows kept divided ∙ s.size;
      rest = λ j x m. get_or-set_other rows kept j divided x (λ q. omega (arith, q, m, few)) ∙ s.rest j x (omega (arith, m));
      small = All-set IsSmall rows kept divided sd s.small;
      none_never = subst (All (λ row. IsConstant dim row → pos 0 ≤ℤ row.constant)) (sym t) (All-push (λ row. IsConstant dim row → pos 0 ≤ℤ row.constant) (take k old) row s.none_never (λ h. absurd (not_constant dim row divided is h)));
      tight = rw (t, take-suc-set rows kept divided within) more;
    }

pub sofar_placed : (dim : ℕ) (old rows new : List Form) (kept k count : ℕ) (row d divided : Form) → AreSofar dim old rows kept k → k < length old → get_or old k d ≡ row → IsDivided dim row divided → IsSmall divided
    → Places kept divided rows new count → AreSofar dim old new count (k + 1)
sofar_placed dim old rows new kept k count row d divided s l e is sd w = elim w [
  | inl v ↦ rw (v.0, v.1.new_rows) (sofar_lowered dim old rows kept k row d divided v.1.place s l e is sd v.1.within v.1.coef)
  | inr v ↦ rw (v.0, v.2) (sofar_pushed dim old rows kept k row d divided s l e is sd v.1)
]

-- a false row
pub sofar_never : (dim : ℕ) (old rows new : List Form) (kept k : ℕ) (row d first : Form) → AreSofar dim old rows kept k → k < length old → get_or old k d ≡ row → IsConstant dim row → row.constant <ℤ pos 0
    → first ≡ impossible → new ≡ take 1 (set rows 0 first) → AreNormalised dim old new × All IsSmall new
sofar_never dim old rows new kept k row d first s l e c n i q =
    let size = s.size in
    let one = q ∙ front rows first (omega (arith, size)) ∙ ap (λ (r : Form). r ∷ []) i in (
      inl ((k, row, l, get_or_default old k row d l ∙ e, record { no_coefficients = c; negative = n }), one),
      subst (All IsSmall) (sym one) (All-push IsSmall [] impossible (All-nil IsSmall) impossible_small),
    )
  where
    front : (rows : List Form) (first : Form) → 0 < length rows → take 1 (set rows 0 first) ≡ first ∷ []
    front [] first h = absurd (omega arith)
    front (r ∷ rows) first h = refl

    impossible_small : IsSmall impossible
    impossible_small = record { coefficients = All-from_recursion (λ x. unsigned_abs x ≤ 2 ^ 40) (pos 0 ∷ pos 0 ∷ pos 0 ∷ pos 0 ∷ []) (omega arith, (omega arith, (omega arith, (omega arith, tt)))); constant = omega arith }

-- all rows
pub sofar_all : (dim : ℕ) (old rows new : List Form) (kept k : ℕ) → AreSofar dim old rows kept k → length old ≤ k → new ≡ take kept rows → AreNormalised dim old new × All IsSmall new
sofar_all dim old rows new kept k s l q =
    let t = take_all k old l in (
      rw q (inr (subst (λ (rs : List Form). All (λ row. IsConstant dim row → pos 0 ≤ℤ row.constant) rs × AreTightest dim rs (take kept rows)) t (s.none_never, s.tight))),
      rw q (All-take IsSmall kept rows s.small),
    )
