-- What the steps so far leave of rows.
use Rattle.std.proofs.Common.{◌≡◌, ◌≢◌, ℕ, zero, suc, ◌+◌, ◌^◌, ◌<◌, ◌≤◌, arith, ℤ, List, [], ◌∷◌, refl, sym, ◌∙◌, subst, ⊎_elim, lit≤}
use Rattle.std.specs.List.{AllByRecursion, All}
use Rattle.std.proofs.lemmas.List.Elements.{All-from_recursion, recursion_from_All}
use Rattle.std.proofs.lemmas.Bool.{cases_eq, cases_lt}
use Rattle.av_affine.specs.declared.form.Form.{Form}
use Rattle.av_affine.specs.Forms.{IsWithinLimits}
use Rattle.av_poly.specs.Rational.{homogeneous}
use Rattle.av_elim.specs.inner.Rows.{line, Small, Shadow, Clear, StandsFor}
use Rattle.av_elim.specs.inner.Step.{eliminated, growth}
use Rattle.av_elim.proofs.Steps.{projects_by}
use Rattle.av_elim.proofs.Growth.{clear_here, clear_kept, small_eliminated}
use Rattle.av_elim.proofs.Merging.{larger, small_within}
use Rattle.av_elim.proofs.Shadows.{shadow_none, shadow_more}
use Rattle.av_base.proofs.Lists.{each_weaker}

-- the indices below j are eliminated, but for the one that is asked for
pub record Progress (index : ℕ) (rows : List (List ℤ)) (j : ℕ) (out : List (List ℤ)) : Type 0 where
  pub shadow : Shadow (suc j) (suc index) rows out
  pub clear : (i : ℕ) → 0 < i → i ≤ j → i ≢ suc index → Clear i out
  pub steps : ℕ
  pub before : j ≤ index → steps ≡ j
  pub after : index < j → steps + 1 ≡ j
  pub small : AllByRecursion (Small (growth steps)) out

each_line : (P : List ℤ → Type 0) (rows : List Form) → AllByRecursion P (homogeneous rows) → AllByRecursion (λ r. P (line r)) rows
each_line P [] h = tt
each_line P (r ∷ rows) h = (h.0, each_line P rows h.1)

pub all_lines : (P : List ℤ → Type 0) (rows : List Form) → AllByRecursion P (homogeneous rows) → All (λ r. P (line r)) rows
all_lines P rows h = All-from_recursion (λ r. P (line r)) rows (each_line P rows h)

pub small_rows : (rows : List Form) → All IsWithinLimits rows → AllByRecursion (Small (2 ^ 10)) (homogeneous rows)
small_rows rows h = go rows (recursion_from_All IsWithinLimits rows h)
  where
    go : (rows : List Form) → AllByRecursion IsWithinLimits rows → AllByRecursion (Small (2 ^ 10)) (homogeneous rows)
    go [] h = tt
    go (r ∷ rows) h = (small_within r h.0, go rows h.1)

grown_once : (n : ℕ) → n ≤ 1 → growth n ≤ 2 ^ 21
grown_once zero h = lit≤ tt
grown_once (suc zero) h = lit≤ tt
grown_once (suc (suc n)) h = absurd (omega arith)

grown_twice : (n : ℕ) → n ≤ 2 → growth n ≤ 2 ^ 43
grown_twice zero h = lit≤ tt
grown_twice (suc zero) h = lit≤ tt
grown_twice (suc (suc zero)) h = lit≤ tt
grown_twice (suc (suc (suc n))) h = absurd (omega arith)

growth_positive : (n : ℕ) → n ≤ 1 → 0 < growth n
growth_positive zero h = lit≤ tt
growth_positive (suc zero) h = lit≤ tt
growth_positive (suc (suc n)) h = absurd (omega arith)

pub first : (index : ℕ) (rows : List Form) (out : List (List ℤ)) → All IsWithinLimits rows → StandsFor (homogeneous rows) out → Progress index (homogeneous rows) 0 out
first index rows out h s = record {
  shadow = shadow_none 1 (suc index) (homogeneous rows) out s;
  clear = λ i l m. absurd (omega arith);
  steps = 0;
  before = λ l. refl;
  after = λ l. absurd (omega arith);
  small = s.small (2 ^ 10) (small_rows rows h);
}

once_at_most : (index last j s : ℕ) → index < 4 → last < 4 → index ≢ last → j < last → j ≢ index → (j ≤ index → s ≡ j) → (index < j → s + 1 ≡ j) → s ≤ 1
once_at_most index last j s a b n l m f g = ⊎_elim (λ k. omega (arith, g k)) (λ k. ⊎_elim (λ o. omega (arith, f k)) (λ o. omega (arith, f k)) (cases_lt index last)) (cases_lt index j)

twice_at_most : (index last s : ℕ) → index < 4 → last < 4 → index ≢ last → (last ≤ index → s ≡ last) → (index < last → s + 1 ≡ last) → s ≤ 2
twice_at_most index last s a b n f g = ⊎_elim (λ k. omega (arith, g k)) (λ k. omega (arith, f k)) (cases_lt index last)

module _ (index last j : ℕ) (rows : List (List ℤ)) (out : List Form) (a : index < 4) (b : last < 4) (n : index ≢ last) (l : j < last) (m : j ≢ index) (p : Progress index rows j (homogeneous out)) where
  few : p.steps ≤ 1
  few = once_at_most index last j p.steps a b n l m p.before p.after

  pub ready : All (λ r. Small (2 ^ 21) (line r)) out
  ready = all_lines (Small (2 ^ 21)) out (each_weaker (Small (growth p.steps)) (Small (2 ^ 21)) (λ r s. larger (growth p.steps) (2 ^ 21) r (grown_once p.steps few) s) (homogeneous out) p.small)

  pub next : (new : List (List ℤ)) → StandsFor (eliminated (suc j) (homogeneous out)) new → Progress index rows (j + 1) new
  next new s = record {
    shadow = shadow_more (suc j) (suc (j + 1)) (suc index) (suc j) rows (homogeneous out) new (omega arith) (λ e. m (omega arith)) (omega arith) (omega arith) p.shadow (projects_by (suc j) (homogeneous out) new s);
    clear = λ i k o q. s.clear i (⊎_elim (λ e. subst (λ (z : ℕ). Clear z (eliminated (suc j) (homogeneous out))) (sym e) (clear_here (suc j) (homogeneous out))) (λ e. clear_kept i (suc j) (homogeneous out) (p.clear i k (omega arith) q)) (cases_eq i (suc j)));
    steps = suc p.steps;
    before = λ k. omega (arith, p.before);
    after = λ k. ⊎_elim (λ o. omega (arith, p.after o)) (λ o. absurd (m (omega arith))) (cases_lt index j);
    small = s.small (growth (suc p.steps)) (small_eliminated (growth p.steps) (suc j) (homogeneous out) (growth_positive p.steps few) (omega arith) p.small);
  }

pub skip : (index j : ℕ) (rows out : List (List ℤ)) → j ≡ index → Progress index rows j out → Progress index rows (j + 1) out
skip index j rows out e p = record {
  shadow = record { kept = p.shadow.kept; back = λ v o k h. p.shadow.back v o (omega arith) h };
  clear = λ i k o q. p.clear i k (omega arith) q;
  steps = p.steps;
  before = λ k. absurd (omega arith);
  after = λ k. omega (arith, p.before);
  small = p.small;
}

module _ (index last j : ℕ) (rows : List (List ℤ)) (out : List Form) (a : index < 4) (b : last < 4) (n : index ≢ last) (e : j ≡ last) (p : Progress index rows j (homogeneous out)) where
  pub small_left : All (λ r. Small (2 ^ 43) (line r)) out
  small_left =
      let few = twice_at_most index last p.steps a b n (λ k. p.before (omega arith) ∙ e) (λ k. p.after (omega arith) ∙ e) in
      all_lines (Small (2 ^ 43)) out (each_weaker (Small (growth p.steps)) (Small (2 ^ 43)) (λ r s. larger (growth p.steps) (2 ^ 43) r (grown_twice p.steps few) s) (homogeneous out) p.small)
