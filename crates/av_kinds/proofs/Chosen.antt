-- Where one mode of a lane alone has a number of the counter, its work is what the kind takes.
use Rattle.std.proofs.Common.{◌≡◌, ◌≢◌, inl, inr, ℕ, zero, suc, List, [], ◌∷◌, Some, refl, sym, ap, ◌∙◌, Bool, true, false, if◌then◌else◌}
use Rattle.std.specs.Prelude.{slice_get}
use Rattle.av_base.proofs.Lists.{some_is}
use Rattle.av_kinds.specs.Programs.{Mode, is_active, mode_at}
use Rattle.av_kinds.specs.inner.Shapes.{ModeShape, HasModeAt}
use Rattle.av_kinds.specs.inner.Instances.{work_for}

-- a mode that is there is the one of its number
pub there : (modes : List Mode) (k : ℕ) (t : Mode) → slice_get modes k ≡ Some t → mode_at modes k ≡ t
there [] k t is = absurd cc
there (u ∷ modes) zero t is = some_is u t is
there (u ∷ modes) (suc k) t is = there modes k t is

-- a mode that has a number is there
had : (c : ℕ) (modes : List Mode) (k : ℕ) → is_active c (mode_at modes k) ≡ true → slice_get modes k ≡ Some (mode_at modes k)
had c [] k h = absurd cc
had c (u ∷ modes) zero h = refl
had c (u ∷ modes) (suc k) h = had c modes k h

-- no other mode of the lane has the number
abbrev pub IsAlone : ℕ → List Mode → ℕ → Type 0
IsAlone c modes k = (i : ℕ) (u : Mode) → slice_get modes i ≡ Some u → is_active c u ≡ true → i ≡ k

pub work_taken : (c : ℕ) (shapes : List ModeShape) (modes : List Mode) (k : ℕ) (t : Mode) → slice_get modes k ≡ Some t → is_active c t ≡ true → IsAlone c modes k → HasModeAt k shapes → work_for c shapes modes ≡ t.work
work_taken c [] modes k t is has alone there_is = absurd there_is
work_taken c (f ∷ []) modes k t is has alone (inl e) = ap (λ (u : Mode). u.work) (ap (mode_at modes) e ∙ there modes k t is)
work_taken c (f ∷ []) modes k t is has alone (inr none) = absurd none
work_taken c (f ∷ g ∷ shapes) modes k t is has alone there_is = by_case (is_active c (mode_at modes f.number)) refl (work_taken c (g ∷ shapes) modes k t is has alone)
  where
    later : HasModeAt k (f ∷ g ∷ shapes) → f.number ≢ k → HasModeAt k (g ∷ shapes)
    later (inl e) differs = absurd (differs e)
    later (inr h) differs = h

    by_case : (test : Bool) → is_active c (mode_at modes f.number) ≡ test → (HasModeAt k (g ∷ shapes) → work_for c (g ∷ shapes) modes ≡ t.work)
        → (if test then (mode_at modes f.number).work else work_for c (g ∷ shapes) modes) ≡ t.work
    by_case true e rest = ap (λ (u : Mode). u.work) (ap (mode_at modes) (alone f.number (mode_at modes f.number) (had c modes f.number e) e) ∙ there modes k t is)
    by_case false e rest =
        rest (later there_is (λ same.
        let own : mode_at modes f.number ≡ t = ap (mode_at modes) same ∙ there modes k t is in
        let h : true ≡ false = sym has ∙ ap (is_active c) (sym own) ∙ e in absurd cc))
