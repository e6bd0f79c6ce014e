-- The site of moments, one moment after another.
use Rattle.std.proofs.Common.{◌≡◌, ℕ, ◌+◌, ◌<◌, ◌≤◌, List, [], ◌∷◌, ◌++◌, length, drop, sym, ap, ◌∙◌, Bool, true, false, if◌then◌else◌, append_assoc, get_or}
use Rattle.std.proofs.lemmas.List.{append-nil}
use Rattle.av_base.specs.declared.width.Width.{Width}
use Rattle.av_base.proofs.Lists.{next_item, nothing_left}
use Rattle.av_kinds.specs.declared.program.WordSource.{WordSource}
use Rattle.av_kinds.specs.declared.program.Inlet.{Inlet}
use Rattle.av_kinds.specs.declared.program.Selection.{Selection}
use Rattle.av_kinds.specs.declared.program.ProgramSite.{ProgramSite}
use Rattle.av_build.specs.declared.moments.Moment.{Moment}
use Rattle.av_build.specs.inner.Moments.{same_source, selections_from, last_from, site_by}

-- the selections so far, with those of the moments to come behind the last one, are all, and so is the last source
pub record IsSoFar (all : List Selection) (end : WordSource) (selections : List Selection) (last : Moment) (rest : List Moment) : Type 0 where
  pub selections_are : selections ++ selections_from last rest ≡ all
  pub last_is : last_from last rest ≡ end

-- of a site
abbrev pub IsSiteSoFar : Inlet → Width → List Moment → List Selection → Moment → List Moment → Type 0
IsSiteSoFar inlet width moments selections last rest = IsSoFar (site_by inlet width moments).selections (site_by inlet width moments).otherwise selections last rest

site_is : (inlet : Inlet) (width : Width) (moments : List Moment) (selections : List Selection) (source : WordSource) → selections ≡ (site_by inlet width moments).selections → source ≡ (site_by inlet width moments).otherwise
    → ◌≡◌ {A = ProgramSite} (record { inlet = inlet; width = width; selections = selections; otherwise = source }) (site_by inlet width moments)
site_is inlet width [] selections source e f =
    ap (λ (l : List Selection). record { inlet = inlet; width = width; selections = l; otherwise = source }) e ∙ ap (λ (s : WordSource). record { inlet = inlet; width = width; selections = []; otherwise = s }) f
site_is inlet width (t ∷ moments) selections source e f =
    ap (λ (l : List Selection). record { inlet = inlet; width = width; selections = l; otherwise = source }) e ∙ ap (λ (s : WordSource). record { inlet = inlet; width = width; selections = selections_from t moments; otherwise = s }) f

module _ (all : List Selection) (end : WordSource) (selections : List Selection) (last : Moment) (moments : List Moment) (n : ℕ) where
  module _ (m : Moment) (low : n < length moments) (is : m ≡ get_or moments n m) (h : IsSoFar all end selections last (drop n moments)) where
    abbrev rest : List Moment
    rest = drop (n + 1) moments

    before : selections ++ selections_from last (m ∷ rest) ≡ all
    before = ap (λ (l : List Moment). selections ++ selections_from last l) (sym (next_item moments n m low is)) ∙ h.selections_are

    same_end : last_from m rest ≡ end
    same_end = ap (λ (l : List Moment). last_from last l) (sym (next_item moments n m low is)) ∙ h.last_is

    pub same_next : same_source last.source m.source ≡ true → IsSoFar all end selections m rest
    same_next same = record {
      selections_are = ap (λ (b : Bool). selections ++ (if b then selections_from m rest else record { last = last.number; source = last.source } ∷ selections_from m rest)) (sym same) ∙ before;
      last_is = same_end;
    }

    pub other_next : same_source last.source m.source ≡ false → (new : List Selection) → new ≡ selections ++ record { last = last.number; source = last.source } ∷ [] → IsSoFar all end new m rest
    other_next other new put = record {
      selections_are = ap (λ (l : List Selection). l ++ selections_from m rest) put ∙ append_assoc selections (record { last = last.number; source = last.source } ∷ []) (selections_from m rest)
          ∙ ap (λ (b : Bool). selections ++ (if b then selections_from m rest else record { last = last.number; source = last.source } ∷ selections_from m rest)) (sym other) ∙ before;
      last_is = same_end;
    }

  pub at_end : length moments ≤ n → IsSoFar all end selections last (drop n moments) → (selections ≡ all) × (last.source ≡ end)
  at_end low h = (
    sym (append-nil selections) ∙ ap (λ (l : List Moment). selections ++ selections_from last l) (sym (nothing_left moments n low)) ∙ h.selections_are,
    ap (λ (l : List Moment). last_from last l) (sym (nothing_left moments n low)) ∙ h.last_is,
  )

pub whole_site : (inlet : Inlet) (width : Width) (moments : List Moment) (selections : List Selection) (last : Moment) (rest : List Moment) (n : ℕ) → length rest ≤ n → IsSiteSoFar inlet width moments selections last (drop n rest)
    → ◌≡◌ {A = ProgramSite} (record { inlet = inlet; width = width; selections = selections; otherwise = last.source }) (site_by inlet width moments)
whole_site inlet width moments selections last rest n end h =
    let x = at_end (site_by inlet width moments).selections (site_by inlet width moments).otherwise selections last rest n end h in
    site_is inlet width moments selections last.source x.0 x.1
