-- The site of ascending moments takes at the number of each its source, and has no other sources.
use Rattle.std.proofs.Common.{◌≡◌, ℕ, zero, suc, ◌<◌, ◌≤◌, List, [], ◌∷◌, refl, sym, ap, subst, ◌∙◌, arith, Bool, true, false, if◌then◌else◌, Some}
use Rattle.std.specs.Prelude.{slice_get, nat_le, nat_eq}
use Rattle.std.specs.List.{AllByRecursion}
use Rattle.av_base.specs.declared.width.Width.{Width}
use Rattle.av_base.proofs.Lists.{some_is}
use Rattle.av_base.proofs.Truths.{both}
use Rattle.av_space.proofs.Helpers.{equal}
use Rattle.av_kinds.specs.declared.program.WordSource.{WordSource}
use Rattle.av_kinds.specs.declared.program.WordSource.TheVariants.{Word, Input, Line}
use Rattle.av_kinds.specs.declared.program.Inlet.{Inlet}
use Rattle.av_kinds.specs.declared.program.Selection.{Selection}
use Rattle.av_kinds.specs.Programs.{source_by}
use Rattle.av_build.specs.declared.moments.Moment.{Moment}
use Rattle.av_build.specs.inner.Moments.{same_source, selections_from, last_from, site_by}
use Rattle.av_build.proofs.WindowLemmas.{at_most}

-- ---- one source

pub is_source : (x y : WordSource) → same_source x y ≡ true → x ≡ y
is_source (Word m) (Word n) e = ap Word (equal m n e)
is_source (Word m) (Input l) e = absurd cc
is_source (Word m) (Line q d) e = absurd cc
is_source (Input k) (Word n) e = absurd cc
is_source (Input k) (Input l) e = ap Input (equal k l e)
is_source (Input k) (Line q d) e = absurd cc
is_source (Line p d) (Word n) e = absurd cc
is_source (Line p d) (Input l) e = absurd cc
is_source (Line p d) (Line q e) t =
    let b = both (nat_eq p q) (nat_eq d e) t in
    ap (λ k. Line k d) (equal p q b.0) ∙ ap (Line q) (equal d e b.1)

-- ---- tests of a selection

past : (m n : ℕ) → n < m → nat_le m n ≡ false
past m n h = grind arith

taken_up_to : (x last : ℕ) → x ≤ last → (a b : WordSource) → (if nat_le x last then a else b) ≡ a
taken_up_to x last h a b = rw (at_most x last h) refl

taken_past : (x last : ℕ) → last < x → (a b : WordSource) → (if nat_le x last then a else b) ≡ b
taken_past x last h a b = rw (past x last h) refl

-- ---- ascending moments

abbrev pub AreLater : ℕ → List Moment → Type 0
AreLater n moments = AllByRecursion (λ (t : Moment). n < t.number) moments

abbrev pub AreAscending : List Moment → Type 0
AreAscending [] = Unit {0}
AreAscending (t ∷ moments) = AreLater t.number moments × AreAscending moments

abbrev taken : ℕ → Moment → List Moment → WordSource
taken x t moments = source_by x (last_from t moments) (selections_from t moments)

-- up to the first number the first source is taken
first_taken : (t : Moment) (moments : List Moment) → AreAscending (t ∷ moments) → (x : ℕ) → x ≤ t.number → taken x t moments ≡ t.source
first_taken t [] up x low = refl
first_taken t (u ∷ moments) up x low = by_test (same_source t.source u.source) refl (first_taken u moments up.1 x (omega (arith, low, up.0.0)))
  where
    by_test : (b : Bool) → same_source t.source u.source ≡ b → taken x u moments ≡ u.source
        → source_by x (last_from u moments) (if b then selections_from u moments else record { last = t.number; source = t.source } ∷ selections_from u moments) ≡ t.source
    by_test true e h = h ∙ sym (is_source t.source u.source e)
    by_test false e h = taken_up_to x t.number low t.source (taken x u moments)

later_at : (n : ℕ) (moments : List Moment) → AreLater n moments → (k : ℕ) (t : Moment) → slice_get moments k ≡ Some t → n < t.number
later_at n [] h k t is = absurd cc
later_at n (m ∷ moments) h zero t is = subst (λ (u : Moment). n < u.number) (some_is m t is) h.0
later_at n (m ∷ moments) h (suc k) t is = later_at n moments h.1 k t is

pub moment_taken : (t : Moment) (moments : List Moment) → AreAscending (t ∷ moments) → (k : ℕ) (w : Moment) → slice_get (t ∷ moments) k ≡ Some w → source_by w.number (last_from t moments) (selections_from t moments) ≡ w.source
moment_taken t moments up zero w is = subst (λ (v : Moment). source_by v.number (last_from t moments) (selections_from t moments) ≡ v.source) (some_is t w is) (first_taken t moments up t.number (omega arith))
moment_taken t [] up (suc k) w is = absurd cc
moment_taken t (u ∷ moments) up (suc k) w is = by_test (same_source t.source u.source) (moment_taken u moments up.1 k w is)
  where
    by_test : (b : Bool) → source_by w.number (last_from u moments) (selections_from u moments) ≡ w.source
        → source_by w.number (last_from u moments) (if b then selections_from u moments else record { last = t.number; source = t.source } ∷ selections_from u moments) ≡ w.source
    by_test true h = h
    by_test false h = taken_past w.number t.number (later_at t.number (u ∷ moments) up.0 k w is) t.source (taken w.number u moments) ∙ h

-- ---- each source is that of a moment, and each selection ends with its number

pub selections_are : (P : ℕ → WordSource → Type 0) (t : Moment) (moments : List Moment) → P t.number t.source → AllByRecursion (λ (u : Moment). P u.number u.source) moments → AllByRecursion (λ (l : Selection). P l.last l.source) (selections_from t moments)
selections_are P t [] here all = tt
selections_are P t (u ∷ moments) here all = by_test (same_source t.source u.source) (selections_are P u moments all.0 all.1)
  where
    by_test : (b : Bool) → AllByRecursion (λ (l : Selection). P l.last l.source) (selections_from u moments)
        → AllByRecursion (λ (l : Selection). P l.last l.source) (if b then selections_from u moments else record { last = t.number; source = t.source } ∷ selections_from u moments)
    by_test true h = h
    by_test false h = (here, h)

pub last_is : (P : ℕ → WordSource → Type 0) (t : Moment) (moments : List Moment) → P t.number t.source → AllByRecursion (λ (u : Moment). P u.number u.source) moments → (n : ℕ) × P n (last_from t moments)
last_is P t [] here all = (t.number, here)
last_is P t (u ∷ moments) here all = last_is P u moments all.0 all.1

-- ---- how the words of the site come in

pub site_inlet : (inlet : Inlet) (width : Width) (moments : List Moment) → (site_by inlet width moments).inlet ≡ inlet
site_inlet inlet width [] = refl
site_inlet inlet width (t ∷ moments) = refl

pub site_width : (inlet : Inlet) (width : Width) (moments : List Moment) → (site_by inlet width moments).width ≡ width
site_width inlet width [] = refl
site_width inlet width (t ∷ moments) = refl
