-- What the loops of an instance write next: the operands of a place, of a mode's places, of a cell's lanes.
use Rattle.std.proofs.Common.{◌≡◌, ℕ, zero, suc, ◌+◌, List, [], ◌∷◌, ◌++◌, drop, refl, ap, ◌∙◌, arith, Option, Some, None}
use Rattle.std.specs.Prelude.{slice_get}
use Rattle.av_base.proofs.Lists.{some_is}
use Rattle.av_net.specs.declared.operation.Operand.{Operand}
use Rattle.av_kinds.specs.declared.program.WordSource.{WordSource}
use Rattle.av_kinds.specs.declared.program.Window.{Window}
use Rattle.av_kinds.specs.declared.program.Selection.{Selection}
use Rattle.av_kinds.specs.declared.program.ProgramSite.{ProgramSite}
use Rattle.av_kinds.specs.declared.shape.SiteShape.{SiteShape}
use Rattle.av_kinds.specs.Programs.{Lane}
use Rattle.av_kinds.specs.Names.{Labels}
use Rattle.av_kinds.specs.inner.Counts.{bound}
use Rattle.av_kinds.specs.inner.Shapes.{LaneShape}
use Rattle.av_kinds.specs.inner.Instances.{words_for, bounds_for, site_operands, sites_operands, windows_for, modes_operands, lanes_operands, outputs_from}

-- ---- a place

-- the source of a selection, or the last one where it is not there
abbrev pub source_at : Option Selection → WordSource → WordSource
source_at None otherwise = otherwise
source_at (Some l) otherwise = l.source

abbrev pub bound_at : Option Selection → ℕ
bound_at None = 0
bound_at (Some l) = l.last

pub words_next : (f : WordSource → Operand) (k n : ℕ) (selections : List Selection) (otherwise : WordSource) → words_for f (suc n) (drop k selections) otherwise ≡ f (source_at (slice_get selections k) otherwise) ∷ words_for f n (drop (suc k) selections) otherwise
words_next f zero n [] otherwise = refl
words_next f zero n (l ∷ selections) otherwise = refl
words_next f (suc k) n [] otherwise = refl
words_next f (suc k) n (l ∷ selections) otherwise = words_next f k n selections otherwise

pub bounds_next : (k n : ℕ) (selections : List Selection) → bounds_for (suc n) (drop k selections) ≡ bound (bound_at (slice_get selections k)) ∷ bounds_for n (drop (suc k) selections)
bounds_next zero n [] = refl
bounds_next zero n (l ∷ selections) = refl
bounds_next (suc k) n [] = refl
bounds_next (suc k) n (l ∷ selections) = bounds_next k n selections

-- ---- windows

abbrev pub first_at : Option Window → ℕ
first_at None = 1
first_at (Some i) = i.first

abbrev pub last_at : Option Window → ℕ
last_at None = 0
last_at (Some i) = i.last

pub windows_next : (k n : ℕ) (windows : List Window) → windows_for (suc n) (drop k windows) ≡ bound (first_at (slice_get windows k)) ∷ bound (last_at (slice_get windows k)) ∷ windows_for n (drop (suc k) windows)
windows_next zero n [] = refl
windows_next zero n (i ∷ windows) = refl
windows_next (suc k) n [] = refl
windows_next (suc k) n (i ∷ windows) = windows_next k n windows

-- ---- places and lanes

pub sites_next : (names : Labels) (k : ℕ) (shapes : List SiteShape) (sites : List ProgramSite) (shape : SiteShape) (site : ProgramSite) → slice_get shapes k ≡ Some shape → slice_get sites k ≡ Some site
    → sites_operands names (drop k shapes) (drop k sites) ≡ site_operands names shape site ++ sites_operands names (drop (suc k) shapes) (drop (suc k) sites)
sites_next names k [] sites shape site is at = absurd cc
sites_next names k (s ∷ shapes) [] shape site is at = absurd cc
sites_next names zero (s ∷ shapes) (t ∷ sites) shape site is at =
    ap (λ (x : SiteShape). site_operands names x t ++ sites_operands names shapes sites) (some_is s shape is) ∙ ap (λ (y : ProgramSite). site_operands names shape y ++ sites_operands names shapes sites) (some_is t site at)
sites_next names (suc k) (s ∷ shapes) (t ∷ sites) shape site is at = sites_next names k shapes sites shape site is at

pub lanes_next : (names : Labels) (k : ℕ) (shapes : List LaneShape) (lanes : List Lane) (shape : LaneShape) (lane : Lane) → slice_get shapes k ≡ Some shape → slice_get lanes k ≡ Some lane
    → lanes_operands names (drop k shapes) (drop k lanes) ≡ modes_operands names shape.modes lane.modes ++ lanes_operands names (drop (suc k) shapes) (drop (suc k) lanes)
lanes_next names k [] lanes shape lane is at = absurd cc
lanes_next names k (s ∷ shapes) [] shape lane is at = absurd cc
lanes_next names zero (s ∷ shapes) (l ∷ lanes) shape lane is at =
    ap (λ (x : LaneShape). modes_operands names x.modes l.modes ++ lanes_operands names shapes lanes) (some_is s shape is) ∙ ap (λ (y : Lane). modes_operands names shape.modes y.modes ++ lanes_operands names shapes lanes) (some_is l lane at)
lanes_next names (suc k) (s ∷ shapes) (l ∷ lanes) shape lane is at = lanes_next names k shapes lanes shape lane is at

-- ---- outputs

pub outputs_more : (names : Labels) (q n : ℕ) → outputs_from names q (n + 1) ≡ outputs_from names q n ++ names.value (q + n) ∷ []
outputs_more names q zero = let e : q ≡ q + 0 = omega arith in ap (λ i. names.value i ∷ []) e
outputs_more names q (suc n) =
    let e : q + 1 + n ≡ q + suc n = omega arith in
    let f : suc n + 1 ≡ suc (n + 1) = omega arith in
    ap (outputs_from names q) f ∙ ap (λ (ys : List (List ℕ)). names.value q ∷ ys) (outputs_more names (q + 1) n ∙ ap (λ i. outputs_from names (q + 1) n ++ names.value i ∷ []) e)
