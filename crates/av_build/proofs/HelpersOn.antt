-- The helpers on a cell are those of the places of its pieces.
use Rattle.std.proofs.Common.{◌≡◌, ℕ, zero, suc, ◌+◌, inl, inr, List, [], ◌∷◌, length, refl, sym, ap, subst, ◌∙◌, arith, Option, Some, None}
use Rattle.std.specs.Prelude.{slice_get}
use Rattle.av_base.proofs.Lists.{get_cases, get_first, some_is}
use Rattle.av_space.specs.declared.spots.Site.{Site}
use Rattle.av_space.specs.Taps.{Pipeline}
use Rattle.av_build.specs.declared.blueprint.HelperPlan.{HelperPlan}
use Rattle.av_build.specs.declared.blueprint.Pieces.{Pieces}
use Rattle.av_build.specs.inner.Blueprints.{with_helper, site_helpers, helpers_from, helpers_on}
use Rattle.av_build.proofs.Appended.{get_right}

-- ---- places

-- the helper is that of one of the places, which have the numbers from i on
pub record IsOfPlace (k i : ℕ) (sites : List Site) (h : HelperPlan) : Type 0 where
  pub index : ℕ
  pub site : Site
  pub is_site : slice_get sites index ≡ Some site
  pub pipeline : Pipeline
  pub is_pipeline : site.pipeline ≡ Some pipeline
  pub number : h.number ≡ pipeline.number
  pub piece_is : h.piece ≡ k
  pub site_is : h.site ≡ i + index

later : (k i : ℕ) (site : Site) (sites : List Site) (h : HelperPlan) → IsOfPlace k (suc i) sites h → IsOfPlace k i (site ∷ sites) h
later k i site sites h r = record {
  index = suc r.index;
  site = r.site;
  is_site = r.is_site;
  pipeline = r.pipeline;
  is_pipeline = r.is_pipeline;
  number = r.number;
  piece_is = r.piece_is;
  site_is = (let e = r.site_is in omega (arith, e));
}

pub of_place : (k i : ℕ) (sites : List Site) (x : ℕ) (h : HelperPlan) → slice_get (site_helpers k i sites) x ≡ Some h → IsOfPlace k i sites h
of_place k i [] x h e = absurd cc
of_place k i (site ∷ sites) x h e = by_pipeline site.pipeline refl x e (λ y f. later k i site sites h (of_place k (suc i) sites y h f))
  where
    by_pipeline : (o : Option Pipeline) → site.pipeline ≡ o → (x : ℕ) → slice_get (with_helper k i o (site_helpers k (suc i) sites)) x ≡ Some h
        → ((y : ℕ) → slice_get (site_helpers k (suc i) sites) y ≡ Some h → IsOfPlace k i (site ∷ sites) h) → IsOfPlace k i (site ∷ sites) h
    by_pipeline None f x e rest = rest x e
    by_pipeline (Some g) f zero e rest =
        let same = some_is (record { number = g.number; piece = k; site = i }) h e in
        let here = ap (λ (y : HelperPlan). y.site) same in
        record { index = 0; site = site; is_site = refl; pipeline = g; is_pipeline = f; number = sym (ap (λ (y : HelperPlan). y.number) same); piece_is = sym (ap (λ (y : HelperPlan). y.piece) same); site_is = omega (arith, here) }
    by_pipeline (Some g) f (suc x) e rest = rest x e

at_place : (k i : ℕ) (sites : List Site) (n : ℕ) (site : Site) (g : Pipeline) → slice_get sites n ≡ Some site → site.pipeline ≡ Some g → (m : ℕ) → i + n ≡ m
    → (x : ℕ) × (slice_get (site_helpers k i sites) x ≡ Some (record { number = g.number; piece = k; site = m }))
at_place k i [] n site g is f m e = absurd cc
at_place k i (s ∷ sites) zero site g is f m e =
    let rest = site_helpers k (suc i) sites in
    let own : s.pipeline ≡ Some g = ap (λ (t : Site). t.pipeline) (some_is s site is) ∙ f in
    let here : i ≡ m = omega (arith, e) in
    (0, subst (λ (o : Option Pipeline). slice_get (with_helper k i o rest) 0 ≡ Some (record { number = g.number; piece = k; site = m })) (sym own) (ap (λ (n : ℕ). Some (record { number = g.number; piece = k; site = n })) here))
at_place k i (s ∷ sites) (suc n) site g is f m e = past s.pipeline (at_place k (suc i) sites n site g is f m (omega (arith, e)))
  where
    past : (o : Option Pipeline) → (x : ℕ) × (slice_get (site_helpers k (suc i) sites) x ≡ Some (record { number = g.number; piece = k; site = m }))
        → (x : ℕ) × (slice_get (with_helper k i o (site_helpers k (suc i) sites)) x ≡ Some (record { number = g.number; piece = k; site = m }))
    past None y = y
    past (Some q) (x, y) = (suc x, y)

-- ---- pieces

-- the helper is that of a place of one of the pieces, which have the numbers from k on
pub record IsOfPiece (k : ℕ) (pieces : List (List Site)) (h : HelperPlan) : Type 0 where
  pub index : ℕ
  pub sites : List Site
  pub are_sites : slice_get pieces index ≡ Some sites
  pub of_place : IsOfPlace (k + index) 0 sites h

pub of_piece : (k : ℕ) (pieces : List (List Site)) (x : ℕ) (h : HelperPlan) → slice_get (helpers_from k pieces) x ≡ Some h → IsOfPiece k pieces h
of_piece k [] x h e = absurd cc
of_piece k (sites ∷ pieces) x h e = elim (get_cases (site_helpers k 0 sites) (helpers_from (suc k) pieces) x h e) [
  | inl l ↦ (let same : k ≡ k + 0 = omega arith in record { index = 0; sites = sites; are_sites = refl; of_place = subst (λ (n : ℕ). IsOfPlace n 0 sites h) same (of_place k 0 sites x h l) })
  | inr b ↦ (
      let r = of_piece (suc k) pieces b.0 h b.2 in
      let same : suc k + r.index ≡ k + suc r.index = omega arith in
      record { index = suc r.index; sites = r.sites; are_sites = r.are_sites; of_place = subst (λ (n : ℕ). IsOfPlace n 0 r.sites h) same r.of_place })
]

at_piece : (k : ℕ) (pieces : List (List Site)) (n : ℕ) (sites : List Site) → slice_get pieces n ≡ Some sites → (m : ℕ) → k + n ≡ m → (x : ℕ) (h : HelperPlan) → slice_get (site_helpers m 0 sites) x ≡ Some h
    → (y : ℕ) × (slice_get (helpers_from k pieces) y ≡ Some h)
at_piece k [] n sites is m e x h at = absurd cc
at_piece k (first ∷ pieces) zero sites is m e x h at =
    let here : m ≡ k = omega (arith, e) in
    let own : slice_get (site_helpers k 0 first) x ≡ Some h = subst (λ (n : ℕ). slice_get (site_helpers n 0 first) x ≡ Some h) here (subst (λ (l : List Site). slice_get (site_helpers m 0 l) x ≡ Some h) (sym (some_is first sites is)) at) in
    (x, get_first (site_helpers k 0 first) (helpers_from (suc k) pieces) x h own)
at_piece k (first ∷ pieces) (suc n) sites is m e x h at =
    let r = at_piece (suc k) pieces n sites is m (omega (arith, e)) x h at in
    (length (site_helpers k 0 first) + r.0, get_right (site_helpers k 0 first) (helpers_from (suc k) pieces) r.0 h r.1)

-- ---- the cell

-- the place of a helper
pub record IsFromPlace (pieces : Pieces) (h : HelperPlan) : Type 0 where
  pub sites : List Site
  pub are_sites : slice_get pieces.sites h.piece ≡ Some sites
  pub site : Site
  pub is_site : slice_get sites h.site ≡ Some site
  pub pipeline : Pipeline
  pub is_pipeline : site.pipeline ≡ Some pipeline
  pub number : h.number ≡ pipeline.number

pub place_of_helper : (pieces : Pieces) (x : ℕ) (h : HelperPlan) → slice_get (helpers_on pieces) x ≡ Some h → IsFromPlace pieces h
place_of_helper pieces x h e =
    let r = of_piece 0 pieces.sites x h e in
    let q = r.of_place in
    let piece : r.index ≡ h.piece = (let f = q.piece_is in omega (arith, f)) in
    let site : q.index ≡ h.site = (let f = q.site_is in omega (arith, f)) in
    record {
      sites = r.sites;
      are_sites = subst (λ (n : ℕ). slice_get pieces.sites n ≡ Some r.sites) piece r.are_sites;
      site = q.site;
      is_site = subst (λ (n : ℕ). slice_get r.sites n ≡ Some q.site) site q.is_site;
      pipeline = q.pipeline;
      is_pipeline = q.is_pipeline;
      number = q.number;
    }

-- the helper of a place
pub helper_of_place : (pieces : Pieces) (k : ℕ) (sites : List Site) → slice_get pieces.sites k ≡ Some sites → (i : ℕ) (site : Site) → slice_get sites i ≡ Some site → (g : Pipeline) → site.pipeline ≡ Some g
    → (x : ℕ) × (slice_get (helpers_on pieces) x ≡ Some (record { number = g.number; piece = k; site = i }))
helper_of_place pieces k sites are i site is g f =
    let r = at_place k 0 sites i site g is f i (omega arith) in
    at_piece 0 pieces.sites k sites are k (omega arith) r.0 (record { number = g.number; piece = k; site = i }) r.1
