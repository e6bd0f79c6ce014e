-- Lanes of a blueprint, place by place, piece by piece and cell by cell.
use Rattle.std.proofs.Common.{◌≡◌, ℕ, zero, suc, ◌+◌, ◌<◌, ◌≤◌, inl, inr, List, [], ◌∷◌, ◌++◌, length, map, take, drop, get_or, refl, sym, ap, subst, ◌∙◌, arith, Option, Some, None, append_assoc, length-append}
use Rattle.std.specs.Prelude.{slice_get}
use Rattle.std.proofs.lemmas.List.{drop_more, append-nil, drop_all, take_all, length-map}
use Rattle.av_base.proofs.Lists.{get_cases, some_is}
use Rattle.av_space.specs.declared.array.Array.{Array as ArrayMade}
use Rattle.av_space.specs.declared.spots.Site.{Site}
use Rattle.av_space.specs.Taps.{Pipeline}
use Rattle.av_build.specs.declared.blueprint.CellPlan.{CellPlan}
use Rattle.av_build.specs.declared.blueprint.HelperPlan.{HelperPlan}
use Rattle.av_build.specs.declared.blueprint.LanePlan.{LanePlan}
use Rattle.av_build.specs.declared.blueprint.Pieces.{Pieces}
use Rattle.av_build.specs.inner.Blueprints.{with_helper, site_helpers, helpers_from, helpers_on, of_helper, own_lanes, ArePieces, AreCellPlans}
use Rattle.av_build.proofs.BlueprintLemmas.{lanes_more, numbered_more, end_is}

-- ---- places

next_place : (k i : ℕ) (sites : List Site) (d : Site) → i < length sites → site_helpers k i (drop i sites) ≡ with_helper k i (get_or sites i d).pipeline (site_helpers k (i + 1) (drop (i + 1) sites))
next_place k i sites d low =
    let next : suc i ≡ i + 1 = omega arith in
    ap (site_helpers k i) (drop_more sites i d low) ∙ ap (λ (n : ℕ). with_helper k i (get_or sites i d).pipeline (site_helpers k n (drop (i + 1) sites))) next

pub none_step : (k i : ℕ) (helpers all : List HelperPlan) (sites : List Site) (d : Site) → i < length sites → (get_or sites i d).pipeline ≡ None → helpers ++ site_helpers k i (drop i sites) ≡ all
    → helpers ++ site_helpers k (i + 1) (drop (i + 1) sites) ≡ all
none_step k i helpers all sites d low none before =
    let rest = site_helpers k (i + 1) (drop (i + 1) sites) in
    ap (λ (o : Option Pipeline). helpers ++ with_helper k i o rest) (sym none) ∙ ap (λ (l : List HelperPlan). helpers ++ l) (sym (next_place k i sites d low)) ∙ before

pub some_step : (k i : ℕ) (helpers all new : List HelperPlan) (sites : List Site) (d : Site) (h : Pipeline) → i < length sites → (get_or sites i d).pipeline ≡ Some h → helpers ++ site_helpers k i (drop i sites) ≡ all
    → new ≡ helpers ++ record { number = h.number; piece = k; site = i } ∷ [] → new ++ site_helpers k (i + 1) (drop (i + 1) sites) ≡ all
some_step k i helpers all new sites d h low some before is =
    let rest = site_helpers k (i + 1) (drop (i + 1) sites) in
    let own : HelperPlan = record { number = h.number; piece = k; site = i } in
    ap (λ (l : List HelperPlan). l ++ rest) is ∙ append_assoc helpers (own ∷ []) rest
    ∙ ap (λ (o : Option Pipeline). helpers ++ with_helper k i o rest) (sym some) ∙ ap (λ (l : List HelperPlan). helpers ++ l) (sym (next_place k i sites d low)) ∙ before

pub last_step : (k i : ℕ) (helpers all : List HelperPlan) (sites : List Site) → length sites ≤ i → helpers ++ site_helpers k i (drop i sites) ≡ all → helpers ≡ all
last_step k i helpers all sites end before = sym (append-nil helpers) ∙ ap (λ (l : List Site). helpers ++ site_helpers k i l) (sym (drop_all i sites end)) ∙ before

-- ---- pieces

pub piece_step : (k : ℕ) (helpers all new : List HelperPlan) (pieces : List (List Site)) (d : List Site) → k < length pieces → helpers ++ helpers_from k (drop k pieces) ≡ all → new ≡ helpers ++ site_helpers k 0 (get_or pieces k d)
    → new ++ helpers_from (k + 1) (drop (k + 1) pieces) ≡ all
piece_step k helpers all new pieces d low before is =
    let own = site_helpers k 0 (get_or pieces k d) in
    let rest = helpers_from (k + 1) (drop (k + 1) pieces) in
    let next : suc k ≡ k + 1 = omega arith in
    let here : helpers_from k (drop k pieces) ≡ own ++ rest = ap (helpers_from k) (drop_more pieces k d low) ∙ ap (λ (n : ℕ). own ++ helpers_from n (drop (k + 1) pieces)) next in
    ap (λ (l : List HelperPlan). l ++ rest) is ∙ append_assoc helpers own rest ∙ ap (λ (l : List HelperPlan). helpers ++ l) (sym here) ∙ before

pub last_piece : (k : ℕ) (helpers all : List HelperPlan) (pieces : List (List Site)) → length pieces ≤ k → helpers ++ helpers_from k (drop k pieces) ≡ all → helpers ≡ all
last_piece k helpers all pieces end before = sym (append-nil helpers) ∙ ap (λ (l : List (List Site)). helpers ++ helpers_from k l) (sym (drop_all k pieces end)) ∙ before

-- ---- cells

pub whole_cell : (p : ℕ) (pieces : Pieces) (helpers : List HelperPlan) (old middle new : List LanePlan) (n : ℕ) → helpers ≡ helpers_on pieces → length helpers ≤ n → middle ≡ old ++ map (of_helper p) (take n helpers)
    → new ≡ middle ++ record { cell = record { 0 = p }; helper = None } ∷ [] → (new ≡ old ++ own_lanes p pieces) × (length middle ≡ length old + length (helpers_on pieces))
whole_cell p pieces helpers old middle new n are end first second =
    let all : take n helpers ≡ helpers_on pieces = take_all n helpers end ∙ are in
    let mid : middle ≡ old ++ map (of_helper p) (helpers_on pieces) = first ∙ ap (λ (l : List HelperPlan). old ++ map (of_helper p) l) all in
    let size = ap (λ (l : List LanePlan). length l) mid in
    let sum = length-append old (map (of_helper p) (helpers_on pieces)) in
    let count = length-map (helpers_on pieces) (of_helper p) in (
      second ∙ ap (λ (l : List LanePlan). l ++ record { cell = record { 0 = p }; helper = None } ∷ []) mid ∙ append_assoc old (map (of_helper p) (helpers_on pieces)) (record { cell = record { 0 = p }; helper = None } ∷ []),
      omega (arith, size, sum, count),
    )

pub no_cells : (w : ArrayMade) → AreCellPlans w 0 [] []
no_cells w = record { one_each = refl; pieces = λ p plan is. absurd cc; lanes_are = refl; numbered = tt }

pub cell_step : (w : ArrayMade) (n : ℕ) (cells all : List CellPlan) (plan : CellPlan) (old new : List LanePlan) → AreCellPlans w n cells old → ArePieces w n plan.pieces → plan.lanes.first ≡ length old → plan.lanes.value ≡ length old + length (helpers_on plan.pieces)
    → new ≡ old ++ own_lanes n plan.pieces → all ≡ cells ++ plan ∷ [] → AreCellPlans w (n + 1) all new
cell_step w n cells all plan old new h are first value put is =
    let many = h.one_each in
    let size = length-append cells (plan ∷ []) in
    let count = ap (λ (l : List LanePlan). length l) h.lanes_are in
    let end = end_is 0 0 cells h.numbered in
    subst (λ (l : List CellPlan). AreCellPlans w (n + 1) l new) (sym is) (record {
      one_each = omega (arith, many, size);
      pieces = λ p x at. pieces p x at;
      lanes_are = put ∙ ap (λ (l : List LanePlan). l ++ own_lanes n plan.pieces) h.lanes_are ∙ sym (lanes_more 0 n cells plan (omega (arith, many)));
      numbered = numbered_more 0 cells h.numbered plan (omega (arith, first, count, end)) (omega (arith, value, count, end));
    })
  where
    pieces : (p : ℕ) (x : CellPlan) → slice_get (cells ++ plan ∷ []) p ≡ Some x → ArePieces w p x.pieces
    pieces p x at = elim (get_cases cells (plan ∷ []) p x at) [
      | inl l ↦ h.pieces p x l
      | inr b ↦ last b.0 b.1 b.2
    ]
      where
        last : (j : ℕ) → p ≡ length cells + j → slice_get (plan ∷ []) j ≡ Some x → ArePieces w p x.pieces
        last zero e f = (let many = h.one_each in let same : n ≡ p = omega (arith, e, many) in subst (λ (q : ℕ). ArePieces w q x.pieces) same (subst (λ (y : CellPlan). ArePieces w n y.pieces) (some_is plan x f) are))
        last (suc j) e f = absurd cc
