-- Cells with the same pieces of one node have the same helpers, and lanes that are alike.
use Rattle.std.proofs.Common.{◌≡◌, ℕ, zero, suc, ◌+◌, ◌-◌, ◌<◌, ◌≤◌, inl, inr, List, [], ◌∷◌, ◌++◌, length, map, take, drop, refl, sym, ap, subst, ◌∙◌, arith, Option, Some, None}
use Rattle.std.specs.Prelude.{slice_get}
use Rattle.std.specs.List.{AllByRecursion}
use Rattle.std.proofs.lemmas.Bool.{cases_lt}
use Rattle.std.proofs.lemmas.List.Elements.{recursion_from_All}
use Rattle.av_base.proofs.Lists.{get_mapped, same_head, same_tail, some_is, there_is}
use Rattle.av_base.proofs.Widths.{width_is}
use Rattle.av_flat.specs.declared.timed.Helper.{Helper}
use Rattle.av_flat.specs.Trees.{Tree, Piece, Variable, FlatSystem, view_piece, view_variable, reference}
use Rattle.av_flat.specs.Broadcasts.{Reference}
use Rattle.av_flat.specs.Nodes.{nodes, node_place}
use Rattle.av_space.specs.declared.array.Array.{Array as ArrayMade}
use Rattle.av_space.specs.declared.spots.Site.{Site}
use Rattle.av_space.specs.declared.spots.Spot.{Spot as SpotMade}
use Rattle.av_flat.specs.Sites.{place_of, Place, places_in}
use Rattle.av_space.specs.Spots.{system_of, helpers_of, IsSpot, IsSiteOf, AreSites, pipeline_by}
use Rattle.av_space.specs.Taps.{Pipeline, helper_at}
use Rattle.av_space.proofs.Elements.{in_range}
use Rattle.av_kinds.specs.declared.counter.Counter.{Counter}
use Rattle.av_kinds.specs.declared.program.Inlet.TheVariants.{Pipe}
use Rattle.av_kinds.specs.declared.program.ProgramSite.{ProgramSite}
use Rattle.av_kinds.specs.Counters.{count_in}
use Rattle.av_kinds.specs.Programs.{site_count, Work, Mode, Lane, Paired, AreAlikeSites, AreAlikeModes, AreAlikeLanes}
use Rattle.av_kinds.specs.Written.{LaneMade, lane_of}
use Rattle.av_kinds.proofs.Placing.{from_place}
use Rattle.av_history.specs.Performing.{Array, Lanes, helper_spot, pipeline_at}
use Rattle.av_history.specs.Places.{EachPlace}
use Rattle.av_history.specs.Widths.{read_width}
use Rattle.av_history.proofs.Words.{place_both}
use Rattle.av_build.specs.declared.blueprint.Blueprint.{Blueprint}
use Rattle.av_build.specs.declared.blueprint.CellPlan.{CellPlan}
use Rattle.av_build.specs.declared.blueprint.HelperPlan.{HelperPlan}
use Rattle.av_build.specs.inner.Blueprints.{seen, spot_of, spots_on, with_helper, site_helpers, helpers_from, helpers_on, helper_in, helper_place, lanes_of, ArePieces, IsBlueprint}
use Rattle.av_build.specs.inner.Lanes.{HaveSamePieces, AreBuilt}
use Rattle.av_build.specs.inner.Programmed.{inlet_by, pipe_in, one_site, IsPlaceSite, IsWorkFor, IsHelperLane}
use Rattle.av_build.proofs.CellUses.{busy, some_spot}
use Rattle.av_build.proofs.FineLanes.{numbered}
use Rattle.av_build.proofs.HelperPlaces.{helped, spot_at}
use Rattle.av_build.proofs.HelpersOn.{place_of_helper}
use Rattle.av_build.proofs.ProgramFor.{value_is, lane_made, value_built, helper_built}
use Rattle.av_build.proofs.SamePieces.{HaveSameSpots, same_spots}
use Rattle.av_build.proofs.SpotNodes.{cell_node}

-- ---- lists side by side

pub paired_by_place : {X : Type 0} (R : X → X → Type 0) (xs ys : List X) → length xs ≡ length ys → ((k : ℕ) (x y : X) → slice_get xs k ≡ Some x → slice_get ys k ≡ Some y → R x y) → Paired R xs ys
paired_by_place R [] [] size each = tt
paired_by_place R [] (y ∷ ys) size each = absurd (omega (arith, size))
paired_by_place R (x ∷ xs) [] size each = absurd (omega (arith, size))
paired_by_place R (x ∷ xs) (y ∷ ys) size each = (each 0 x y refl refl, paired_by_place R xs ys (omega (arith, size)) (λ k a b is_a is_b. each (suc k) a b is_a is_b))

-- so many elements behind two places of one list
pub paired_parts : {X : Type 0} (R : X → X → Type 0) (xs : List X) (n f g : ℕ) → ((i j k : ℕ) → i < n → f + i ≡ j → g + i ≡ k → (x : X) × (y : X) × (slice_get xs j ≡ Some x) × (slice_get xs k ≡ Some y) × R x y)
    → Paired R (take n (drop f xs)) (take n (drop g xs))
paired_parts R xs zero f g each = tt
paired_parts {X} R xs (suc n) f g each =
    let h = each 0 f g (omega arith) (omega arith) (omega arith) in
    subst (λ (l : List X). Paired R (take (suc n) l) (take (suc n) (drop g xs))) (sym (from_place xs f h.0 h.2))
    (subst (λ (l : List X). Paired R (take (suc n) (h.0 ∷ drop (suc f) xs)) (take (suc n) l)) (sym (from_place xs g h.1 h.3))
    (h.4, paired_parts R xs n (suc f) (suc g) (λ i j k lt a b. each (suc i) j k (omega (arith, lt)) (omega (arith, a)) (omega (arith, b)))))

-- ---- the helpers of places are told by the places

abbrev pipelines_of : List Site → List (Option Pipeline)
pipelines_of sites = map (λ (s : Site). s.pipeline) sites

pipelines_are : (w : ArrayMade) (at : SpotMade) (sites : List Site) → AllByRecursion (IsSiteOf w at) sites
    → pipelines_of sites ≡ map (λ (q : Place). pipeline_by (helpers_of w) at.place.0 q q.tree) (map (λ (s : Site). place_of s.place) sites)
pipelines_are w at [] h = refl
pipelines_are w at (s ∷ sites) h =
    ap (λ (o : Option Pipeline). o ∷ pipelines_of sites) h.0.pipeline
    ∙ ap (λ (l : List (Option Pipeline)). pipeline_by (helpers_of w) at.place.0 (place_of s.place) (place_of s.place).tree ∷ l) (pipelines_are w at sites h.1)

site_helpers_same : (k i : ℕ) (xs ys : List Site) → pipelines_of xs ≡ pipelines_of ys → site_helpers k i xs ≡ site_helpers k i ys
site_helpers_same k i [] [] e = refl
site_helpers_same k i [] (t ∷ ys) e = absurd cc
site_helpers_same k i (s ∷ xs) [] e = absurd cc
site_helpers_same k i (s ∷ xs) (t ∷ ys) e =
    let first = same_head s.pipeline t.pipeline (pipelines_of xs) (pipelines_of ys) e in
    let rest = site_helpers_same k (suc i) xs ys (same_tail s.pipeline t.pipeline (pipelines_of xs) (pipelines_of ys) e) in
    ap (λ (o : Option Pipeline). with_helper k i o (site_helpers k (suc i) xs)) first ∙ ap (λ (l : List HelperPlan). with_helper k i t.pipeline l) rest

helpers_same : (k : ℕ) (ps qs : List (List Site)) → length ps ≡ length qs → ((j : ℕ) (xs ys : List Site) → slice_get ps j ≡ Some xs → slice_get qs j ≡ Some ys → pipelines_of xs ≡ pipelines_of ys) → helpers_from k ps ≡ helpers_from k qs
helpers_same k [] [] size each = refl
helpers_same k [] (ys ∷ qs) size each = absurd (omega (arith, size))
helpers_same k (xs ∷ ps) [] size each = absurd (omega (arith, size))
helpers_same k (xs ∷ ps) (ys ∷ qs) size each =
    ap (λ (l : List HelperPlan). l ++ helpers_from (suc k) ps) (site_helpers_same k 0 xs ys (each 0 xs ys refl refl))
    ∙ ap (λ (l : List HelperPlan). site_helpers k 0 ys ++ l) (helpers_same (suc k) ps qs (omega (arith, size)) (λ j us vs is_u is_v. each (suc j) us vs is_u is_v))

-- ---- one piece of one node on two cells

module _ (w : ArrayMade) (at of : SpotMade) (s : IsSpot w at) (t : IsSpot w of) (node : at.node.0 ≡ of.node.0) (number : at.number ≡ of.number) where
  pub variable_same : view_variable at.var.now ≡ view_variable of.var.now
  variable_same = some_is (view_variable at.var.now) (view_variable of.var.now) (sym s.is_variable ∙ ap (slice_get (nodes (system_of w))) node ∙ t.is_variable)

  pub piece_same : view_piece at.piece.now ≡ view_piece of.piece.now
  piece_same = some_is (view_piece at.piece.now) (view_piece of.piece.now)
      (sym s.is_piece ∙ ap (λ (v : Variable). slice_get v.pieces at.number) variable_same ∙ ap (slice_get (view_variable of.var.now).pieces) number ∙ t.is_piece)

  place_same : at.place.0 ≡ of.place.0
  place_same = s.place ∙ ap (node_place (system_of w)) node ∙ sym t.place

  pipelines_same : (xs ys : List Site) → AreSites w at xs → AreSites w of ys → pipelines_of xs ≡ pipelines_of ys
  pipelines_same xs ys x y =
      let by : ℕ → Place → Option Pipeline = λ own q. pipeline_by (helpers_of w) own q q.tree in
      let there : map (λ (s : Site). place_of s.place) xs ≡ map (λ (s : Site). place_of s.place) ys =
      x.places ∙ ap (λ (k : ℕ). places_in k 0 (view_piece at.piece.now).tree) number ∙ ap (λ (q : Piece). places_in of.number 0 q.tree) piece_same ∙ sym y.places in
      pipelines_are w at xs (recursion_from_All (IsSiteOf w at) xs x.each) ∙ ap (map (by at.place.0)) there
      ∙ ap (λ (own : ℕ). map (by own) (map (λ (s : Site). place_of s.place) ys)) place_same ∙ sym (pipelines_are w of ys (recursion_from_All (IsSiteOf w of) ys y.each))

  pipeline_same : (i : ℕ) → pipeline_at (seen w) (spot_of at) i ≡ pipeline_at (seen w) (spot_of of) i
  pipeline_same i = ap (λ (n : ℕ). helper_at (helpers_of w) (node_place (system_of w) n) at.number i) node ∙ ap (λ (k : ℕ). helper_at (helpers_of w) (node_place (system_of w) of.node.0) k i) number

-- ---- alike lanes of helpers

one_alike : (m n : Mode) (s t : ProgramSite) (tree : Tree) → m.work ≡ one_site s tree → n.work ≡ one_site t tree → AreAlikeSites s t → AreAlikeModes m n
one_alike m n s t tree e f alike = record {
  tree = ap (λ (x : Work). x.tree) e ∙ sym (ap (λ (x : Work). x.tree) f);
  sites = subst (λ (x : Work). Paired AreAlikeSites x.sites n.work.sites) (sym e) (subst (λ (x : Work). Paired AreAlikeSites (s ∷ []) x.sites) (sym f) (alike, tt));
}

alike_helpers : (a : Array) (count : ℕ → ℕ) (lanes : Lanes) (j : ℕ) (h : Helper) (v : Variable) (piece : Piece) (r : Reference) (p q : ℕ) (l m : Lane)
    → IsHelperLane a count lanes (helper_spot a h v piece p) j h r l → IsHelperLane a count lanes (helper_spot a h v piece q) j h r m → AreAlikeLanes l m
alike_helpers a count lanes j h v piece r p q l m x y = record {
  width = width_is l.width m.width (x.width_is ∙ sym y.width_is);
  modes = subst (λ (ms : List Mode). Paired AreAlikeModes ms m.modes) (sym x.modes_are) (subst (λ (ms : List Mode). Paired AreAlikeModes (x.entry_mode ∷ x.own_mode ∷ []) ms) (sym y.modes_are) (
    one_alike x.entry_mode y.entry_mode x.entry_site y.entry_site (reference r.place r.map) x.entry_work y.entry_work
        (record { inlet = x.entry_inlet ∙ sym y.entry_inlet; width = width_is x.entry_site.width y.entry_site.width (x.entry_width ∙ sym y.entry_width) }),
    (
      one_alike x.own_mode y.own_mode x.own_site y.own_site (reference r.place r.map) x.own_work y.own_work
          (record { inlet = x.own_inlet ∙ sym y.own_inlet; width = width_is x.own_site.width y.own_site.width (x.own_width ∙ sym y.own_width) }),
      tt,
    ),
  ));
}

-- ---- alike cells

inlet_same : (s : FlatSystem) (f g : ℕ → ℕ) → ((j : ℕ) → f j ≡ g j) → (o : Option Pipeline) (t : Tree) → inlet_by s f o t ≡ inlet_by s g o t
inlet_same s f g e None (reference place m) = refl
inlet_same s f g e (Some h) (reference place m) = ap Pipe (e h.number)
inlet_same s f g e None _ = refl
inlet_same s f g e (Some h) _ = refl

module _ (b : Blueprint) (is : IsBlueprint b) (p q : ℕ) (x y : CellPlan) (is_x : slice_get b.cells p ≡ Some x) (is_y : slice_get b.cells q ≡ Some y) (same : HaveSamePieces x.pieces.spots y.pieces.spots) where
  abbrev w : ArrayMade
  w = b.array

  abbrev lanes : Lanes
  lanes = lanes_of b.cells

  alike : HaveSameSpots (spots_on w x.pieces) (spots_on w y.pieces)
  alike = same_spots w x.pieces.spots y.pieces.spots same

  of_x : ArePieces w p x.pieces
  of_x = is.plans.pieces p x is_x

  of_y : ArePieces w q y.pieces
  of_y = is.plans.pieces q y is_y

  on_x : (k : ℕ) (at : SpotMade) → slice_get (spots_on w x.pieces) k ≡ Some at → (at.cell.0 ≡ p) × (0 < length at.slots) × IsSpot w at
  on_x k at e = spot_at w is.array p x.pieces of_x k at e

  on_y : (k : ℕ) (at : SpotMade) → slice_get (spots_on w y.pieces) k ≡ Some at → (at.cell.0 ≡ q) × (0 < length at.slots) × IsSpot w at
  on_y k at e = spot_at w is.array q y.pieces of_y k at e

  pub helpers_are : helpers_on x.pieces ≡ helpers_on y.pieces
  helpers_are =
      let a = of_x.one_each in
      let d = of_y.one_each in
      let e = alike.0 in
      helpers_same 0 x.pieces.sites y.pieces.sites (omega (arith, a, d, e)) (λ j xs ys is_xs is_ys. (
      let low = in_range x.pieces.sites j xs is_xs in
      let at = there_is (spots_on w x.pieces) j (omega (arith, low, a)) in
      let of = there_is (spots_on w y.pieces) j (omega (arith, low, a, e)) in
      let f = alike.1 j at.0 of.0 at.1 of.1 in
      pipelines_same w at.0 of.0 (on_x j at.0 at.1).2 (on_y j of.0 of.1).2 f.0 f.1 xs ys (of_x.sites j at.0 xs at.1 is_xs) (of_y.sites j of.0 ys of.1 is_ys)))

  pipes_are : (j : ℕ) → pipe_in lanes p x.lanes.first j ≡ pipe_in lanes q y.lanes.first j
  pipes_are j =
      let u : lanes.of_helper j p ≡ x.lanes.first + helper_place j (helpers_on x.pieces) = ap (λ (o : Option CellPlan). helper_in j o) is_x in
      let v : lanes.of_helper j q ≡ y.lanes.first + helper_place j (helpers_on y.pieces) = ap (λ (o : Option CellPlan). helper_in j o) is_y in
      let e : helper_place j (helpers_on x.pieces) ≡ helper_place j (helpers_on y.pieces) = ap (helper_place j) helpers_are in
      omega (arith, u, v, e)

  -- ---- the works of one piece

  module _ (count : ℕ → ℕ) (at of : SpotMade) (here : at.cell.0 ≡ p) (there : of.cell.0 ≡ q) (s : IsSpot w at) (t : IsSpot w of) (node : at.node.0 ≡ of.node.0) (number : at.number ≡ of.number) where
    piece_is : view_piece at.piece.now ≡ view_piece of.piece.now
    piece_is = piece_same w at of s t node number

    site_alike : (i : ℕ) (u : Tree) (c d : ProgramSite) → IsPlaceSite (seen w) count lanes x.lanes.first (spot_of at) i u c → IsPlaceSite (seen w) count lanes y.lanes.first (spot_of of) i u d → AreAlikeSites c d
    site_alike i u c d g h =
        let pipeline = pipeline_same w at of s t node number i in
        let f : ℕ → ℕ = pipe_in lanes at.cell.0 x.lanes.first in
        let k : ℕ → ℕ = pipe_in lanes of.cell.0 y.lanes.first in
        let pipes : (j : ℕ) → f j ≡ k j = λ j. ap (λ (n : ℕ). pipe_in lanes n x.lanes.first j) here ∙ pipes_are j ∙ sym (ap (λ (n : ℕ). pipe_in lanes n y.lanes.first j) there) in
        record {
          inlet = g.inlet ∙ inlet_same (system_of w) f k pipes (pipeline_at (seen w) (spot_of at) i) u ∙ ap (λ (o : Option Pipeline). inlet_by (system_of w) k o u) pipeline ∙ sym h.inlet;
          width = width_is c.width d.width
              (g.width ∙ ap (λ (v : Variable). read_width (system_of w) v.width (pipeline_at (seen w) (spot_of at) i) u) (variable_same w at of s t node number)
              ∙ ap (λ (o : Option Pipeline). read_width (system_of w) (view_variable of.var.now).width o u) pipeline ∙ sym h.width);
        }

    works_alike : (m n : Mode) → IsWorkFor (seen w) count lanes x.lanes.first (spot_of at) m.work → IsWorkFor (seen w) count lanes y.lanes.first (spot_of of) n.work → AreAlikeModes m n
    works_alike m n g h =
        let A : ℕ → ℕ → Tree → Type 0 = λ k i u. (site : ProgramSite) × (slice_get m.work.sites k ≡ Some site) × IsPlaceSite (seen w) count lanes x.lanes.first (spot_of at) i u site in
        let B : ℕ → ℕ → Tree → Type 0 = λ k i u. (site : ProgramSite) × (slice_get n.work.sites k ≡ Some site) × IsPlaceSite (seen w) count lanes y.lanes.first (spot_of of) i u site in
        let Good : ℕ → Type 0 = λ k. (c d : ProgramSite) → slice_get m.work.sites k ≡ Some c → slice_get n.work.sites k ≡ Some d → AreAlikeSites c d in
        let tree = (view_piece at.piece.now).tree in
        let also : EachPlace B 0 0 tree = subst (λ (z : Piece). EachPlace B 0 0 z.tree) (sym piece_is) h.sites in
        let all = place_both A B 0 0 tree g.sites also in
        let many = g.many in
        record {
          tree = g.tree ∙ ap (λ (z : Piece). z.tree) piece_is ∙ sym h.tree;
          sites = paired_by_place AreAlikeSites m.work.sites n.work.sites (g.many ∙ ap (λ (z : Piece). site_count z.tree) piece_is ∙ sym h.many) (λ k c d is_c is_d. (
              let low = in_range m.work.sites k c is_c in
              numbered (λ k i u. A k i u × B k i u) Good (λ k i u z. λ c d is_c is_d. (
              let e = some_is z.0.0 c (sym z.0.1 ∙ is_c) in
              let f = some_is z.1.0 d (sym z.1.1 ∙ is_d) in
              subst (λ (o : ProgramSite). AreAlikeSites o d) e (subst (λ (o : ProgramSite). AreAlikeSites z.0.0 o) f (site_alike i u z.0.0 z.1.0 z.0.2 z.1.2)))) 0 0 tree all k (omega arith) (omega (arith, low, many)) c d is_c is_d));
        }

  -- ---- the lanes of both cells

  module _ (counter : Counter) (made : List LaneMade) (built : AreBuilt b counter b.lanes made) where
    values_alike : (l m : LaneMade) → slice_get made x.lanes.value ≡ Some l → slice_get made y.lanes.value ≡ Some m → AreAlikeLanes (lane_of l) (lane_of m)
    values_alike l m is_l is_m =
        let g = value_built b is counter made built p x is_x l is_l in
        let h = value_built b is counter made built q y is_y m is_m in
        let many = is.plans.one_each in
        let low = in_range b.cells p x is_x in
        let high = in_range b.cells q y is_y in
        let u = busy w is.array p (omega (arith, low, many)) in
        let v = busy w is.array q (omega (arith, high, many)) in
        let some = some_spot w is.array p (omega (arith, low, many)) (spots_on w x.pieces) of_x.spots in
        let e = alike.0 in
        let at = there_is (spots_on w x.pieces) 0 some in
        let of = there_is (spots_on w y.pieces) 0 (omega (arith, some, e)) in
        let s = on_x 0 at.0 at.1 in
        let t = on_y 0 of.0 of.1 in
        let node : u.cell.node ≡ v.cell.node = cell_node w p at.0 s.0 s.2 u.cell u.is_cell ∙ (alike.1 0 at.0 of.0 at.1 of.1).0 ∙ sym (cell_node w q of.0 t.0 t.2 v.cell v.is_cell) in
        let variable : u.variable ≡ v.variable = some_is u.variable v.variable (sym u.is_variable ∙ ap (slice_get (nodes (system_of w))) node ∙ v.is_variable) in
        let wide = g.is_lane u.cycle u.cell.node u.point u.variable u.computes u.is_variable in
        let also = h.is_lane v.cycle v.cell.node v.point v.variable v.computes v.is_variable in
        record {
          width = width_is l.width m.width (wide.width_is ∙ ap (λ (z : Variable). z.width) variable ∙ sym also.width_is);
          modes = paired_by_place AreAlikeModes (lane_of l).modes (lane_of m).modes (g.one_each ∙ alike.0 ∙ sym h.one_each) (λ k a d is_a is_d. (
              let within = in_range (lane_of l).modes k a is_a in
              let size = g.one_each in
              let at = there_is (spots_on w x.pieces) k (omega (arith, within, size)) in
              let of = there_is (spots_on w y.pieces) k (omega (arith, within, size, e)) in
              let f = alike.1 k at.0 of.0 at.1 of.1 in
              let s = on_x k at.0 at.1 in
              let t = on_y k of.0 of.1 in
              works_alike (count_in counter) at.0 of.0 s.0 t.0 s.2 t.2 f.0 f.1 a d
              (g.works k a at.0 is_a at.1 x (ap (slice_get b.cells) s.0 ∙ is_x)) (h.works k d of.0 is_d of.1 y (ap (slice_get b.cells) t.0 ∙ is_y))));
        }

    helper_alike : (i : ℕ) (h : HelperPlan) → slice_get (helpers_on x.pieces) i ≡ Some h → (l m : LaneMade) → slice_get made (x.lanes.first + i) ≡ Some l → slice_get made (y.lanes.first + i) ≡ Some m → AreAlikeLanes (lane_of l) (lane_of m)
    helper_alike i h is_h l m is_l is_m =
        let also : slice_get (helpers_on y.pieces) i ≡ Some h = ap (λ (hs : List HelperPlan). slice_get hs i) (sym helpers_are) ∙ is_h in
        let from = place_of_helper x.pieces i h is_h in
        let e = helped w is.array p x.pieces of_x h from in
        let v = view_variable e.0.var.now in
        let piece = view_piece e.0.piece.now in
        let r : Reference = record { place = e.1.place; map = e.1.map_is } in
        alike_helpers (seen w) (count_in counter) lanes h.number e.1.helper v piece r p q (lane_of l) (lane_of m)
        (helper_built b is counter made built p x is_x i h is_h l is_l e.1.helper v piece r e.1.helps)
        (helper_built b is counter made built q y is_y i h also m is_m e.1.helper v piece r e.1.helps)

    lane_alike : (i : ℕ) → i ≤ length (helpers_on x.pieces) → (l m : LaneMade) → slice_get made (x.lanes.first + i) ≡ Some l → slice_get made (y.lanes.first + i) ≡ Some m → AreAlikeLanes (lane_of l) (lane_of m)
    lane_alike i high l m is_l is_m = elim (cases_lt i (length (helpers_on x.pieces))) [
      | inl lt ↦ (let h = there_is (helpers_on x.pieces) i lt in helper_alike i h.0 h.1 l m is_l is_m)
      | inr ge ↦ (
          let u = value_is b is counter made built p x is_x in
          let v = value_is b is counter made built q y is_y in
          let size = ap (λ (hs : List HelperPlan). length hs) helpers_are in
          let first : x.lanes.value ≡ x.lanes.first + i = omega (arith, u, ge, high) in
          let other : y.lanes.value ≡ y.lanes.first + i = omega (arith, v, ge, high, size) in
          values_alike l m (ap (slice_get made) first ∙ is_l) (ap (slice_get made) other ∙ is_m))
    ]

    pub cells_alike : Paired AreAlikeLanes (take (suc (x.lanes.value - x.lanes.first)) (drop x.lanes.first (map lane_of made))) (take (suc (y.lanes.value - y.lanes.first)) (drop y.lanes.first (map lane_of made)))
    cells_alike =
        let all = map lane_of made in
        let n = suc (length (helpers_on x.pieces)) in
        let u = value_is b is counter made built p x is_x in
        let v = value_is b is counter made built q y is_y in
        let size = ap (λ (hs : List HelperPlan). length hs) helpers_are in
        let e : n ≡ suc (x.lanes.value - x.lanes.first) = omega (arith, u) in
        let f : n ≡ suc (y.lanes.value - y.lanes.first) = omega (arith, v, size) in
        subst (λ (k : ℕ). Paired AreAlikeLanes (take k (drop x.lanes.first all)) (take (suc (y.lanes.value - y.lanes.first)) (drop y.lanes.first all))) e
        (subst (λ (k : ℕ). Paired AreAlikeLanes (take n (drop x.lanes.first all)) (take k (drop y.lanes.first all))) f
        (paired_parts AreAlikeLanes all n x.lanes.first y.lanes.first (λ i j k lt a d. (
        let l = lane_made b is counter made built p x is_x j (omega (arith, a)) (omega (arith, a, lt, u)) in
        let m = lane_made b is counter made built q y is_y k (omega (arith, d)) (omega (arith, d, lt, v, size)) in
        (lane_of l.0, lane_of m.0, get_mapped lane_of made j l.0 l.1, get_mapped lane_of made k m.0 m.1, lane_alike i (omega (arith, lt)) l.0 m.0 (ap (slice_get made) a ∙ l.1) (ap (slice_get made) d ∙ m.1))))))
