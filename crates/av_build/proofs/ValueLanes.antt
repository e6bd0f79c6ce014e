-- The lane of the value of a cell, from a mode for each of its pieces.
use Rattle.std.proofs.Common.{◌≡◌, ℕ, ◌<◌, inl, inr, List, length, map, sym, ap, subst, ◌∙◌, arith, IsTrue, Some, None}
use Rattle.std.specs.Prelude.{slice_get, nat_lt}
use Rattle.std.proofs.lemmas.Bool.{cases_lt}
use Rattle.av_base.proofs.Among.{among_at}
use Rattle.av_base.proofs.Lists.{get_mapped, some_is, there_is, place_in}
use Rattle.av_base.proofs.Truths.{both}
use Rattle.av_tree.specs.Points.{Point}
use Rattle.av_flat.specs.Trees.{Piece, Variable, view_piece, view_variable}
use Rattle.av_flat.specs.Signatures.{is_computed}
use Rattle.av_flat.specs.Nodes.{is_node, nodes}
use Rattle.av_flat.specs.Points.{has}
use Rattle.av_space.specs.declared.array.Array.{Array as ArrayMade}
use Rattle.av_space.specs.declared.spots.Spot.{Spot as SpotMade}
use Rattle.av_space.specs.Links.{line_length}
use Rattle.av_space.specs.Spots.{system_of, helpers_of, placings_of, cells_of, ComputesIn, IsSpot, IsSlotIn, AreSpots}
use Rattle.av_space.proofs.ByPlace.{from_map, pair_at}
use Rattle.av_space.proofs.Elements.{at_index, in_range}
use Rattle.av_flat.proofs.NodeNumbers.{passing}
use Rattle.av_space.proofs.OneCell.{one_node}
use Rattle.av_kinds.specs.declared.counter.Counter.{Counter}
use Rattle.av_kinds.specs.Counters.{count_in}
use Rattle.av_kinds.specs.Programs.{Mode, Lane}
use Rattle.av_history.specs.Performing.{Spot}
use Rattle.av_history.specs.Arranged.{IsArranged}
use Rattle.av_build.specs.declared.blueprint.Blueprint.{Blueprint}
use Rattle.av_build.specs.declared.blueprint.CellPlan.{CellPlan}
use Rattle.av_build.specs.inner.Blueprints.{seen, spot_of, spots_on, lanes_of, IsBlueprint, IsCounted}
use Rattle.av_build.specs.inner.Lanes.{IsValueMode, IsBuiltBy}
use Rattle.av_build.specs.inner.Programmed.{IsWorkFor, IsModeFor, AreAlone, IsValueLane}
use Rattle.av_build.proofs.AloneLemmas.{both_hold}
use Rattle.av_build.proofs.SpotNodes.{computed_node, computed_variable}

module _ (b : Blueprint) (is : IsBlueprint b) (counter : Counter) (counted : IsCounted b.array counter) (arranged : IsArranged (seen b.array))
    (one : (p c m n : ℕ) (y z : Point) → ComputesIn b.array p c m y → ComputesIn b.array p c n z → (m ≡ n) × (y ≡ z))
    (p : ℕ) (plan : CellPlan) (is_plan : slice_get b.cells p ≡ Some plan) where
  abbrev w : ArrayMade
  w = b.array

  abbrev spots : List SpotMade
  spots = spots_on w plan.pieces

  are : AreSpots w p spots
  are = (is.plans.pieces p plan is_plan).spots

  spot_at : (i : ℕ) (at : SpotMade) → slice_get spots i ≡ Some at → (at.cell.0 ≡ p) × (0 < length at.slots) × IsSpot w at
  spot_at i at e = at_index (λ (at : SpotMade). (at.cell.0 ≡ p) × (0 < length at.slots) × IsSpot w at) spots are.each i at e

  -- on a cell that computes the node n
  module _ (c n : ℕ) (z : Point) (v : Variable) (computes : ComputesIn w p c n z) (is_variable : slice_get (nodes (system_of w)) n ≡ Some v) where
    abbrev spot : ℕ → Piece → Spot
    spot k piece = record { cell = p; node = n; variable = v; number = k; piece = piece }

    node_is : (at : SpotMade) → at.cell.0 ≡ p → IsSpot w at → at.node.0 ≡ n
    node_is at e s = computed_node w p at e s c n z computes

    variable_is : (at : SpotMade) → at.cell.0 ≡ p → IsSpot w at → view_variable at.var.now ≡ v
    variable_is at e s = computed_variable w p at e s c n z computes v is_variable

    -- each piece is one of the node's variable
    spot_is : (at : SpotMade) → at.cell.0 ≡ p → IsSpot w at → spot_of at ≡ spot at.number (view_piece at.piece.now)
    spot_is at e s =
        let piece = view_piece at.piece.now in
        ap (λ (k : ℕ). record { cell = k; node = at.node.0; variable = view_variable at.var.now; number = at.number; piece = piece }) e
        ∙ ap (λ (k : ℕ). record { cell = p; node = k; variable = view_variable at.var.now; number = at.number; piece = piece }) (node_is at e s)
        ∙ ap (λ (u : Variable). record { cell = p; node = n; variable = u; number = at.number; piece = piece }) (variable_is at e s)

    of_variable : (at : SpotMade) → at.cell.0 ≡ p → IsSpot w at → slice_get v.pieces at.number ≡ Some (view_piece at.piece.now)
    of_variable at e s = subst (λ (u : Variable). slice_get u.pieces at.number ≡ Some (view_piece at.piece.now)) (variable_is at e s) s.is_piece

    once : (i j k : ℕ) → slice_get (map (λ (at : SpotMade). at.number) spots) i ≡ Some k → slice_get (map (λ (at : SpotMade). at.number) spots) j ≡ Some k → i ≡ j
    once i j k x y =
        let a = from_map (λ (at : SpotMade). at.number) spots i k x in
        let d = from_map (λ (at : SpotMade). at.number) spots j k y in
        let e = a.2 in
        let f = d.2 in
        elim (cases_lt i j) [
          | inl l ↦ absurd (let h = pair_at (λ (a b : SpotMade). a.number < b.number) spots are.order i j a.0 d.0 a.1 d.1 l in omega (arith, h, e, f))
          | inr ge ↦ elim (cases_lt j i) [
            | inl l ↦ absurd (let h = pair_at (λ (a b : SpotMade). a.number < b.number) spots are.order j i d.0 a.0 d.1 a.1 l in omega (arith, h, e, f))
            | inr le ↦ omega (arith, ge, le)
          ]
        ]

    -- the piece of a point on the cell is the only one
    same_piece : (d m : ℕ) (y : Point) → ComputesIn w p d m y → (j k : ℕ) (s t : Piece) → slice_get v.pieces j ≡ Some s → slice_get v.pieces k ≡ Some t → IsTrue (has s.domain y) → IsTrue (has t.domain y) → j ≡ k
    same_piece d m y there j k s t is_s is_t in_s in_t =
        let node = one_node (system_of w) (placings_of w) (cells_of w) p d c m n y z there computes in
        let computation = there.stands.computation in
        let variable : computation.variable ≡ v = some_is computation.variable v (sym computation.is ∙ ap (λ (i : ℕ). slice_get (nodes (system_of w)) i) node ∙ is_variable) in
        let declared : IsTrue (has v.domain y) = subst (λ (u : Variable). IsTrue (has u.domain y)) variable computation.declared in
        let here = passing is_node (system_of w).variables n v is_variable in
        arranged.one_piece v y (among_at (system_of w).variables here.place v here.is) (both (is_computed v.kind) (nat_lt 0 (length v.pieces)) here.passes).0 declared j k s t is_s is_t in_s in_t

    -- each has a computation
    busy_piece : (i k : ℕ) (piece : Piece) → slice_get (map (λ (at : SpotMade). at.number) spots) i ≡ Some k → slice_get v.pieces k ≡ Some piece → (d : ℕ) × (y : Point) × ComputesIn w p d n y × IsTrue (has piece.domain y)
    busy_piece i k piece e f =
        let at = from_map (λ (at : SpotMade). at.number) spots i k e in
        let s = spot_at i at.0 at.1 in
        let t = there_is at.0.slots 0 s.1 in
        let on = at_index (IsSlotIn w at.0.cell.0 at.0.node.0 at.0.piece.now.domain) at.0.slots s.2.are_slots.each 0 t.0 t.1 in
        let same : view_piece at.0.piece.now ≡ piece = some_is (view_piece at.0.piece.now) piece (sym (of_variable at.0 s.0 s.2) ∙ ap (λ (j : ℕ). slice_get v.pieces j) at.2 ∙ f) in
        let here = subst (λ (q : ℕ). ComputesIn w q t.0.cycle at.0.node.0 t.0.point) s.0 on.computes in
        (t.0.cycle, t.0.point, subst (λ (m : ℕ). ComputesIn w p t.0.cycle m t.0.point) (node_is at.0 s.0 s.2) here, subst (λ (q : Piece). IsTrue (has q.domain t.0.point)) same on.within)

    module _ (modes : List Mode) (many : length modes ≡ length spots) (each : (k : ℕ) (mode : Mode) → slice_get modes k ≡ Some mode → IsValueMode b counter p k mode) where
      -- the piece of a mode
      piece_of : (i : ℕ) (mode : Mode) → slice_get modes i ≡ Some mode
          → (k : ℕ) × (piece : Piece) × (slice_get (map (λ (at : SpotMade). at.number) spots) i ≡ Some k) × (slice_get v.pieces k ≡ Some piece)
          × IsWorkFor (seen w) (count_in counter) (lanes_of b.cells) plan.lanes.first (spot k piece) mode.work
          × IsModeFor (seen w) (count_in counter) p (λ m z. m ≡ n) (λ m z. IsTrue (has piece.domain z)) mode
      piece_of i mode e =
          let low = in_range modes i mode e in
          let at = there_is spots i (omega (arith, low, many)) in
          let s = spot_at i at.0 at.1 in
          let own = each i mode e plan at.0 is_plan at.1 in
          let work : IsWorkFor (seen w) (count_in counter) (lanes_of b.cells) plan.lanes.first (spot_of at.0) mode.work = own.0 plan (ap (λ (k : ℕ). slice_get b.cells k) s.0 ∙ is_plan) in (
            at.0.number,
            view_piece at.0.piece.now,
            get_mapped (λ (at : SpotMade). at.number) spots i at.0 at.1,
            of_variable at.0 s.0 s.2,
            subst (λ (x : Spot). IsWorkFor (seen w) (count_in counter) (lanes_of b.cells) plan.lanes.first x mode.work) (spot_is at.0 s.0 s.2) work,
            subst (λ (k : ℕ). IsModeFor (seen w) (count_in counter) p (λ m z. m ≡ k) (λ m z. IsTrue (has (view_piece at.0.piece.now).domain z)) mode) (node_is at.0 s.0 s.2) own.1,
          )

      every : (k : ℕ) (piece : Piece) → slice_get v.pieces k ≡ Some piece → (d m : ℕ) (y : Point) → ComputesIn w p d m y → IsTrue (has piece.domain y)
          → (i : ℕ) × (mode : Mode) × (slice_get modes i ≡ Some mode) × (slice_get (map (λ (at : SpotMade). at.number) spots) i ≡ Some k)
      every k piece e d m y there inside =
          let node = one_node (system_of w) (placings_of w) (cells_of w) p d c m n y z there computes in
          let here = are.all d m y v k piece there (ap (λ (i : ℕ). slice_get (nodes (system_of w)) i) node ∙ is_variable) e inside in
          let i = place_in (map (λ (at : SpotMade). at.number) spots) k here in
          let at = from_map (λ (at : SpotMade). at.number) spots i.0 k i.1 in
          let low = in_range spots i.0 at.0 at.1 in
          let mode = there_is modes i.0 (omega (arith, low, many)) in
          (i.0, mode.0, mode.1, i.1)

      alone : AreAlone modes
      alone x i j m o is_m is_o active also =
          let s = piece_of i m is_m in
          let t = piece_of j o is_o in
          let there = both_hold (seen w) counter p (λ c d m n y z. counted.within p c d m n y z) (λ c m n y z. one p c m n y z) (λ m z. m ≡ n) (λ m z. IsTrue (has s.1.domain z)) (λ m z. IsTrue (has t.1.domain z)) m o s.5 t.5 x active also in
          let same = same_piece there.0 there.1 there.2 there.3 s.0 t.0 s.1 t.1 s.3 t.3 there.4 there.5 in
          once i j t.0 (s.2 ∙ ap (λ (k : ℕ). Some k) same) t.2

      value_lane : (lane : Lane) → lane.home ≡ p → lane.rank ≡ 0 → lane.width.bits ≡ v.width → lane.modes ≡ modes → lane.length ≡ line_length (system_of w) (helpers_of w) (cells_of w) w.cells.now.links p None
          → IsValueLane (seen w) (count_in counter) (lanes_of b.cells) plan.lanes.first p n v lane
      value_lane lane home rank width are_modes size = record {
        home_is = home;
        rank_is = rank;
        width_is = width;
        pieces = map (λ (at : SpotMade). at.number) spots;
        mode = λ i mode e. piece_of i mode (ap (λ (l : List Mode). slice_get l i) (sym are_modes) ∙ e);
        busy = busy_piece;
        every = λ k piece e d m y there inside. (
            let r = every k piece e d m y there inside in
            (r.0, r.1, ap (λ (l : List Mode). slice_get l r.0) are_modes ∙ r.2, r.3));
        alone = subst AreAlone (sym are_modes) alone;
        length_is = size;
      }

  -- the lane is what its plan says
  pub value_built : (modes : List Mode) → length modes ≡ length spots → ((k : ℕ) (mode : Mode) → slice_get modes k ≡ Some mode → IsValueMode b counter p k mode) → (first : SpotMade) → slice_get spots 0 ≡ Some first
      → (lane : Lane) → lane.home ≡ p → lane.rank ≡ 0 → lane.width.bits ≡ (view_variable first.var.now).width → lane.modes ≡ modes → lane.length ≡ line_length (system_of w) (helpers_of w) (cells_of w) w.cells.now.links p None
      → IsBuiltBy b counter p None lane
  value_built modes many each first is_first lane home rank width are_modes size = λ other is_other. record {
    is_lane = λ c n z v computes is_variable.
        let s = spot_at 0 first is_first in
        let wide : lane.width.bits ≡ v.width = width ∙ ap (λ (u : Variable). u.width) (variable_is c n z v computes is_variable first s.0 s.2) in
        subst (λ (x : CellPlan). IsValueLane (seen w) (count_in counter) (lanes_of b.cells) x.lanes.first p n v lane) (some_is plan other (sym is_plan ∙ is_other))
        (value_lane c n z v computes is_variable modes many each lane home rank wide are_modes size);
    one_each = subst (λ (x : CellPlan). length lane.modes ≡ length (spots_on w x.pieces)) (some_is plan other (sym is_plan ∙ is_other)) (ap (λ (l : List Mode). length l) are_modes ∙ many);
    works = λ k mode at is_mode is_at. (each k mode (ap (λ (l : List Mode). slice_get l k) (sym are_modes) ∙ is_mode) other at is_other is_at).0;
  }
