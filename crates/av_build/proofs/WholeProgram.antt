-- The program of a blueprint's lanes is a program, and one for the array that was given.
use Rattle.std.proofs.Common.{◌≡◌, ℕ, zero, suc, ◌+◌, ◌-◌, ◌^◌, ◌<◌, ◌≤◌, inl, inr, List, length, map, take, drop, refl, sym, ap, subst, ◌∙◌, arith, mod-lt, Some}
use Rattle.std.specs.Prelude.{All, slice_get}
use Rattle.std.specs.List.{AllByRecursion, range_with_len}
use Rattle.std.proofs.lemmas.Bool.{cases_lt}
use Rattle.std.proofs.lemmas.List.{length-map}
use Rattle.av_base.proofs.Lists.{each_by_place, some_is, there_is}
use Rattle.av_tree.specs.Points.{Point}
use Rattle.av_flat.specs.declared.timed.Timed.{Timed}
use Rattle.av_flat.specs.Trees.{view_system}
use Rattle.av_space.specs.declared.array.Array.{Array as ArrayMade}
use Rattle.av_space.specs.declared.cells.Cell.{Cell}
use Rattle.av_space.specs.declared.cells.Cells.{Cells}
use Rattle.av_space.specs.Ports.{is_output_cell}
use Rattle.av_space.specs.Spots.{helpers_of, cells_of}
use Rattle.av_space.specs.Whole.{IsWhole}
use Rattle.av_space.proofs.ByPlace.{from_map, place_of, all_by_place}
use Rattle.av_space.proofs.Elements.{at_index, in_range}
use Rattle.av_kinds.specs.declared.counter.Counter.{Counter}
use Rattle.av_kinds.specs.declared.counter.Counter.TheVariants.{Cycles, Phases}
use Rattle.av_kinds.specs.declared.program.CellLanes.{CellLanes}
use Rattle.av_kinds.specs.Counters.{IsCounter, count_in}
use Rattle.av_kinds.specs.Programs.{Lane, Program, Paired, AreAlikeLanes, AreInTurn, IsLaneOf, IsProgram}
use Rattle.av_kinds.specs.Written.{LaneMade, lane_of}
use Rattle.av_kinds.proofs.RunShown.{cell_of}
use Rattle.av_history.specs.Arranged.{IsArranged}
use Rattle.av_history.specs.Performing.{Array, ComputesOn, Lanes}
use Rattle.av_build.specs.declared.blueprint.Blueprint.{Blueprint}
use Rattle.av_build.specs.declared.blueprint.CellPlan.{CellPlan}
use Rattle.av_build.specs.declared.blueprint.LanePlan.{LanePlan}
use Rattle.av_build.specs.inner.Blueprints.{seen, lanes_of, IsBlueprint}
use Rattle.av_build.specs.inner.Built.{array_of, HasPorts, AreSorted, IsProgrammed}
use Rattle.av_build.specs.inner.Lanes.{AreBuilt, AreKindsOf}
use Rattle.av_build.specs.inner.Programmed.{IsLaneFor, of_value, of_helper, IsProgramFor}
use Rattle.av_build.proofs.AlikeLanes.{cells_alike}
use Rattle.av_build.proofs.Connected.{few_cycles, words_fit}
use Rattle.av_build.proofs.HelperLaneOf.{helper_lane_of}
use Rattle.av_build.proofs.HelpersApart.{different, in_turn as cells_in_turn}
use Rattle.av_build.proofs.ProgramFor.{lane_made, of_value_is, value_is, program_for}
use Rattle.av_build.proofs.ProgramLanes.{value_lane_of}
use Rattle.av_build.proofs.SeenArray.{seen_is, arranged_seen}
use Rattle.av_build.proofs.SortedCells.{sorted_by}

-- ---- numbers

few_numbers : (counter : Counter) → IsCounter counter → (c : ℕ) → count_in counter c < 2 ^ 12
few_numbers Cycles h c = mod-lt c (omega arith)
few_numbers (Phases period) h c = let l = mod-lt c h.0 in let m = h.1 in omega (arith, l, m)

range_low : (b k i n : ℕ) → slice_get (range_with_len b k) i ≡ Some n → n < b + k
range_low b zero i n e = absurd cc
range_low b (suc k) zero n e = let f = some_is b n e in omega (arith, f)
range_low b (suc k) (suc i) n e = let r = range_low (b + 1) k i n e in omega (arith, r)

-- the cells of outputs are cells of the array
pub outputs_low : (b : Blueprint) → IsBlueprint b → All (λ p. p < length (cells_of b.array)) b.array.cells.now.outputs
outputs_low b is =
    let w : ArrayMade = b.array in
    let a : Cells = w.cells.now in
    let n = length a.cells in
    let here : n ≡ length (cells_of w) = ap (λ (l : List Cell). length l) is.array.same_cells in
    all_by_place (λ (p : ℕ). p < length (cells_of w)) a.outputs (λ i p e. (
    let listed = sym (ap (λ (l : List ℕ). slice_get l i) is.array.whole.list.outputs) ∙ e in
    let place = place_of (is_output_cell (view_system w.timed.now.flat) a.cells) (range_with_len 0 n) i p listed in
    let low = range_low 0 n place.0 p place.1 in
    omega (arith, low, here)))

-- ---- the lanes of one cell have different ranks

lanes_apart : (a : Array) (count : ℕ → ℕ) (lanes : Lanes) (f g m n q r : ℕ) (x y : Lane) → IsLaneFor a count lanes f m q x → IsLaneFor a count lanes g n r y → x.home ≡ y.home → x.rank ≡ y.rank → q ≡ r
lanes_apart a count lanes f g m n q r x y (of_value c k z v computes is_variable at is) (of_value d j u w there is_other to it) home rank =
    let e : m ≡ n = sym is.home_is ∙ home ∙ it.home_is in at ∙ ap lanes.of_value e ∙ sym to
lanes_apart a count lanes f g m n q r x y (of_value c k z v computes is_variable at is) (of_helper j h v' piece ref it d u there inside to low high l) home rank = absurd (let s = is.rank_is in let t = l.rank_is in omega (arith, s, t, rank))
lanes_apart a count lanes f g m n q r x y (of_helper j h v piece ref it c z computes inside at low high l) (of_value d k u w there is_other to is) home rank = absurd (let s = is.rank_is in let t = l.rank_is in omega (arith, s, t, rank))
lanes_apart a count lanes f g m n q r x y (of_helper j h v piece ref it c z computes inside at low high l) (of_helper k i w part reads of d u there within to least most o) home rank =
    let e : m ≡ n = sym l.home_is ∙ home ∙ o.home_is in
    let s = l.rank_is in
    let t = o.rank_is in
    let same : j ≡ k = omega (arith, s, t, rank) in
    at ∙ ap (λ (i : ℕ). lanes.of_helper i m) same ∙ ap (lanes.of_helper k) e ∙ sym to

module _ (b : Blueprint) (is : IsBlueprint b) (counter : Counter) (counts : IsCounter counter) (made : List LaneMade) (built : AreBuilt b counter b.lanes made) (limit : b.array.cells.now.cycles ≤ 4096)
    (program : Program) (are_lanes : program.lanes ≡ map lane_of made) (are_cells : program.cells ≡ map (λ (plan : CellPlan). plan.lanes) b.cells) (stride : program.stride ≡ suc (length (helpers_of b.array)))
    (kinds : AreKindsOf b.cells program.kinds) (ports : HasPorts (seen b.array) program.inputs) (outputs : program.outputs ≡ map (lanes_of b.cells).of_value b.array.cells.now.outputs) where
  abbrev w : ArrayMade
  w = b.array

  abbrev lanes : Lanes
  lanes = lanes_of b.cells

  -- ---- lanes

  for_array : IsProgramFor (seen w) (count_in counter) lanes program
  for_array = program_for b is counter made built program are_lanes are_cells stride (λ p plan is_plan. different w is.array p plan.pieces (is.plans.pieces p plan is_plan))

  arranged : IsArranged (seen w)
  arranged = arranged_seen w is.array

  abbrev HasFewCycles : Array → Type 0
  HasFewCycles a = (p c n : ℕ) (z : Point) → ComputesOn a p c n z → c < 2 ^ 12

  cycles : HasFewCycles (seen w)
  cycles = subst HasFewCycles (seen_is w is.array) (few_cycles w.timed.now w.cells.now is.array.legal is.array.whole.list limit)

  lane_fine : (p q : ℕ) (own : CellLanes) (lane : Lane) → slice_get program.cells p ≡ Some own → IsLaneFor (seen w) (count_in counter) lanes own.first p q lane → IsLaneOf program own.first p q lane
  lane_fine p q own lane is_own (of_value c n z v computes is_variable at h) =
      subst (λ (k : ℕ). IsLaneOf program own.first p k lane) (sym at)
      (value_lane_of (seen w) (count_in counter) (few_numbers counter counts) lanes program for_array arranged ports cycles (words_fit w.timed.now w.cells.now is.array.legal is.array.whole.list) p own.first own is_own refl c n z v computes is_variable lane h)
  lane_fine p q own lane is_own (of_helper j h v piece r it c z computes inside at low high l) =
      subst (λ (k : ℕ). IsLaneOf program own.first p k lane) (sym at)
      (helper_lane_of (seen w) (count_in counter) (few_numbers counter counts) lanes program for_array arranged ports cycles (words_fit w.timed.now w.cells.now is.array.legal is.array.whole.list) p own.first j h v piece r it c z computes inside lane l)

  -- ---- in turn

  lane_count : length program.lanes ≡ length made
  lane_count = ap (λ (l : List Lane). length l) are_lanes ∙ length-map made lane_of

  turn : AreInTurn 0 program.cells (length program.lanes)
  turn =
      let size = built.one_each in
      let all = ap (λ (l : List LanePlan). length l) is.plans.lanes_are in
      let count = lane_count in
      subst (λ (l : List CellLanes). AreInTurn 0 l (length program.lanes)) (sym are_cells) (cells_in_turn 0 0 b.cells is.plans.numbered (length program.lanes) (omega (arith, size, all, count)))

  different_ranks : (q r : ℕ) (x y : Lane) → slice_get program.lanes q ≡ Some x → slice_get program.lanes r ≡ Some y → x.home ≡ y.home → x.rank ≡ y.rank → q ≡ r
  different_ranks q r x y is_x is_y home rank =
      let f = cell_of 0 program.cells (length program.lanes) turn q (omega arith) (in_range program.lanes q x is_x) in
      let g = cell_of 0 program.cells (length program.lanes) turn r (omega arith) (in_range program.lanes r y is_y) in
      lanes_apart (seen w) (count_in counter) lanes f.own.first g.own.first f.cell g.cell q r x y
      (for_array.only f.cell q f.own x f.is_cell f.low f.high is_x) (for_array.only g.cell r g.own y g.is_cell g.low g.high is_y) home rank

  -- ---- kinds

  numbered : (p k j : ℕ) → slice_get program.kinds p ≡ Some k → j ≤ k → (i : ℕ) × (slice_get program.kinds i ≡ Some j)
  numbered p k j is_k high = elim (cases_lt j k) [
    | inl lt ↦ kinds.numbered p k j is_k lt
    | inr ge ↦ (let e : k ≡ j = omega (arith, high, ge) in (p, is_k ∙ ap Some e))
  ]

  planned : (p : ℕ) (own : CellLanes) → slice_get program.cells p ≡ Some own → (plan : CellPlan) × (slice_get b.cells p ≡ Some plan) × (plan.lanes ≡ own)
  planned p own e = from_map (λ (plan : CellPlan). plan.lanes) b.cells p own (ap (λ (l : List CellLanes). slice_get l p) (sym are_cells) ∙ e)

  abbrev own_part : List Lane → CellLanes → List Lane
  own_part all own = take (suc (own.value - own.first)) (drop own.first all)

  alike : (p q k : ℕ) (own other : CellLanes) → slice_get program.kinds p ≡ Some k → slice_get program.kinds q ≡ Some k → slice_get program.cells p ≡ Some own → slice_get program.cells q ≡ Some other
      → Paired AreAlikeLanes (own_part program.lanes own) (own_part program.lanes other)
  alike p q k own other is_k is_l is_own is_other =
      let x = planned p own is_own in
      let y = planned q other is_other in
      let same = (kinds.same p q k k x.0 y.0 x.1 y.1 is_k is_l).0 refl in
      subst (λ (all : List Lane). Paired AreAlikeLanes (own_part all own) (own_part all other)) (sym are_lanes)
      (subst (λ (o : CellLanes). Paired AreAlikeLanes (own_part (map lane_of made) o) (own_part (map lane_of made) other)) x.2
      (subst (λ (o : CellLanes). Paired AreAlikeLanes (own_part (map lane_of made) x.0.lanes) (own_part (map lane_of made) o)) y.2
      (cells_alike b is p q x.0 y.0 x.1 y.1 same counter made built)))

  -- ---- outputs

  outputs_there : AllByRecursion (λ (q : ℕ). q < length program.lanes) program.outputs
  outputs_there = each_by_place (λ (q : ℕ). q < length program.lanes) program.outputs there
    where
      there : (i q : ℕ) → slice_get program.outputs i ≡ Some q → q < length program.lanes
      there i q e =
          let p = from_map lanes.of_value w.cells.now.outputs i q (ap (λ (l : List ℕ). slice_get l i) (sym outputs) ∙ e) in
          let low = at_index (λ (p : ℕ). p < length (cells_of w)) w.cells.now.outputs (outputs_low b is) i p.0 p.1 in
          let many = is.plans.one_each in
          let plan = there_is b.cells p.0 (omega (arith, low, many)) in
          let number = value_is b is counter made built p.0 plan.0 plan.1 in
          let lane = lane_made b is counter made built p.0 plan.0 plan.1 plan.0.lanes.value (omega (arith, number)) (omega arith) in
          let within = in_range made plan.0.lanes.value lane.0 lane.1 in
          let at = of_value_is b is counter made built p.0 plan.0 plan.1 in
          let f = p.2 in
          let count = lane_count in
          omega (arith, within, at, f, count)

  -- ---- the whole

  module _ (few_inputs : length program.inputs < 2 ^ 32) (few_cells : length program.cells < 2 ^ 32) (few_outputs : length program.outputs < 2 ^ 32) (few_ranks : program.stride < 2 ^ 64) where
    whole_program : IsProgram program
    whole_program = record {
      in_turn = turn;
      lanes = λ p q own lane is_own low high is_lane. lane_fine p q own lane is_own (for_array.only p q own lane is_own low high is_lane);
      apart = different_ranks;
      kinds = kinds.one_each ∙ sym (ap (λ (l : List CellLanes). length l) are_cells ∙ length-map b.cells (λ (plan : CellPlan). plan.lanes));
      numbered = numbered;
      alike = alike;
      outputs = outputs_there;
      inputs_few = few_inputs;
      cells_few = few_cells;
      outputs_few = few_outputs;
      ranks_few = few_ranks;
    }

    as_given : (t : Timed) (a : Cells) → w.timed.now ≡ t → w.cells.now ≡ a → (whole : IsWhole t a) × (seen w ≡ array_of t a whole.list.placings)
    as_given t a e f =
        subst (λ (u : Timed). (whole : IsWhole u a) × (seen w ≡ array_of u a whole.list.placings)) e
        (subst (λ (c : Cells). (whole : IsWhole w.timed.now c) × (seen w ≡ array_of w.timed.now c whole.list.placings)) f (is.array.whole, sym (seen_is w is.array)))

    pub programmed : (t : Timed) (a : Cells) → t ≡ w.timed.now → a ≡ w.cells.now → IsProgrammed t a counter program
    programmed t a e f =
        let given = as_given t a (sym e) (sym f) in
        record {
          whole = given.0;
          lanes = lanes;
          is_program_for = subst (λ (x : Array). IsProgramFor x (count_in counter) lanes program) given.1 for_array;
          is_program = whole_program;
          ports = subst (λ (x : Array). HasPorts x program.inputs) given.1 ports;
          outputs_are = outputs ∙ ap (λ (c : Cells). map lanes.of_value c.outputs) (sym f);
          sorted = subst (λ (x : Array). AreSorted x program.kinds) given.1 (sorted_by b is program.kinds kinds);
        }
