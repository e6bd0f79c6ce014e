-- The modules of a program are netlists of it: their plan is sound, and its runs are histories.
use Rattle.std.proofs.Common.{◌≡◌, ℕ, zero, suc, ◌+◌, ◌-◌, ◌^◌, ◌<◌, ◌≤◌, List, [], ◌∷◌, ◌++◌, length, refl, sym, subst, ap, ◌∙◌, arith, Bool, true, if◌then◌else◌, Option, Some, None}
use Rattle.std.specs.Prelude.{Contains, slice_get}
use Rattle.std.specs.List.{AllByRecursion, list_any}
use Rattle.std.proofs.lemmas.List.Elements.{All-contains_itself, recursion_from_All}
use Rattle.av_base.proofs.Lists.{some_is, there_is, each_at, each_first, each_second, each_weaker}
use Rattle.av_net.specs.declared.operation.Operand.TheVariants.{Name}
use Rattle.av_net.specs.declared.operation.Operation.TheVariants.{Plain}
use Rattle.av_net.specs.declared.netlist.Drive.{Drive}
use Rattle.av_net.specs.declared.netlist.Module.{Module}
use Rattle.av_net.specs.declared.design.Listing.{Listing}
use Rattle.av_net.specs.Names.{width_of}
use Rattle.av_net.specs.Settled.{Holds}
use Rattle.av_net.specs.Clocked.{Stream, Run, IsRun}
use Rattle.av_net.specs.Flat.{flat_module}
use Rattle.av_net.specs.Instances.{IsPlanSettled}
use Rattle.av_net.proofs.Parts.{settled_by_parts}
use Rattle.av_kinds.specs.declared.counter.Counter.{Counter}
use Rattle.av_kinds.specs.declared.planning.Modules.{Modules}
use Rattle.av_kinds.specs.declared.program.CellLanes.{CellLanes}
use Rattle.av_kinds.specs.Programs.{Mode, Lane, Program, lanes_of, IsSite, IsModeOf, IsLaneOf, IsProgram}
use Rattle.av_kinds.specs.Histories.{Signals, IsDone, IsHistory, mode_by, task_of, task_in, lane_task, tasks_of}
use Rattle.av_kinds.specs.Names.{Labels, input_name, output_name, line_name, labels}
use Rattle.av_kinds.specs.Counters.{IsCounter, counter_name, count_in}
use Rattle.av_kinds.specs.Tops.{port, output_drives, lane_wires, lane_steps}
use Rattle.av_kinds.specs.Netlists.{plan_of, HasInstance, AreNetlistsOf}
use Rattle.av_kinds.specs.inner.Counts.{counter_wires, counter_drives, counter_step}
use Rattle.av_kinds.specs.inner.Shapes.{LaneShape, IsKindShape}
use Rattle.av_kinds.specs.inner.Kinds.{counts}
use Rattle.av_kinds.specs.inner.Instances.{outputs_from, instance_by}
use Rattle.av_kinds.specs.inner.Modules.{AreShapesOf, top_by, kinds_by, instances_by, IsSmallKind, AreModulesOf}
use Rattle.av_kinds.proofs.KindNames.{IsFewKind}
use Rattle.av_kinds.proofs.FewKinds.{few_kinds, kinds_many}
use Rattle.av_kinds.proofs.KindWide.{wide_kind}
use Rattle.av_kinds.proofs.Shown.{LanesShow}
use Rattle.av_kinds.proofs.Lines.{line_has, counter_has}
use Rattle.av_kinds.proofs.ShapeSuits.{below_length}
use Rattle.av_kinds.proofs.PlanShown.{made_instance, cell_shows}
use Rattle.av_kinds.proofs.RunShown.{lane_in, lane_shows, lane_done, IsPlacedAt, lanes_of_pipes}
use Rattle.av_kinds.proofs.TopGroups.{lane_at, outputs_are}
use Rattle.av_kinds.proofs.TopInstances.{lane_of_cell, cell_within, suit_many, lanes_many, some_counts, cells_placed, instances_many}
use Rattle.av_kinds.proofs.TopSound.{at_wires, has_names}
use Rattle.av_kinds.proofs.Spelled.{sound_modules, plan_sound}

at_outputs : (P : Drive → Type 0) (names : Labels) (a : ℕ) (outputs : List ℕ) → AllByRecursion P (output_drives names a outputs) → (k q : ℕ) → slice_get outputs k ≡ Some q → (j : ℕ) → a + k ≡ j
    → P (record { target = output_name j; operation = Plain (Name (names.value q)) })
at_outputs P names a [] h k q is j at = absurd cc
at_outputs P names a (r ∷ outputs) h zero q is j at =
    let e : a ≡ j = omega arith in
    subst (λ i. P (record { target = output_name i; operation = Plain (Name (names.value q)) })) e (subst (λ i. P (record { target = output_name a; operation = Plain (Name (names.value i)) })) (some_is r q is) h.0)
at_outputs P names a (r ∷ outputs) h (suc k) q is j at = at_outputs P names (a + 1) outputs h.1 k q is j (omega arith)

-- the places of a cell's lanes
placed_at : (program : Program) (first p k : ℕ) (lanes : List Lane) → ((i : ℕ) (lane : Lane) → slice_get lanes i ≡ Some lane → IsLaneOf program first p (first + (k + i)) lane) → IsPlacedAt program first k lanes
placed_at program first p k [] each = tt
placed_at program first p k (lane ∷ lanes) each =
    let e : k + 0 ≡ k = omega arith in
    let here : IsLaneOf program first p (first + k) lane = subst (λ i. IsLaneOf program first p (first + i) lane) e (each 0 lane refl) in (
      each_weaker (IsModeOf program first (first + k) lane.width.bits) (λ (m : Mode). AllByRecursion (IsSite program first (first + k)) m.work.sites) (λ m h. h.sites) lane.modes here.modes,
      placed_at program first p (k + 1) lanes (λ i l there. let f : k + suc i ≡ k + 1 + i = omega arith in subst (λ j. IsLaneOf program first p (first + j) l) f (each (suc i) l there)),
    )

module _ (counter : Counter) (program : Program) (is : IsProgram program) (ok : IsCounter counter) (shapes : List (List LaneShape)) (are : AreShapesOf program shapes) (few : AllByRecursion IsFewKind shapes) (many : length shapes ≤ 10 ^ 64) where
  abbrev pub names : Labels
  names = labels program

  abbrev pub counted : Bool
  counted = list_any counts shapes

  abbrev pub top : Module
  top = top_by counter counted program

  abbrev pub modules : Modules
  modules = record { kinds = kinds_by 0 shapes; top = top; instances = instances_by counter program shapes 0 program.cells program.kinds }

  abbrev pub made : AreModulesOf counter program modules
  made = record { shapes = shapes; are_shapes = are; kinds_are = refl; instances_are = refl; top_is = refl }

  module _ (l : Listing) (n : ℕ) (stream : Stream) (run : Run) (is_run : IsRun (flat_module (plan_of l modules)) n stream run) where
    parts : (c : ℕ) → c < n → IsPlanSettled (plan_of l modules) (run.in_cycle c)
    parts c lt = settled_by_parts (plan_of l modules) (sound_modules counter program is ok shapes are few many l) (run.in_cycle c) (is_run.settled c lt)

    drives_hold : (c : ℕ) → c < n → AllByRecursion (Holds (width_of top) (run.in_cycle c)) top.drives
    drives_hold c lt = recursion_from_All (Holds (width_of top) (run.in_cycle c)) top.drives (parts c lt).drives

    count_is : counted ≡ true → (c : ℕ) → c < n → run.in_cycle c (counter_name counter) ≡ count_in counter c
    count_is e = counter_has program (flat_module (plan_of l modules)) counter (ap (λ (b : Bool). lane_steps names 0 program.lanes ++ (if b then counter_step counter ∷ [] else [])) e) ok (width_of top)
        ((has_names counter program is ok shapes are few).count e).wide n stream run is_run
        (λ c lt. subst (λ (b : Bool). AllByRecursion (Holds (width_of top) (run.in_cycle c)) (if b then counter_drives counter else [])) e
        (each_second (Holds (width_of top) (run.in_cycle c)) (output_drives names 0 program.outputs) (if counted then counter_drives counter else []) (drives_hold c lt)))

    lines : (q : ℕ) (lane : Lane) → slice_get program.lanes q ≡ Some lane → (d : ℕ) → d ≤ lane.length → (j : ℕ) → j + d < n → run.in_cycle (j + d) (line_name names q d) ≡ run.in_cycle j (names.value q)
    lines = line_has program (flat_module (plan_of l modules)) (if counted then counter_step counter ∷ [] else []) refl n stream run is_run

    abbrev pub ports : Signals
    ports c k = run.in_cycle c (input_name k)

    abbrev pub values : Signals
    values c q = run.in_cycle c (names.value q)

    -- the lanes of a cell show the words of their works
    cell_has : (c : ℕ) → c < n → (p k : ℕ) (own : CellLanes) (shape : List LaneShape) → slice_get program.cells p ≡ Some own → slice_get program.kinds p ≡ Some k → slice_get shapes k ≡ Some shape → own.first ≤ own.value
        → LanesShow names (run.in_cycle c) (count_in counter c) own.first shape (lanes_of program own)
    cell_has c lt p k own shape is_cell is_kind is_shape low =
        cell_shows counter program modules made (run.in_cycle c) (count_in counter c) (parts c lt).instances p k own shape is_cell is_kind is_shape
        (λ counting. count_is (some_counts shapes k shape is_shape counting) c lt)
        (wide_kind k shape (each_at IsKindShape shapes k shape are.each is_shape) (each_at IsFewKind shapes k shape few is_shape))
        (lanes_of_pipes program own.first (count_in counter c) (length shape) 0 shape (lanes_of program own) (omega arith)
        (placed_at program own.first p 0 (lanes_of program own) (λ i lane there. let e : i ≡ 0 + i = omega arith in subst (λ j. IsLaneOf program own.first p (own.first + j) lane) e (lane_of_cell program is p own is_cell i lane there low).1)))

    mode_done : (c : ℕ) → c < n → (q : ℕ) (lane : Lane) → slice_get program.lanes q ≡ Some lane → (m : Mode) → mode_by (count_in counter c) lane.modes ≡ Some m → IsDone ports values c q (task_of lane.width.bits (count_in counter c) m.work)
    mode_done c lt q lane there m here =
        let cell = lane_at program is q lane there in
        let p = cell.0 in
        let own = cell.1 in
        let kind = there_is program.kinds p (omega (arith, below_length program.cells p own cell.2, is.kinds)) in
        let shape = there_is shapes kind.0 (are.all p kind.0 kind.1) in
        let h = q - own.first in
        let shown = lane_shows names (run.in_cycle c) (count_in counter c) own.first shape.0 (lanes_of program own) (are.suit kind.0 shape.0 shape.1 p own cell.2 kind.1)
        (cell_has c lt p kind.0 own shape.0 cell.2 kind.1 shape.1 (omega (arith, cell.3, cell.4))) h lane (lane_in program.lanes own.first own.value q lane cell.3 cell.4 there h (omega (arith, cell.3))) q (omega (arith, cell.3)) in
        lane_done program n run.in_cycle lines c lt (count_in counter c) own.first p q lane cell.5 shown.0 shown.1 shown.2 m here

    done : IsHistory (tasks_of program) (count_in counter) n ports values
    done c q task lt = by_lane (slice_get program.lanes q) refl
      where
        by_mode : (lane : Lane) → slice_get program.lanes q ≡ Some lane → (o : Option Mode) → mode_by (count_in counter c) lane.modes ≡ o → task_in lane.width.bits (count_in counter c) o ≡ Some task → IsDone ports values c q task
        by_mode lane there None here told = absurd cc
        by_mode lane there (Some m) here told = subst (IsDone ports values c q) (some_is (task_of lane.width.bits (count_in counter c) m.work) task told) (mode_done c lt q lane there m here)

        by_lane : (o : Option Lane) → slice_get program.lanes q ≡ o → lane_task (count_in counter c) o ≡ Some task → IsDone ports values c q task
        by_lane None there told = absurd cc
        by_lane (Some lane) there told = by_mode lane there (mode_by (count_in counter c) lane.modes) refl told

    output_shown : (c k q : ℕ) → c < n → slice_get program.outputs k ≡ Some q → run.in_cycle c (output_name k) ≡ values c q
    output_shown c k q lt at = at_outputs (Holds (width_of top) (run.in_cycle c)) names 0 program.outputs
        (each_first (Holds (width_of top) (run.in_cycle c)) (output_drives names 0 program.outputs) (if counted then counter_drives counter else []) (drives_hold c lt)) k q at k (omega arith)

  instance_of : (p kind : ℕ) (own : CellLanes) → slice_get program.cells p ≡ Some own → slice_get program.kinds p ≡ Some kind → HasInstance program modules p kind own
  instance_of p kind own is_cell is_kind =
      let shape = there_is shapes kind (are.all p kind is_kind) in
      let room = suit_many shape.0 (lanes_of program own) (are.suit kind shape.0 shape.1 p own is_cell is_kind) ∙ lanes_many program own (cell_within 0 program.cells (length program.lanes) is.in_turn p own is_cell) in
      record {
        instance = instance_by names (counter_name counter) p kind own.first shape.0 (lanes_of program own);
        is_there = made_instance counter program modules made p kind own shape.0 is_cell is_kind shape.1;
        name = refl;
        kind_is = refl;
        outputs = ap (outputs_from names own.first) room ∙ outputs_are names own.first (suc (own.value - own.first));
      }

  lane_wire : (q : ℕ) (lane : Lane) → slice_get program.lanes q ≡ Some lane → Contains top.wires (port lane.width (names.value q))
  lane_wire q lane there = at_wires (Contains top.wires) names 0 program.lanes
      (each_first (Contains top.wires) (lane_wires names 0 program.lanes) (if counted then counter_wires counter else []) (recursion_from_All (Contains top.wires) top.wires (All-contains_itself top.wires))) q lane there q (omega arith)

  netlists : AreNetlistsOf counter program modules
  netlists = record {
    sound = plan_sound counter program is ok shapes are few many;
    name = refl;
    inputs = refl;
    outputs = refl;
    wires = lane_wire;
    one_each = instances_many counter program is shapes are few 0 program.cells program.kinds (cells_placed counter program is shapes are few);
    instances = instance_of;
    histories = done;
    shown = output_shown;
  }

-- Modules that are those of a program, with no more kinds than lists have items, are netlists of it.
pub made_netlists : (counter : Counter) (program : Program) → IsProgram program → IsCounter counter → (m : Modules) → (made : AreModulesOf counter program m) → AllByRecursion IsSmallKind m.kinds → length m.kinds ≤ 2 ^ 30 → AreNetlistsOf counter program m
made_netlists counter program is ok m made small some =
    let few : AllByRecursion IsFewKind made.shapes = few_kinds 0 made.shapes (subst (AllByRecursion IsSmallKind) made.kinds_are small) in
    let total : length m.kinds ≡ length made.shapes = ap length made.kinds_are ∙ kinds_many 0 made.shapes in
    let many : length made.shapes ≤ 10 ^ 64 = omega (arith, total, some) in
    let same : modules counter program is ok made.shapes made.are_shapes few many ≡ m =
    sym (ap (λ ks. let x : Modules = record { kinds = ks; top = m.top; instances = m.instances } in x) made.kinds_are
    ∙ ap (λ t. let x : Modules = record { kinds = kinds_by 0 made.shapes; top = t; instances = m.instances } in x) made.top_is
    ∙ ap (λ is. let x : Modules = record { kinds = kinds_by 0 made.shapes; top = top_by counter (list_any counts made.shapes) program; instances = is } in x) made.instances_are) in
    subst (AreNetlistsOf counter program) same (netlists counter program is ok made.shapes made.are_shapes few many)
