-- The top module of a program is sound, with the instances of its cells.
use Rattle.std.proofs.Common.{◌≡◌, ℕ, zero, suc, ◌+◌, ◌<◌, List, [], ◌∷◌, ◌++◌, map, length, refl, sym, subst, ap, ◌∙◌, arith, append_assoc, Bool, true, false, if◌then◌else◌, Some, inl, inr}
use Rattle.std.specs.Prelude.{All, Contains, slice_get}
use Rattle.std.specs.List.{AllByRecursion, range_with_len, list_any}
use Rattle.std.proofs.lemmas.Nat.{pow_pos}
use Rattle.std.proofs.lemmas.List.{map-append, length-map}
use Rattle.std.proofs.lemmas.List.Elements.{All-from_recursion, All-contains_itself, recursion_from_All, All-contains, Contains-append_left, Contains-append_right, Contains-append_cases, Contains-get_or}
use Rattle.av_base.specs.declared.width.Width.{Width}
use Rattle.av_base.specs.Words.{IsWord}
use Rattle.av_base.proofs.Lists.{some_is, there_is, each_at, each_by_place, each_first, each_second, each_weaker, each_append, get_mapped}
use Rattle.av_net.specs.declared.operation.Operand.{Operand}
use Rattle.av_net.specs.declared.operation.Operand.TheVariants.{Name, Literal}
use Rattle.av_net.specs.declared.netlist.Port.{Port}
use Rattle.av_net.specs.declared.netlist.Drive.{Drive}
use Rattle.av_net.specs.declared.netlist.Step.{Step}
use Rattle.av_net.specs.declared.netlist.Module.{Module}
use Rattle.av_net.specs.declared.plan.CellKind.{CellKind}
use Rattle.av_net.specs.declared.plan.Instance.{Instance}
use Rattle.av_net.specs.Meaning.{Widths, operand_width, EachOperand}
use Rattle.av_net.specs.Names.{AreDistinct, clk, rst, names_of, targets_of, registers_of, given_names, wire_names, all_names, IsAmong, width_of}
use Rattle.av_net.specs.Sound.{IsFitting, SuitsWidth, ComparesByOrder}
use Rattle.av_net.specs.Designs.{HasBits}
use Rattle.av_net.specs.Plans.{instance_names, linked_names, part_names, IsPlaced, IsSoundTop}
use Rattle.av_net.proofs.Distinct.{front_distinct}
use Rattle.av_kinds.specs.declared.counter.Counter.{Counter}
use Rattle.av_kinds.specs.declared.counter.Counter.TheVariants.{Cycles, Phases}
use Rattle.av_kinds.specs.Programs.{Lane, Program, IsProgram}
use Rattle.av_kinds.specs.Names.{Naming, Labels, input_name, output_name, line_name, labels}
use Rattle.av_kinds.specs.Counters.{IsCounter, counter_width, counter_name, next_name, last_name, sum_name}
use Rattle.av_kinds.specs.Tops.{port, width_in, numbered_ports, output_widths, output_drives, lane_wires, lane_registers, line_step, lane_steps}
use Rattle.av_kinds.specs.inner.Counts.{counter_wires, counter_drives, counter_step}
use Rattle.av_kinds.specs.inner.Shapes.{LaneShape}
use Rattle.av_kinds.specs.inner.Kinds.{counts}
use Rattle.av_kinds.specs.inner.Modules.{AreShapesOf, top_by, kinds_by, instances_by}
use Rattle.av_kinds.proofs.NameParts.{IsGroup, each_of_range}
use Rattle.av_kinds.proofs.TopNames.{of_lanes, wires_of, registers_in, wires_are, registers_are, steps_are, ports_are, AreSmall, wire_group, register_group, group}
use Rattle.av_kinds.proofs.TopGroups.{small_program, values_are, linked_are, number_group, counter_register, counter_wire_names, declared_names, driven_names}
use Rattle.av_kinds.proofs.PartNames.{instances_named}
use Rattle.av_kinds.proofs.ShapeSuits.{below_length}
use Rattle.av_kinds.proofs.KindNames.{IsFewKind}
use Rattle.av_kinds.proofs.KindDrives.{Keeps, AreGood, good_in_order, good_keep}
use Rattle.av_kinds.proofs.Wide.{IsWide}
use Rattle.av_kinds.proofs.ModuleWidths.{AreWide, are_wide}
use Rattle.av_kinds.proofs.PlanShown.{got}
use Rattle.av_kinds.proofs.Lines.{each_in_range}
use Rattle.av_kinds.proofs.TopInstances.{cells_placed, have_room, named, instances_many, HasNames, instances_placed, instances_known, instances_fit, are_in_order}

-- ---- elements of lists

itself : (names : List (List ℕ)) → AllByRecursion (Contains names) names
itself names = recursion_from_All (Contains names) names (All-contains_itself names)

contains_at : {X : Type 0} (xs : List X) (k : ℕ) (x : X) → slice_get xs k ≡ Some x → Contains xs x
contains_at xs k x is = subst (Contains xs) (got xs k x x is) (Contains-get_or xs k x (below_length xs k x is))

-- the names of ports are among them
ports_named : (ports : List Port) → AllByRecursion (λ (p : Port). Contains (names_of ports) p.name) ports
ports_named ports = each_by_place (λ (p : Port). Contains (names_of ports) p.name) ports (λ k p is. contains_at (names_of ports) k p.name (get_mapped (λ (q : Port). q.name) ports k p is))

at_ports : (P : Port → Type 0) (name : Naming) (a : ℕ) (widths : List Width) → AllByRecursion P (numbered_ports name a widths) → (k : ℕ) (w : Width) → slice_get widths k ≡ Some w → (j : ℕ) → a + k ≡ j → P (port w (name j))
at_ports P name a [] h k w is j at = absurd cc
at_ports P name a (v ∷ widths) h zero w is j at =
    let e : a ≡ j = omega arith in
    subst (λ i. P (port w (name i))) e (subst (λ (u : Width). P (port u (name a))) (some_is v w is) h.0)
at_ports P name a (v ∷ widths) h (suc k) w is j at = at_ports P name (a + 1) widths h.1 k w is j (omega arith)

pub at_wires : (P : Port → Type 0) (names : Labels) (a : ℕ) (lanes : List Lane) → AllByRecursion P (lane_wires names a lanes) → (k : ℕ) (lane : Lane) → slice_get lanes k ≡ Some lane → (j : ℕ) → a + k ≡ j → P (port lane.width (names.value j))
at_wires P names a [] h k lane is j at = absurd cc
at_wires P names a (l ∷ lanes) h zero lane is j at =
    let e : a ≡ j = omega arith in
    subst (λ i. P (port lane.width (names.value i))) e (subst (λ (u : Lane). P (port u.width (names.value a))) (some_is l lane is) h.0)
at_wires P names a (l ∷ lanes) h (suc k) lane is j at = at_wires P names (a + 1) lanes h.1 k lane is j (omega arith)

at_registers : (P : Port → Type 0) (names : Labels) (a : ℕ) (lanes : List Lane) → AllByRecursion P (lane_registers names a lanes) → (k : ℕ) (lane : Lane) → slice_get lanes k ≡ Some lane → (j : ℕ) → a + k ≡ j → (d : ℕ) → d < lane.length
    → P (port lane.width (names.register j d))
at_registers P names a [] h k lane is j at d lt = absurd cc
at_registers P names a (l ∷ lanes) h zero lane is j at d lt =
    let e : a ≡ j = omega arith in
    let same : l ≡ lane = some_is l lane is in
    let own = each_first P (map (λ i. port l.width (names.register a i)) (range_with_len 0 l.length)) (lane_registers names (a + 1) lanes) h in
    let long : d < l.length = subst (λ (x : Lane). d < x.length) (sym same) lt in
    subst (λ i. P (port lane.width (names.register i d))) e (subst (λ (x : Lane). P (port x.width (names.register a d))) same (each_in_range P (λ i. port l.width (names.register a i)) 0 l.length own d long d (omega arith)))
at_registers P names a (l ∷ lanes) h (suc k) lane is j at d lt =
    at_registers P names (a + 1) lanes (each_second P (map (λ i. port l.width (names.register a i)) (range_with_len 0 l.length)) (lane_registers names (a + 1) lanes) h) k lane is j (omega arith) d lt

-- what holds of each step of each lane holds of all steps
each_step : (P : Step → Type 0) (names : Labels) (a : ℕ) (lanes : List Lane) → ((k : ℕ) (lane : Lane) → slice_get lanes k ≡ Some lane → (j : ℕ) → a + k ≡ j → (d : ℕ) → d < lane.length → P (line_step names j d)) → AllByRecursion P (lane_steps names a lanes)
each_step P names a [] each = tt
each_step P names a (l ∷ lanes) each = each_append P (map (line_step names a) (range_with_len 0 l.length)) (lane_steps names (a + 1) lanes)
    (each_of_range P (line_step names a) 0 l.length (λ d le lt. each 0 l refl a (omega arith) d (omega (arith, lt))))
    (each_step P names (a + 1) lanes (λ k lane is j at. each (suc k) lane is j (omega (arith, at))))

output_targets : (names : Labels) (k : ℕ) (outputs : List ℕ) → targets_of (output_drives names k outputs) ≡ map output_name (range_with_len k (length outputs))
output_targets names k [] = refl
output_targets names k (q ∷ outputs) = ap (λ (ys : List (List ℕ)). output_name k ∷ ys) (output_targets names (k + 1) outputs)

-- ---- drives

module _ (W : Widths) (base : List (List ℕ)) where
  outputs_good : (names : Labels) (known : List (List ℕ)) (k : ℕ) (outputs : List ℕ) (more : List Drive) → ((x : List ℕ) → Contains base x → Contains known x)
      → ((i q : ℕ) → slice_get outputs i ≡ Some q → (j : ℕ) → k + i ≡ j → Contains base (names.value q) × (W (names.value q) ≡ W (output_name j)))
      → ((later : List (List ℕ)) → ((x : List ℕ) → Contains base x → Contains later x) → AreGood W later more) → AreGood W known (output_drives names k outputs ++ more)
  outputs_good names known k [] more grows each next = next known grows
  outputs_good names known k (q ∷ outputs) more grows each next =
      let here = each 0 q refl k (omega arith) in (
        record { read = grows (names.value q) here.0; suits = here.1; fits = tt; order = tt; bits = tt },
        outputs_good names (known ++ output_name k ∷ []) (k + 1) outputs more (λ x at. Contains-append_left known (output_name k ∷ []) x (grows x at)) (λ i r at j e. each (suc i) r at j (omega (arith, e))) next,
      )

  last_of : (known : List (List ℕ)) (x : List ℕ) → Contains (known ++ x ∷ []) x
  last_of known x = Contains-append_right known (x ∷ []) x (0, omega arith, refl)

  counter_good : (counter : Counter) → IsCounter counter → (known : List (List ℕ)) → Contains known (counter_name counter) → W (counter_name counter) ≡ 12 → AllByRecursion (IsWide W) (counter_wires counter) → AreGood W known (counter_drives counter)
  counter_good Cycles ok known has wide wires = (record { read = (has, tt); suits = (wide, wide ∙ sym wires.0); fits = (tt, omega arith); order = tt; bits = tt }, tt)
  counter_good (Phases period) ok known has wide wires =
      let one = known ++ last_name ∷ [] in
      let two = one ++ sum_name ∷ [] in (
        record { read = (has, tt); suits = (wide, sym wires.0); fits = (tt, omega (arith, ok.0, ok.1)); order = tt; bits = tt },
        (
          record { read = (Contains-append_left known (last_name ∷ []) (counter_name (Phases period)) has, tt); suits = (wide, wide ∙ sym wires.1.0); fits = (tt, omega arith); order = tt; bits = tt },
          (record { read = (Contains-append_left one (sum_name ∷ []) last_name (last_of known last_name), tt, last_of one sum_name); suits = (wires.0, sym wires.1.1.0, wires.1.0 ∙ sym wires.1.1.0); fits = (tt, omega arith, tt); order = tt; bits = tt }, tt),
        ),
      )

  if_counted : (counter : Counter) (counted : Bool) → IsCounter counter → (known : List (List ℕ)) → (counted ≡ true → Contains known (counter_name counter)) → (counted ≡ true → W (counter_name counter) ≡ 12)
      → AllByRecursion (IsWide W) (if counted then counter_wires counter else []) → AreGood W known (if counted then counter_drives counter else [])
  if_counted counter true ok known has wide wires = counter_good counter ok known (has refl) (wide refl) wires
  if_counted counter false ok known has wide wires = tt

-- ---- with a counter or without

module _ (counter : Counter) where
  register_names : (counted : Bool) → names_of (if counted then port counter_width (counter_name counter) ∷ [] else []) ≡ counter_register counter counted
  register_names true = refl
  register_names false = refl

  step_names : (counted : Bool) → registers_of (if counted then counter_step counter ∷ [] else []) ≡ counter_register counter counted
  step_names true = refl
  step_names false = refl

  target_names : (counter : Counter) (counted : Bool) → targets_of (if counted then counter_drives counter else []) ≡ counter_wire_names counter counted
  target_names Cycles true = refl
  target_names (Phases period) true = refl
  target_names counter false = refl

  counter_there : (counted : Bool) → counted ≡ true → Contains (counter_register counter counted) (counter_name counter)
  counter_there true e = (0, omega arith, refl)
  counter_there false e = absurd cc

  counter_wide : (W : Widths) (counted : Bool) → AllByRecursion (IsWide W) (if counted then port counter_width (counter_name counter) ∷ [] else []) → counted ≡ true → W (counter_name counter) ≡ 12
  counter_wide W true h e = h.0
  counter_wide W false h e = absurd cc

-- ---- the top module

module _ (counter : Counter) (program : Program) (is : IsProgram program) (ok : IsCounter counter) (shapes : List (List LaneShape)) (are : AreShapesOf program shapes) (few : AllByRecursion IsFewKind shapes) where
  abbrev pub names : Labels
  names = labels program

  abbrev pub kinds : List CellKind
  kinds = kinds_by 0 shapes

  abbrev pub counted : Bool
  counted = list_any counts shapes

  abbrev pub top : Module
  top = top_by counter counted program

  abbrev pub instances : List Instance
  instances = instances_by counter program shapes 0 program.cells program.kinds

  abbrev pub W : Widths
  W = width_of top

  -- the groups of names: input ports, registers, output ports, wires, and what instances bring
  abbrev pub I : List (List ℕ)
  I = map input_name (range_with_len 0 (length program.inputs))

  abbrev pub R : List (List ℕ)
  R = of_lanes (registers_in names) 0 program.lanes

  abbrev pub O : List (List ℕ)
  O = map output_name (range_with_len 0 (length program.outputs))

  abbrev pub V : List (List ℕ)
  V = of_lanes (wires_of names) 0 program.lanes

  abbrev pub U : List (List ℕ)
  U = instance_names instances ++ part_names kinds instances

  abbrev pub C : List (List ℕ)
  C = counter_register counter counted

  abbrev pub N : List (List ℕ)
  N = counter_wire_names counter counted

  registers_names : names_of top.registers ≡ R ++ C
  registers_names =
      let tail = if counted then port counter_width (counter_name counter) ∷ [] else [] in
      map-append (λ (p : Port). p.name) (lane_registers names 0 program.lanes) tail ∙ ap (λ (ys : List (List ℕ)). ys ++ names_of tail) (registers_are names 0 program.lanes) ∙ ap (λ (ys : List (List ℕ)). R ++ ys) (register_names counter counted)

  wires_names : names_of top.wires ≡ V ++ N
  wires_names = map-append (λ (p : Port). p.name) (lane_wires names 0 program.lanes) (if counted then counter_wires counter else []) ∙ ap (λ (ys : List (List ℕ)). ys ++ N) (wires_are names 0 program.lanes)

  outputs_names : names_of top.outputs ≡ O
  outputs_names = ports_are output_name 0 (output_widths program) ∙ ap (λ n. map output_name (range_with_len 0 n)) (length-map program.outputs (λ q. width_in (slice_get program.lanes q)))

  given_are : given_names top ≡ I ++ (R ++ C)
  given_are = ap (λ (ys : List (List ℕ)). ys ++ names_of top.registers) (ports_are input_name 0 program.inputs) ∙ ap (λ (ys : List (List ℕ)). I ++ ys) registers_names

  wire_names_are : wire_names top ≡ O ++ (V ++ N)
  wire_names_are = ap (λ (ys : List (List ℕ)). ys ++ names_of top.wires) outputs_names ∙ ap (λ (ys : List (List ℕ)). O ++ ys) wires_names

  pub all_are : all_names top ≡ (I ++ (R ++ C)) ++ (O ++ (V ++ N))
  all_are = ap (λ (ys : List (List ℕ)). ys ++ wire_names top) given_are ∙ ap (λ (ys : List (List ℕ)). (I ++ (R ++ C)) ++ ys) wire_names_are

  linked : linked_names instances ≡ V
  linked = linked_are counter program shapes 0 0 program.cells program.kinds (length program.lanes) (length program.lanes) is.in_turn (have_room counter program is shapes are few 0 program.cells program.kinds (cells_placed counter program is shapes are few)) (omega arith)
      ∙ sym (values_are names 0 program.lanes)

  targets : targets_of top.drives ≡ O ++ N
  targets = map-append (λ (d : Drive). d.target) (output_drives names 0 program.outputs) (if counted then counter_drives counter else [])
      ∙ ap (λ (ys : List (List ℕ)). ys ++ targets_of (if counted then counter_drives counter else [])) (output_targets names 0 program.outputs) ∙ ap (λ (ys : List (List ℕ)). O ++ ys) (target_names counter counter counted)

  registers : registers_of top.steps ≡ R ++ C
  registers = map-append (λ (t : Step). t.register) (lane_steps names 0 program.lanes) (if counted then counter_step counter ∷ [] else [])
      ∙ ap (λ (ys : List (List ℕ)). ys ++ registers_of (if counted then counter_step counter ∷ [] else [])) (steps_are names 0 program.lanes) ∙ ap (λ (ys : List (List ℕ)). R ++ ys) (step_names counter counted)

  -- ---- no name twice

  small : AreSmall program
  small = small_program program is

  groups_named : IsGroup (group 117 U)
  groups_named =
      let many = instances_many counter program is shapes are few 0 program.cells program.kinds (cells_placed counter program is shapes are few) in
      let h = instances_named kinds instances (named counter program is shapes are few 0 program.cells program.kinds (cells_placed counter program is shapes are few)) (omega (arith, many, is.cells_few)) in
      record { distinct = h.distinct; sorts = h.sorts }

  inputs_group : IsGroup (group 105 I)
  inputs_group = number_group 105 (length program.inputs) (omega (arith, is.inputs_few))

  outputs_group : IsGroup (group 111 O)
  outputs_group = number_group 111 (length program.outputs) (omega (arith, is.outputs_few))

  pub declared : AreDistinct (clk ∷ rst ∷ (all_names top ++ U))
  declared = subst (λ (ys : List (List ℕ)). AreDistinct (clk ∷ rst ∷ (ys ++ U))) (sym all_are)
      (declared_names I R O V U inputs_group (register_group program small) outputs_group (wire_group program small) groups_named counter counted)

  driven : AreDistinct ((linked_names instances ++ targets_of top.drives) ++ registers_of top.steps)
  driven =
      let all = driven_names I R O V U inputs_group (register_group program small) outputs_group (wire_group program small) groups_named counter counted in
      let e : (linked_names instances ++ targets_of top.drives) ++ registers_of top.steps ≡ (V ++ (O ++ N)) ++ (R ++ C) =
      ap (λ (ys : List (List ℕ)). (ys ++ targets_of top.drives) ++ registers_of top.steps) linked ∙ ap (λ (ys : List (List ℕ)). (V ++ ys) ++ registers_of top.steps) targets ∙ ap (λ (ys : List (List ℕ)). (V ++ (O ++ N)) ++ ys) registers in
      subst AreDistinct (sym e) all

  wide : AreWide top
  wide = are_wide top (front_distinct (clk ∷ rst ∷ all_names top) U declared)

  -- ---- which names stand where

  all_among : (A B C D : List (List ℕ)) → A ≡ C → B ≡ D → AllByRecursion (Contains C) D → AllByRecursion (Contains A) B
  all_among A B C D e f h = subst (λ (ys : List (List ℕ)). AllByRecursion (Contains ys) B) (sym e) (subst (λ (ys : List (List ℕ)). AllByRecursion (Contains C) ys) (sym f) h)

  within : (A B : List (List ℕ)) → ((x : List ℕ) → Contains B x → Contains A x) → AllByRecursion (Contains A) B
  within A B more = each_weaker (Contains B) (Contains A) more B (itself B)

  links_among : AllByRecursion (Contains (wire_names top)) (linked_names instances)
  links_among = all_among (wire_names top) (linked_names instances) (O ++ (V ++ N)) V wire_names_are linked (within (O ++ (V ++ N)) V (λ x at. Contains-append_right O (V ++ N) x (Contains-append_left V N x at)))

  drives_among : AllByRecursion (Contains (wire_names top)) (targets_of top.drives)
  drives_among = all_among (wire_names top) (targets_of top.drives) (O ++ (V ++ N)) (O ++ N) wire_names_are targets
      (each_append (Contains (O ++ (V ++ N))) O N (within (O ++ (V ++ N)) O (λ x at. Contains-append_left O (V ++ N) x at)) (within (O ++ (V ++ N)) N (λ x at. Contains-append_right O (V ++ N) x (Contains-append_right V N x at))))

  wires_among : AllByRecursion (Contains (linked_names instances ++ targets_of top.drives)) (wire_names top)
  wires_among = all_among (linked_names instances ++ targets_of top.drives) (wire_names top) (V ++ (O ++ N)) (O ++ (V ++ N))
      (ap (λ (ys : List (List ℕ)). ys ++ targets_of top.drives) linked ∙ ap (λ (ys : List (List ℕ)). V ++ ys) targets) wire_names_are
      (each_append (Contains (V ++ (O ++ N))) O (V ++ N) (within (V ++ (O ++ N)) O (λ x at. Contains-append_right V (O ++ N) x (Contains-append_left O N x at)))
      (each_append (Contains (V ++ (O ++ N))) V N (within (V ++ (O ++ N)) V (λ x at. Contains-append_left V (O ++ N) x at)) (within (V ++ (O ++ N)) N (λ x at. Contains-append_right V (O ++ N) x (Contains-append_right O N x at)))))

  value_among : (q : ℕ) (lane : Lane) → slice_get program.lanes q ≡ Some lane → Contains (names_of top.wires) (names.value q)
  value_among q lane there = at_wires (λ (p : Port). Contains (names_of top.wires) p.name) names 0 program.lanes
      (each_first (λ (p : Port). Contains (names_of top.wires) p.name) (lane_wires names 0 program.lanes) (if counted then counter_wires counter else []) (ports_named top.wires)) q lane there q (omega arith)

  value_wide : (q : ℕ) (lane : Lane) → slice_get program.lanes q ≡ Some lane → W (names.value q) ≡ lane.width.bits
  value_wide q lane there = at_wires (IsWide W) names 0 program.lanes (each_first (IsWide W) (lane_wires names 0 program.lanes) (if counted then counter_wires counter else []) wide.wires) q lane there q (omega arith)

  register_among : (q d : ℕ) (lane : Lane) → slice_get program.lanes q ≡ Some lane → d < lane.length → Contains (names_of top.registers) (names.register q d)
  register_among q d lane there lt = at_registers (λ (p : Port). Contains (names_of top.registers) p.name) names 0 program.lanes
      (each_first (λ (p : Port). Contains (names_of top.registers) p.name) (lane_registers names 0 program.lanes) (if counted then port counter_width (counter_name counter) ∷ [] else []) (ports_named top.registers)) q lane there q (omega arith) d lt

  register_wide : (q d : ℕ) (lane : Lane) → slice_get program.lanes q ≡ Some lane → d < lane.length → W (names.register q d) ≡ lane.width.bits
  register_wide q d lane there lt = at_registers (IsWide W) names 0 program.lanes
      (each_first (IsWide W) (lane_registers names 0 program.lanes) (if counted then port counter_width (counter_name counter) ∷ [] else []) wide.registers) q lane there q (omega arith) d lt

  count_known : counted ≡ true → Contains (given_names top) (counter_name counter)
  count_known e = subst (λ (ys : List (List ℕ)). Contains ys (counter_name counter)) (sym given_are) (Contains-append_right I (R ++ C) (counter_name counter) (Contains-append_right R C (counter_name counter) (counter_there counter counted e)))

  count_wide : counted ≡ true → W (counter_name counter) ≡ 12
  count_wide = counter_wide counter W counted (each_second (IsWide W) (lane_registers names 0 program.lanes) (if counted then port counter_width (counter_name counter) ∷ [] else []) wide.registers)

  pub has_names : HasNames counter program is shapes are few (given_names top) W
  has_names = record {
    input = λ k w there. record {
      known = Contains-append_left (names_of top.inputs) (names_of top.registers) (input_name k) (at_ports (λ (p : Port). Contains (names_of top.inputs) p.name) input_name 0 program.inputs (ports_named top.inputs) k w there k (omega arith));
      wide = at_ports (IsWide W) input_name 0 program.inputs wide.inputs k w there k (omega arith);
      fits = tt;
    };
    register = λ q d lane there lt. record {
      known = Contains-append_right (names_of top.inputs) (names_of top.registers) (names.register q d) (register_among q d lane there lt);
      wide = register_wide q d lane there lt;
      fits = tt;
    };
    value = value_wide;
    count = λ e. record { known = count_known e; wide = count_wide e; fits = tt };
  }

  -- ---- the drives

  lane_there : (k q : ℕ) → slice_get program.outputs k ≡ Some q → (lane : Lane) × (slice_get program.lanes q ≡ Some lane)
  lane_there k q at = there_is program.lanes q (each_at (λ i. i < length program.lanes) program.outputs k q is.outputs at)

  output_wide : (k q : ℕ) (lane : Lane) → slice_get program.outputs k ≡ Some q → slice_get program.lanes q ≡ Some lane → W (output_name k) ≡ lane.width.bits
  output_wide k q lane at there =
      let e : width_in (slice_get program.lanes q) ≡ lane.width = ap width_in there in
      at_ports (IsWide W) output_name 0 (output_widths program) wide.outputs k lane.width (get_mapped (λ i. width_in (slice_get program.lanes i)) program.outputs k q at ∙ ap Some e) k (omega arith)

  abbrev pub base : List (List ℕ)
  base = given_names top ++ linked_names instances

  good : AreGood W base top.drives
  good = outputs_good W base names base 0 program.outputs (if counted then counter_drives counter else []) (λ x at. at)
      (λ k q at j e.
      let i : k ≡ j = omega (arith, e) in
      let here = subst (λ n. slice_get program.outputs n ≡ Some q) i at in
      let lane = lane_there j q here in
      (Contains-append_right (given_names top) (linked_names instances) (names.value q) (value_linked q lane.0 lane.1), value_wide q lane.0 lane.1 ∙ sym (output_wide j q lane.0 here lane.1)))
      (λ later grows. if_counted W base counter counted ok later (λ e. grows (counter_name counter) (Contains-append_left (given_names top) (linked_names instances) (counter_name counter) (count_known e))) count_wide
      (each_second (IsWide W) (lane_wires names 0 program.lanes) (if counted then counter_wires counter else []) wide.wires))
    where
      value_linked : (q : ℕ) (lane : Lane) → slice_get program.lanes q ≡ Some lane → Contains (linked_names instances) (names.value q)
      value_linked q lane there =
          let all : AllByRecursion (Contains V) (names_of (lane_wires names 0 program.lanes)) = subst (AllByRecursion (Contains V)) (sym (wires_are names 0 program.lanes)) (itself V) in
          subst (λ (ys : List (List ℕ)). Contains ys (names.value q)) (sym linked)
          (at_wires (λ (p : Port). Contains V p.name) names 0 program.lanes (of_names (lane_wires names 0 program.lanes) all) q lane there q (omega arith))
        where
          of_names : (ports : List Port) → AllByRecursion (Contains V) (names_of ports) → AllByRecursion (λ (p : Port). Contains V p.name) ports
          of_names [] h = tt
          of_names (p ∷ ports) h = (h.0, of_names ports h.1)

  keep : AllByRecursion (Keeps W (all_names top)) top.drives
  keep = good_keep W base (all_names top) top.drives
      (λ x at. elim (Contains-append_cases (given_names top) (linked_names instances) x at) [ inl g ↦ Contains-append_left (given_names top) (wire_names top) x g | inr l ↦ Contains-append_right (given_names top) (wire_names top) x (linked_wire x l) ])
      (each_weaker (Contains (wire_names top)) (Contains (all_names top)) (λ x at. Contains-append_right (given_names top) (wire_names top) x at) (targets_of top.drives) drives_among) good
    where
      linked_wire : (x : List ℕ) → Contains (linked_names instances) x → Contains (wire_names top) x
      linked_wire x at = All-contains (Contains (wire_names top)) (linked_names instances) x (All-from_recursion (Contains (wire_names top)) (linked_names instances) links_among) at

  each_drive : (P : Drive → Type 0) → ((d : Drive) → Keeps W (all_names top) d → P d) → All P top.drives
  each_drive P f = All-from_recursion P top.drives (each_weaker (Keeps W (all_names top)) P f top.drives keep)

  -- ---- the steps

  record IsGoodStep (s : Step) : Type 0 where
    read : IsAmong (all_names top) s.next
    suits : operand_width W s.next ≡ W s.register
    fits : IsFitting s.next
    reset : IsWord (W s.register) s.reset

  line_good : (q : ℕ) (lane : Lane) → slice_get program.lanes q ≡ Some lane → (d : ℕ) → d < lane.length → IsGoodStep (line_step names q d)
  line_good q lane there d lt = record {
    read = line_read d lt;
    suits = line_suits d lt ∙ sym (register_wide q d lane there lt);
    fits = tt;
    reset = pow_pos (W (names.register q d));
  }
    where
      line_read : (d : ℕ) → d < lane.length → Contains (all_names top) (line_name names q d)
      line_read zero lt = Contains-append_right (given_names top) (wire_names top) (names.value q) (Contains-append_right (names_of top.outputs) (names_of top.wires) (names.value q) (value_among q lane there))
      line_read (suc d) lt = Contains-append_left (given_names top) (wire_names top) (names.register q d) (Contains-append_right (names_of top.inputs) (names_of top.registers) (names.register q d) (register_among q d lane there (omega (arith, lt))))

      line_suits : (d : ℕ) → d < lane.length → W (line_name names q d) ≡ lane.width.bits
      line_suits zero lt = value_wide q lane there
      line_suits (suc d) lt = register_wide q d lane there (omega (arith, lt))

  -- the wire that the counter takes, which is the last of its wires
  next_wire : (b : Bool) → counted ≡ b → b ≡ true → Contains (names_of top.wires) (next_name counter) × (W (next_name counter) ≡ 12)
  next_wire b e t =
      let on : counted ≡ true = e ∙ t in
      let named : AllByRecursion (λ (p : Port). Contains (names_of top.wires) p.name) (if counted then counter_wires counter else []) = each_second (λ (p : Port). Contains (names_of top.wires) p.name) (lane_wires names 0 program.lanes) (if counted then counter_wires counter else []) (ports_named top.wires) in
      let sized : AllByRecursion (IsWide W) (if counted then counter_wires counter else []) = each_second (IsWide W) (lane_wires names 0 program.lanes) (if counted then counter_wires counter else []) wide.wires in (
        last_wire counter (λ (p : Port). Contains (names_of top.wires) p.name) (subst (λ c. AllByRecursion (λ (p : Port). Contains (names_of top.wires) p.name) (if c then counter_wires counter else [])) on named),
        last_wire counter (IsWide W) (subst (λ c. AllByRecursion (IsWide W) (if c then counter_wires counter else [])) on sized),
      )
    where
      last_wire : (counter : Counter) (P : Port → Type 0) → AllByRecursion P (counter_wires counter) → P (port counter_width (next_name counter))
      last_wire Cycles P h = h.0
      last_wire (Phases period) P h = h.1.1.0

  counter_step_good : (b : Bool) → counted ≡ b → AllByRecursion IsGoodStep (if b then counter_step counter ∷ [] else [])
  counter_step_good true e =
      let next = next_wire true e refl in (
        record {
          read = Contains-append_right (given_names top) (wire_names top) (next_name counter) (Contains-append_right (names_of top.outputs) (names_of top.wires) (next_name counter) next.0);
          suits = next.1 ∙ sym (count_wide e);
          fits = tt;
          reset = pow_pos (W (counter_name counter));
        },
        tt,
      )
  counter_step_good false e = tt

  good_steps : AllByRecursion IsGoodStep top.steps
  good_steps = each_append IsGoodStep (lane_steps names 0 program.lanes) (if counted then counter_step counter ∷ [] else [])
      (each_step IsGoodStep names 0 program.lanes (λ k lane there j at d lt. let e : k ≡ j = omega (arith, at) in line_good j lane (subst (λ n. slice_get program.lanes n ≡ Some lane) e there) d lt)) (counter_step_good counted refl)

  each_step_has : (P : Step → Type 0) → ((s : Step) → IsGoodStep s → P s) → All P top.steps
  each_step_has P f = All-from_recursion P top.steps (each_weaker IsGoodStep P f top.steps good_steps)

  -- ---- all rules

  -- what the inputs of instances keep
  each_input : (P Q : Operand → Type 0) → ((a : Operand) → P a → Q a) → AllByRecursion (λ (i : Instance). AllByRecursion P i.inputs) instances → All (λ (i : Instance). All Q i.inputs) instances
  each_input P Q f h = All-from_recursion (λ (i : Instance). All Q i.inputs) instances
      (each_weaker (λ (i : Instance). AllByRecursion P i.inputs) (λ (i : Instance). All Q i.inputs) (λ i x. All-from_recursion Q i.inputs (each_weaker P Q f i.inputs x)) instances h)

  given_all : (a : Operand) → IsAmong (given_names top) a → IsAmong (all_names top) a
  given_all (Name x) h = Contains-append_left (given_names top) (wire_names top) x h
  given_all (Literal w value) h = tt

  pub top_bits : All (λ d. HasBits d.operation) top.drives
  top_bits = each_drive (λ d. HasBits d.operation) (λ d k. k.bits)

  pub top_sound : IsSoundTop kinds top instances
  top_sound = record {
    declared_once = subst (λ (ys : List (List ℕ)). AreDistinct (clk ∷ rst ∷ ys)) (sym (append_assoc (all_names top) (instance_names instances) (part_names kinds instances))) declared;
    driven_once = driven;
    links_wires = All-from_recursion (Contains (wire_names top)) (linked_names instances) links_among;
    drives_wires = All-from_recursion (Contains (wire_names top)) (targets_of top.drives) drives_among;
    steps_registers = All-from_recursion (Contains (names_of top.registers)) (registers_of top.steps) (all_among (names_of top.registers) (registers_of top.steps) (R ++ C) (R ++ C) registers_names registers (itself (R ++ C)));
    instances_read = each_input (IsAmong (given_names top)) (IsAmong (all_names top)) given_all (instances_known counter program is shapes are few (given_names top) W has_names);
    drives_read = each_drive (λ d. EachOperand (IsAmong (all_names top)) d.operation) (λ d k. k.read);
    steps_read = each_step_has (λ s. IsAmong (all_names top) s.next) (λ s k. k.read);
    wires_driven = All-from_recursion (Contains (linked_names instances ++ targets_of top.drives)) (wire_names top) wires_among;
    registers_stepped = All-from_recursion (Contains (registers_of top.steps)) (names_of top.registers) (all_among (registers_of top.steps) (names_of top.registers) (R ++ C) (R ++ C) registers registers_names (itself (R ++ C)));
    instances_in_order = are_in_order counter program is shapes are few (given_names top) W has_names;
    in_order = good_in_order W base top.drives good;
    placed = All-from_recursion (IsPlaced kinds W) instances (instances_placed counter program is shapes are few (given_names top) W has_names);
    drive_widths = each_drive (λ d. SuitsWidth W (W d.target) d.operation) (λ d k. k.suits);
    step_widths = each_step_has (λ s. operand_width W s.next ≡ W s.register) (λ s k. k.suits);
    instances_fit = each_input IsFitting IsFitting (λ a h. h) (instances_fit counter program is shapes are few (given_names top) W has_names);
    drives_fit = each_drive (λ d. EachOperand IsFitting d.operation) (λ d k. k.fits);
    steps_fit = each_step_has (λ s. IsFitting s.next) (λ s k. k.fits);
    resets_fit = each_step_has (λ s. IsWord (W s.register) s.reset) (λ s k. k.reset);
    orders = each_drive (λ d. ComparesByOrder d.operation) (λ d k. k.order);
  }
