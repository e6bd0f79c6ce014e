-- What holds of each drive, wire, register and step of the flat module of a program, from what holds of those of one instance, of the lanes, of the
-- outputs and of the counter.
use Rattle.std.proofs.Common.{◌≡◌, ℕ, zero, suc, ◌+◌, ◌<◌, ◌≤◌, List, [], ◌∷◌, ◌++◌, map, length, refl, sym, subst, ap, arith, Bool, true, false, if◌then◌else◌, Some}
use Rattle.std.specs.Prelude.{Contains, slice_get}
use Rattle.std.specs.List.{AllByRecursion, range_with_len, list_any, flat_map}
use Rattle.std.proofs.lemmas.List.Elements.{All-contains_itself, recursion_from_All}
use Rattle.av_base.specs.declared.width.Width.{Width}
use Rattle.av_base.proofs.Lists.{there_is, each_append, each_weaker}
use Rattle.av_net.specs.declared.operation.Operand.{Operand}
use Rattle.av_net.specs.declared.operation.Operand.TheVariants.{Name, Literal}
use Rattle.av_net.specs.declared.operation.Operation.TheVariants.{Plain}
use Rattle.av_net.specs.declared.netlist.Port.{Port}
use Rattle.av_net.specs.declared.netlist.Drive.{Drive}
use Rattle.av_net.specs.declared.netlist.Step.{Step}
use Rattle.av_net.specs.declared.netlist.Module.{Module}
use Rattle.av_net.specs.declared.plan.CellKind.{CellKind}
use Rattle.av_net.specs.declared.plan.Instance.{Instance}
use Rattle.av_net.specs.Flat as flat
use Rattle.av_net.specs.Flat.{part_name, part_port, part_drive, input_drives, part_drives, kind_ports, kind_of, instance_wires, instance_drives}
use Rattle.av_kinds.specs.declared.counter.Counter.{Counter}
use Rattle.av_kinds.specs.declared.program.CellLanes.{CellLanes}
use Rattle.av_kinds.specs.declared.program.WordSource.{WordSource}
use Rattle.av_kinds.specs.Programs.{Lane, Program, lanes_of, IsProgram}
use Rattle.av_kinds.specs.Names.{Labels, output_name, instance_name, kind_counter, labels}
use Rattle.av_kinds.specs.Counters.{counter_width, counter_name}
use Rattle.av_kinds.specs.Tops.{port, output_drives, lane_wires, lane_registers, line_step, lane_steps}
use Rattle.av_kinds.specs.inner.Counts.{counter_wires, counter_drives, counter_step}
use Rattle.av_kinds.specs.inner.Shapes.{LaneShape}
use Rattle.av_kinds.specs.inner.Kinds.{counts, no_ports, lanes_inputs, lanes_outputs, lanes_drives, kind_inputs, kind_by}
use Rattle.av_kinds.specs.inner.Instances.{operand_of, lanes_operands, outputs_from, cell_operands, instance_by}
use Rattle.av_kinds.specs.inner.Modules.{AreShapesOf, top_by, kinds_by, instances_by}
use Rattle.av_kinds.proofs.KindNames.{IsFewKind}
use Rattle.av_kinds.proofs.NameParts.{each_of_range}
use Rattle.av_kinds.proofs.Sources.{IsGiven, operands_each}
use Rattle.av_kinds.proofs.TopInstances.{suit_many, lanes_many, IsPlacedCell, cells_placed, kind_is, each_instance}

-- ---- lists

pub flat_each : {X Y : Type 0} (P : Y → Type 0) (f : X → List Y) (xs : List X) → AllByRecursion (λ x. AllByRecursion P (f x)) xs → AllByRecursion P (flat_map f xs)
flat_each P f [] h = tt
flat_each P f (x ∷ xs) h = each_append P (f x) (flat_map f xs) h.0 (flat_each P f xs h.1)

mapped_each : {X Y : Type 0} (P : Y → Type 0) (f : X → Y) (xs : List X) → AllByRecursion (λ x. P (f x)) xs → AllByRecursion P (map f xs)
mapped_each P f [] h = tt
mapped_each P f (x ∷ xs) h = (h.0, mapped_each P f xs h.1)

any_each : {X : Type 0} (P : X → Type 0) → ((x : X) → P x) → (xs : List X) → AllByRecursion P xs
any_each P f [] = tt
any_each P f (x ∷ xs) = (f x, any_each P f xs)

pub if_each : {X : Type 0} (P : X → Type 0) (b : Bool) (xs : List X) → (b ≡ true → AllByRecursion P xs) → AllByRecursion P (if b then xs else [])
if_each P true xs h = h refl
if_each P false xs h = tt

-- ---- drives of one instance

fed : (P : Drive → Type 0) (u : List ℕ) (ports : List Port) (operands : List Operand) → AllByRecursion (λ (a : Operand). (x : List ℕ) → P (record { target = part_name u x; operation = Plain a })) operands
    → AllByRecursion P (input_drives u ports operands)
fed P u [] operands h = tt
fed P u (p ∷ ports) [] h = tt
fed P u (p ∷ ports) (a ∷ operands) h = (h.0 p.name, fed P u ports operands h.1)

put : (P : Drive → Type 0) (u : List ℕ) (ports : List Port) (names : List (List ℕ)) → AllByRecursion (λ (y : List ℕ). (x : List ℕ) → P (record { target = y; operation = Plain (Name (part_name u x)) })) names
    → AllByRecursion P (flat.output_drives u ports names)
put P u [] names h = tt
put P u (p ∷ ports) [] h = tt
put P u (p ∷ ports) (y ∷ names) h = (h.0 p.name, put P u ports names h.1)

-- the outputs of an instance, with the numbers from q on
pub outputs_each : (R : List ℕ → Type 0) (N : Labels) (q n : ℕ) → ((j : ℕ) → q ≤ j → j < q + n → R (N.value j)) → AllByRecursion R (outputs_from N q n)
outputs_each R N q zero h = tt
outputs_each R N q (suc n) h = (h q (omega arith) (omega arith), outputs_each R N (q + 1) n (λ j low high. h j (omega (arith, low)) (omega (arith, high))))

-- ---- lanes

pub lanes_wires_each : (P : Port → Type 0) (N : Labels) (q : ℕ) (lanes : List Lane) → ((i : ℕ) (lane : Lane) → slice_get lanes i ≡ Some lane → (j : ℕ) → q + i ≡ j → P (port lane.width (N.value j))) → AllByRecursion P (lane_wires N q lanes)
lanes_wires_each P N q [] h = tt
lanes_wires_each P N q (lane ∷ lanes) h = (h 0 lane refl q (omega arith), lanes_wires_each P N (q + 1) lanes (λ i l is j at. h (suc i) l is j (omega (arith, at))))

lanes_registers_each : (P : Port → Type 0) (N : Labels) (q : ℕ) (lanes : List Lane) → ((i : ℕ) (lane : Lane) → slice_get lanes i ≡ Some lane → (j : ℕ) → q + i ≡ j → (d : ℕ) → P (port lane.width (N.register j d))) → AllByRecursion P (lane_registers N q lanes)
lanes_registers_each P N q [] h = tt
lanes_registers_each P N q (lane ∷ lanes) h =
    each_append P (map (λ d. port lane.width (N.register q d)) (range_with_len 0 lane.length)) (lane_registers N (q + 1) lanes)
    (each_of_range P (λ d. port lane.width (N.register q d)) 0 lane.length (λ d low high. h 0 lane refl q (omega arith) d))
    (lanes_registers_each P N (q + 1) lanes (λ i l is j at. h (suc i) l is j (omega (arith, at))))

lanes_steps_each : (P : Step → Type 0) (N : Labels) (q : ℕ) (lanes : List Lane) → ((i : ℕ) (lane : Lane) → slice_get lanes i ≡ Some lane → (j : ℕ) → q + i ≡ j → (d : ℕ) → P (line_step N j d)) → AllByRecursion P (lane_steps N q lanes)
lanes_steps_each P N q [] h = tt
lanes_steps_each P N q (lane ∷ lanes) h =
    each_append P (map (line_step N q) (range_with_len 0 lane.length)) (lane_steps N (q + 1) lanes)
    (each_of_range P (line_step N q) 0 lane.length (λ d low high. h 0 lane refl q (omega arith) d))
    (lanes_steps_each P N (q + 1) lanes (λ i l is j at. h (suc i) l is j (omega (arith, at))))

tops_each : (P : Drive → Type 0) (N : Labels) (a : ℕ) (outputs : List ℕ) → ((i q : ℕ) → slice_get outputs i ≡ Some q → (j : ℕ) → a + i ≡ j → P (record { target = output_name j; operation = Plain (Name (N.value q)) })) → AllByRecursion P (output_drives N a outputs)
tops_each P N a [] h = tt
tops_each P N a (q ∷ outputs) h = (h 0 q refl a (omega arith), tops_each P N (a + 1) outputs (λ i r is j at. h (suc i) r is j (omega (arith, at))))

-- ---- the flat module

module _ (counter : Counter) (program : Program) (is : IsProgram program) (shapes : List (List LaneShape)) (are : AreShapesOf program shapes) (few : AllByRecursion IsFewKind shapes) where
  abbrev pub N : Labels
  N = labels program

  abbrev pub own_name : List ℕ
  own_name = counter_name counter

  abbrev pub kinds : List CellKind
  kinds = kinds_by 0 shapes

  abbrev pub instances : List Instance
  instances = instances_by counter program shapes 0 program.cells program.kinds

  abbrev pub counted : Bool
  counted = list_any counts shapes

  abbrev pub top : Module
  top = top_by counter counted program

  abbrev pub wires : List Port
  wires = top.wires ++ flat_map (instance_wires kinds) instances

  abbrev pub drives : List Drive
  drives = flat_map (instance_drives kinds) instances ++ top.drives

  abbrev pub IsPlaced : ℕ → CellLanes → ℕ → Type 0
  IsPlaced p own k = IsPlacedCell counter program is shapes are few p own k

  -- the instance of a cell, and its drives
  abbrev pub own_instance : (p : ℕ) (own : CellLanes) (k : ℕ) → IsPlaced p own k → Instance
  own_instance p own k h = instance_by N own_name p k own.first h.shape (lanes_of program own)

  abbrev pub own_drives : (p : ℕ) (own : CellLanes) (k : ℕ) → IsPlaced p own k → List Drive
  own_drives p own k h = part_drives (kind_by k h.shape) (own_instance p own k h)

  -- the lanes of a cell
  pub lane_of : (p : ℕ) (own : CellLanes) (k : ℕ) → IsPlaced p own k → (q : ℕ) → own.first ≤ q → q ≤ own.value → (lane : Lane) × (slice_get program.lanes q ≡ Some lane) × (lane.home ≡ p)
  lane_of p own k h q low high =
      let at = there_is program.lanes q (omega (arith, high, h.within.high)) in
      (at.0, at.1, (is.lanes p q own at.0 h.is_cell low high at.1).home)

  -- what holds of the drives that a cell's instance brings
  pub record HasCases (P : Drive → Type 0) (p : ℕ) (own : CellLanes) (k : ℕ) (h : IsPlaced p own k) : Type 0 where
    pub count : counts h.shape ≡ true → P (record { target = part_name (instance_name p) kind_counter; operation = Plain (Name own_name) })
    pub literal : (x : List ℕ) (w : Width) (n : ℕ) → P (record { target = part_name (instance_name p) x; operation = Plain (Literal w n) })
    pub source : (x : List ℕ) (w : Width) (s : WordSource) → IsGiven program is p own h.is_cell h.within.low s → P (record { target = part_name (instance_name p) x; operation = Plain (operand_of N w s) })
    pub inner : (d : Drive) → Contains (lanes_drives (Name kind_counter) no_ports 0 0 h.shape) d → P (part_drive (instance_name p) d)
    pub output : (x : List ℕ) (q : ℕ) (lane : Lane) → slice_get program.lanes q ≡ Some lane → lane.home ≡ p → P (record { target = N.value q; operation = Plain (Name (part_name (instance_name p) x)) })

  pub own_each : (P : Drive → Type 0) (p : ℕ) (own : CellLanes) (k : ℕ) (h : IsPlaced p own k) → HasCases P p own k h → AllByRecursion P (own_drives p own k h)
  own_each P p own k h case =
      each_append P (input_drives u (kind_inputs h.shape) (cell_operands N own_name h.shape (lanes_of program own)) ++ map (part_drive u) inner) (flat.output_drives u (lanes_outputs 0 h.shape) (outputs_from N own.first (length h.shape)))
      (each_append P (input_drives u (kind_inputs h.shape) (cell_operands N own_name h.shape (lanes_of program own))) (map (part_drive u) inner) (by_count (counts h.shape) case.count) inside) outside
    where
      u : List ℕ
      u = instance_name p

      inner : List Drive
      inner = lanes_drives (Name kind_counter) no_ports 0 0 h.shape

      rest : AllByRecursion P (input_drives u (lanes_inputs no_ports h.shape) (lanes_operands N h.shape (lanes_of program own)))
      rest = fed P u (lanes_inputs no_ports h.shape) (lanes_operands N h.shape (lanes_of program own))
          (operands_each program is p own h.is_cell h.within.low (λ (a : Operand). (x : List ℕ) → P (record { target = part_name u x; operation = Plain a })) (λ w n x. case.literal x w n) (λ w s given x. case.source x w s given) h.shape h.suits)

      by_count : (b : Bool) → (b ≡ true → P (record { target = part_name u kind_counter; operation = Plain (Name own_name) }))
          → AllByRecursion P (input_drives u ((if b then port counter_width kind_counter ∷ [] else []) ++ lanes_inputs no_ports h.shape) ((if b then Name own_name ∷ [] else []) ++ lanes_operands N h.shape (lanes_of program own)))
      by_count true f = (f refl, rest)
      by_count false f = rest

      inside : AllByRecursion P (map (part_drive u) inner)
      inside = mapped_each P (part_drive u) inner (each_weaker (Contains inner) (λ (d : Drive). P (part_drive u d)) case.inner inner (recursion_from_All (Contains inner) inner (All-contains_itself inner)))

      outside : AllByRecursion P (flat.output_drives u (lanes_outputs 0 h.shape) (outputs_from N own.first (length h.shape)))
      outside =
          let many = suit_many h.shape (lanes_of program own) h.suits in
          let count = lanes_many program own h.within in
          put P u (lanes_outputs 0 h.shape) (outputs_from N own.first (length h.shape))
          (outputs_each (λ (y : List ℕ). (x : List ℕ) → P (record { target = y; operation = Plain (Name (part_name u x)) })) N own.first (length h.shape)
          (λ q low high x. let lane = lane_of p own k h q low (omega (arith, many, count, high, h.within.low)) in case.output x q lane.0 lane.1 lane.2))

  pub same_drives : (p : ℕ) (own : CellLanes) (k : ℕ) (h : IsPlaced p own k) → instance_drives kinds (own_instance p own k h) ≡ own_drives p own k h
  same_drives p own k h = ap (λ (x : CellKind). part_drives x (own_instance p own k h)) (kind_is counter program is shapes are few k h.shape h.is_shape)

  pub top_each : (P : Drive → Type 0) → ((j q : ℕ) → slice_get program.outputs j ≡ Some q → P (record { target = output_name j; operation = Plain (Name (N.value q)) })) → (counted ≡ true → AllByRecursion P (counter_drives counter))
      → AllByRecursion P top.drives
  top_each P output count =
      each_append P (output_drives N 0 program.outputs) (if counted then counter_drives counter else [])
      (tops_each P N 0 program.outputs (λ i q there j at. let e : i ≡ j = omega (arith, at) in subst (λ n. P (record { target = output_name n; operation = Plain (Name (N.value q)) })) e (output i q there)))
      (if_each P counted (counter_drives counter) count)

  -- What holds of all drives of the flat module.
  pub drives_each : (P : Drive → Type 0) → ((p : ℕ) (own : CellLanes) (k : ℕ) (h : IsPlaced p own k) → HasCases P p own k h)
      → ((j q : ℕ) → slice_get program.outputs j ≡ Some q → P (record { target = output_name j; operation = Plain (Name (N.value q)) })) → (counted ≡ true → AllByRecursion P (counter_drives counter)) → AllByRecursion P drives
  drives_each P cell output count =
      each_append P (flat_map (instance_drives kinds) instances) top.drives
      (flat_each P (instance_drives kinds) instances
      (each_instance counter program is shapes are few (λ (i : Instance). AllByRecursion P (instance_drives kinds i))
      (λ p own k h. subst (AllByRecursion P) (sym (same_drives p own k h)) (own_each P p own k h (cell p own k h))) 0 program.cells program.kinds (cells_placed counter program is shapes are few)))
      (top_each P output count)

  pub wires_each : (P : Port → Type 0) → ((q : ℕ) (lane : Lane) → slice_get program.lanes q ≡ Some lane → P (port lane.width (N.value q))) → ((p : ℕ) (own : CellLanes) → slice_get program.cells p ≡ Some own → (x : Port) → P (part_port (instance_name p) x))
      → (counted ≡ true → AllByRecursion P (counter_wires counter)) → AllByRecursion P wires
  wires_each P value part count =
      each_append P top.wires (flat_map (instance_wires kinds) instances)
      (each_append P (lane_wires N 0 program.lanes) (if counted then counter_wires counter else [])
      (lanes_wires_each P N 0 program.lanes (λ i lane there j at. let e : i ≡ j = omega (arith, at) in subst (λ n. P (port lane.width (N.value n))) e (value i lane there)))
      (if_each P counted (counter_wires counter) count))
      (flat_each P (instance_wires kinds) instances
      (each_instance counter program is shapes are few (λ (i : Instance). AllByRecursion P (instance_wires kinds i))
      (λ p own k h.
      let ports = kind_ports (kind_of kinds (own_instance p own k h)) in
      mapped_each P (part_port (instance_name p)) ports (any_each (λ (x : Port). P (part_port (instance_name p) x)) (part p own h.is_cell) ports)) 0 program.cells program.kinds (cells_placed counter program is shapes are few)))

  pub registers_each : (P : Port → Type 0) → ((q : ℕ) (lane : Lane) → slice_get program.lanes q ≡ Some lane → (d : ℕ) → P (port lane.width (N.register q d))) → (counted ≡ true → P (port counter_width own_name)) → AllByRecursion P top.registers
  registers_each P register count =
      each_append P (lane_registers N 0 program.lanes) (if counted then port counter_width own_name ∷ [] else [])
      (lanes_registers_each P N 0 program.lanes (λ i lane there j at d. let e : i ≡ j = omega (arith, at) in subst (λ n. P (port lane.width (N.register n d))) e (register i lane there d)))
      (if_each P counted (port counter_width own_name ∷ []) (λ e. (count e, tt)))

  pub steps_each : (P : Step → Type 0) → ((q : ℕ) (lane : Lane) → slice_get program.lanes q ≡ Some lane → (d : ℕ) → P (line_step N q d)) → (counted ≡ true → P (counter_step counter)) → AllByRecursion P top.steps
  steps_each P step count =
      each_append P (lane_steps N 0 program.lanes) (if counted then counter_step counter ∷ [] else [])
      (lanes_steps_each P N 0 program.lanes (λ i lane there j at d. let e : i ≡ j = omega (arith, at) in subst (λ n. P (line_step N n d)) e (step i lane there d)))
      (if_each P counted (counter_step counter ∷ []) (λ e. (count e, tt)))
