-- The parts of a sound plan are spelled as the grammar wants them.
use Rattle.std.proofs.Common.{◌≡◌, ℕ, ◌+◌, ◌≤◌, Bool, true, false, if◌then◌else◌, List, [], ◌∷◌, ◌++◌, map, length, refl, sym, ◌∙◌, subst, arith}
use Rattle.std.specs.Prelude.{All, Contains}
use Rattle.std.specs.List.{AllByRecursion}
use Rattle.std.specs.Str.{bytes_eq}
use Rattle.std.proofs.lemmas.List.{map-append, length-map}
use Rattle.std.proofs.lemmas.List.Elements.{All-from_recursion, recursion_from_All, All-contains, All-weaker}
use Rattle.av_base.specs.Words.{IsWord}
use Rattle.av_base.proofs.Among.{among_map, from_map, among_flat_map}
use Rattle.av_net.specs.declared.operation.Operand.{Operand}
use Rattle.av_net.specs.declared.operation.Operand.TheVariants as operand
use Rattle.av_net.specs.declared.operation.Operation.{Operation}
use Rattle.av_net.specs.declared.operation.Operation.TheVariants as operation
use Rattle.av_net.specs.declared.netlist.Port.{Port}
use Rattle.av_net.specs.declared.netlist.Module.{Module}
use Rattle.av_net.specs.declared.design.Entry.{Entry}
use Rattle.av_net.specs.declared.design.Design.{Design}
use Rattle.av_net.specs.declared.plan.CellKind.{CellKind}
use Rattle.av_net.specs.declared.plan.Instance.{Instance}
use Rattle.av_net.specs.declared.plan.Plan.{Plan}
use Rattle.av_net.specs.Meaning.{Widths, EachOperand}
use Rattle.av_net.specs.Names.{AreDistinct, names_of, given_names, wire_names, all_names, targets_of, registers_of, IsAmong, declarations, width_in, width_of}
use Rattle.av_net.specs.Sound.{IsSound, SuitsWidth, IsFitting, ComparesByOrder}
use Rattle.av_net.specs.Flat.{kind_module, kind_of}
use Rattle.av_net.specs.Plans.{instance_names, linked_names, SuitPorts, HasSoundModules}
use Rattle.av_net.specs.Lexemes.{IsName}
use Rattle.av_net.specs.Listed.{MayBeListed}
use Rattle.av_net.specs.Designs.{HasBits, HasSpelling, IsSoundDesign, IsSoundPlan}
use Rattle.av_net.proofs.Distinct.{front_distinct, rest_distinct}
use Rattle.av_net.proofs.Declared.{width_here, register_declared, names_declared}
use Rattle.av_net.proofs.Settles.{names_distinct}
use Rattle.av_net.proofs.Made.{made}
use Rattle.av_net.proofs.InParts.{all_by, top_apart}
use Rattle.av_net.proofs.FlatTargets.{placed_at}
use Rattle.av_vread.specs.SpelledParts.{IsOperandSpelled, IsPortSpelled, HasBitsSpelled, IsDriveSpelled, IsStepSpelled, IsModuleSpelled, IsEntrySpelled, HasSpelledParts, IsInstanceSpelled, IsKindSpelled, IsPlanSpelled}
use Rattle.av_vread.proofs.Each.{all_append, all_front, all_back, all_unmap, all_weaker, both_all}

-- a register's width is that of the first register with its name
register_width : (m : Module) → AreDistinct (names_of (declarations m)) → (name : List ℕ) → Contains (names_of m.registers) name → width_in m.registers name ≡ width_of m name
register_width m distinct name h =
    let (port, here, same) = from_map (λ (port : Port). port.name) m.registers name h in
    let own : names_of (declarations m) ≡ names_of m.inputs ++ names_of m.registers ++ names_of m.outputs ++ names_of m.wires = simp map-append in
    let all : AreDistinct (names_of m.inputs ++ names_of m.registers ++ names_of m.outputs ++ names_of m.wires) = subst AreDistinct own distinct in
    let registers = rest_distinct (names_of m.inputs) (names_of m.registers)
    (front_distinct (names_of m.inputs ++ names_of m.registers) (names_of m.outputs) (front_distinct (names_of m.inputs ++ names_of m.registers ++ names_of m.outputs) (names_of m.wires) all)) in
    subst (λ n. width_in m.registers n ≡ width_of m n) same (width_here m.registers port registers here ∙ sym (width_here (declarations m) port distinct (register_declared m port here)))

-- ---- the module

module _ (names : List (List ℕ)) (n : All IsName names) where
  operand_spelled : (x : Operand) → IsAmong names x → IsFitting x → IsOperandSpelled x
  operand_spelled (operand.Name name) h k = All-contains IsName names name n h
  operand_spelled (operand.Literal width value) h k = (width.least, width.most, k)

  operation_spelled : (o : Operation) → EachOperand (IsAmong names) o → EachOperand IsFitting o → EachOperand IsOperandSpelled o
  operation_spelled (operation.Plain x) h k = operand_spelled x h k
  operation_spelled (operation.Binary x s y) h k = (operand_spelled x h.0 k.0, operand_spelled y h.1 k.1)
  operation_spelled (operation.Signed x s y) h k = (operand_spelled x h.0 k.0, operand_spelled y h.1 k.1)
  operation_spelled (operation.Choose c x y) h k = (operand_spelled c h.0 k.0, operand_spelled x h.1 k.1, operand_spelled y h.2 k.2)
  operation_spelled (operation.Part name high low) h k = operand_spelled (operand.Name name) h tt
  operation_spelled (operation.Widen name by) h k = operand_spelled (operand.Name name) h tt

ports_spelled : (ports : List Port) → AllByRecursion IsName (names_of ports) → AllByRecursion IsPortSpelled ports
ports_spelled ports h =
    all_weaker (λ port. IsName port.name) IsPortSpelled (λ port n. record { name = n; least = port.width.least; most = port.width.most }) ports
    (all_unmap IsName (λ port. port.name) ports h)

-- what the rules for a sound module and for a top with instances have in common
pub record IsRuled (m : Module) : Type 0 where
  pub names_once : AreDistinct (names_of (declarations m))
  pub drives_wires : All (Contains (wire_names m)) (targets_of m.drives)
  pub steps_registers : All (Contains (names_of m.registers)) (registers_of m.steps)
  pub drives_read : All (λ drive. EachOperand (IsAmong (all_names m)) drive.operation) m.drives
  pub steps_read : All (λ step. IsAmong (all_names m) step.next) m.steps
  pub drive_widths : All (λ drive. SuitsWidth (width_of m) (width_of m drive.target) drive.operation) m.drives
  pub drives_fit : All (λ drive. EachOperand IsFitting drive.operation) m.drives
  pub steps_fit : All (λ step. IsFitting step.next) m.steps
  pub resets_fit : All (λ step. IsWord (width_of m step.register) step.reset) m.steps
  pub orders : All (λ drive. ComparesByOrder drive.operation) m.drives

-- a width is of 1 to 64 bits
in_range : (ports : List Port) (name : List ℕ) → (1 ≤ width_in ports name) × (width_in ports name ≤ 64)
in_range [] name = (omega arith, omega arith)
in_range (port ∷ ports) name = go (bytes_eq port.name name) (in_range ports name)
  where
    go : (test : Bool) → (1 ≤ width_in ports name) × (width_in ports name ≤ 64)
        → (1 ≤ (if test then port.width.bits else width_in ports name)) × ((if test then port.width.bits else width_in ports name) ≤ 64)
    go true h = (port.width.least, port.width.most)
    go false h = h

bits_spelled : (m : Module) (target : List ℕ) (o : Operation) → SuitsWidth (width_of m) (width_of m target) o → HasBits o → HasBitsSpelled o
bits_spelled m target (operation.Part name high low) h b =
    let wide = in_range (declarations m) name in
    let some = in_range (declarations m) target in
    let least = some.0 in
    let most = wide.1 in
    let below = h.0 in
    let is = h.1 in
    (omega arith, omega arith)
bits_spelled m target (operation.Widen name by) h b =
    let wide = in_range (declarations m) name in
    let some = in_range (declarations m) target in
    let least = wide.0 in
    let most = some.1 in
    let sum : width_of m name + by ≡ width_of m target = h in
    (b, omega arith)
bits_spelled m target (operation.Plain x) h b = tt
bits_spelled m target (operation.Binary x s y) h b = tt
bits_spelled m target (operation.Signed x s y) h b = tt
bits_spelled m target (operation.Choose c x y) h b = tt

module _ (m : Module) (s : IsRuled m) (own : IsName m.name) (n : All IsName (all_names m)) (wide : All (λ drive. HasBits drive.operation) m.drives) where
  all : AllByRecursion IsName (all_names m)
  all = recursion_from_All IsName (all_names m) n

  given : AllByRecursion IsName (given_names m)
  given = all_front IsName (given_names m) (wire_names m) all

  driven : AllByRecursion IsName (wire_names m)
  driven = all_back IsName (given_names m) (wire_names m) all

  registers : AllByRecursion IsName (names_of m.registers)
  registers = all_back IsName (names_of m.inputs) (names_of m.registers) given

  declared : AllByRecursion IsPortSpelled (declarations m)
  declared =
      let inputs = ports_spelled m.inputs (all_front IsName (names_of m.inputs) (names_of m.registers) given) in
      let outputs = ports_spelled m.outputs (all_front IsName (names_of m.outputs) (names_of m.wires) driven) in
      let wires = ports_spelled m.wires (all_back IsName (names_of m.outputs) (names_of m.wires) driven) in
      all_append IsPortSpelled (m.inputs ++ m.registers ++ m.outputs) m.wires
      (all_append IsPortSpelled (m.inputs ++ m.registers) m.outputs (all_append IsPortSpelled m.inputs m.registers inputs (ports_spelled m.registers registers)) outputs) wires

  operands : AllByRecursion (λ d. EachOperand IsOperandSpelled d.operation) m.drives
  operands =
      both_all (λ d. EachOperand (IsAmong (all_names m)) d.operation) (λ d. EachOperand IsFitting d.operation) (λ d. EachOperand IsOperandSpelled d.operation)
      (λ d h k. operation_spelled (all_names m) n d.operation h k) m.drives
      (recursion_from_All (λ d. EachOperand (IsAmong (all_names m)) d.operation) m.drives s.drives_read) (recursion_from_All (λ d. EachOperand IsFitting d.operation) m.drives s.drives_fit)

  targets : AllByRecursion (λ d. IsName d.target) m.drives
  targets =
      all_unmap IsName (λ d. d.target) m.drives
      (all_weaker (Contains (wire_names m)) IsName (λ name h. All-contains IsName (wire_names m) name (All-from_recursion IsName (wire_names m) driven) h) (targets_of m.drives)
      (recursion_from_All (Contains (wire_names m)) (targets_of m.drives) s.drives_wires))

  bits : AllByRecursion (λ d. HasBitsSpelled d.operation) m.drives
  bits =
      both_all (λ d. SuitsWidth (width_of m) (width_of m d.target) d.operation) (λ d. HasBits d.operation) (λ d. HasBitsSpelled d.operation) (λ d h k. bits_spelled m d.target d.operation h k) m.drives
      (recursion_from_All (λ d. SuitsWidth (width_of m) (width_of m d.target) d.operation) m.drives s.drive_widths) (recursion_from_All (λ d. HasBits d.operation) m.drives wide)

  drives : AllByRecursion IsDriveSpelled m.drives
  drives =
      both_all (λ d. IsName d.target × EachOperand IsOperandSpelled d.operation) (λ d. HasBitsSpelled d.operation × ComparesByOrder d.operation) IsDriveSpelled
      (λ d h k. record { target = h.0; operands = h.1; bits = k.0; order = k.1 }) m.drives
      (both_all (λ d. IsName d.target) (λ d. EachOperand IsOperandSpelled d.operation) (λ d. IsName d.target × EachOperand IsOperandSpelled d.operation) (λ d h k. (h, k)) m.drives targets operands)
      (both_all (λ d. HasBitsSpelled d.operation) (λ d. ComparesByOrder d.operation) (λ d. HasBitsSpelled d.operation × ComparesByOrder d.operation) (λ d h k. (h, k)) m.drives bits
      (recursion_from_All (λ d. ComparesByOrder d.operation) m.drives s.orders))

  nexts : AllByRecursion (λ t. IsOperandSpelled t.next) m.steps
  nexts =
      both_all (λ t. IsAmong (all_names m) t.next) (λ t. IsFitting t.next) (λ t. IsOperandSpelled t.next) (λ t h k. operand_spelled (all_names m) n t.next h k) m.steps
      (recursion_from_All (λ t. IsAmong (all_names m) t.next) m.steps s.steps_read) (recursion_from_All (λ t. IsFitting t.next) m.steps s.steps_fit)

  steps : AllByRecursion (IsStepSpelled m.registers) m.steps
  steps =
      both_all (λ t. Contains (names_of m.registers) t.register) (λ t. IsWord (width_of m t.register) t.reset × IsOperandSpelled t.next) (IsStepSpelled m.registers)
      (λ t r h. record {
        register = All-contains IsName (names_of m.registers) t.register (All-from_recursion IsName (names_of m.registers) registers) r;
        reset = subst (λ w. IsWord w t.reset) (sym (register_width m s.names_once t.register r)) h.0;
        next = h.1;
      }) m.steps
      (all_unmap (Contains (names_of m.registers)) (λ t. t.register) m.steps (recursion_from_All (Contains (names_of m.registers)) (registers_of m.steps) s.steps_registers))
      (both_all (λ t. IsWord (width_of m t.register) t.reset) (λ t. IsOperandSpelled t.next) (λ t. IsWord (width_of m t.register) t.reset × IsOperandSpelled t.next) (λ t h k. (h, k)) m.steps
      (recursion_from_All (λ t. IsWord (width_of m t.register) t.reset) m.steps s.resets_fit) nexts)

  pub module_spelled : IsModuleSpelled m
  module_spelled = record {
    name = own;
    ports = All-from_recursion IsPortSpelled (declarations m) declared;
    drives = All-from_recursion IsDriveSpelled m.drives drives;
    steps = All-from_recursion (IsStepSpelled m.registers) m.steps steps;
  }

-- ---- the listing

-- an entry at one of these names
entry_spelled : (names : List (List ℕ)) → All IsName names → (e : Entry) → MayBeListed names e → IsEntrySpelled e
entry_spelled names n e h = record { variable = h.variable; indices = h.indices; index = h.index; wire = All-contains IsName names e.wire n h.wire; cycle = h.cycle }

-- ---- plans

sound_ruled : (m : Module) → IsSound m → IsRuled m
sound_ruled m s = record {
  names_once = subst AreDistinct (sym (names_declared m)) (names_distinct m s);
  drives_wires = s.drives_wires;
  steps_registers = s.steps_registers;
  drives_read = s.drives_read;
  steps_read = s.steps_read;
  drive_widths = s.drive_widths;
  drives_fit = s.drives_fit;
  steps_fit = s.steps_fit;
  resets_fit = s.resets_fit;
  orders = s.orders;
}

top_ruled : (plan : Plan) → HasSoundModules plan → IsRuled plan.top
top_ruled plan modules = let top = modules.top in record {
  names_once = top_apart plan (made plan modules).top;
  drives_wires = top.drives_wires;
  steps_registers = top.steps_registers;
  drives_read = top.drives_read;
  steps_read = top.steps_read;
  drive_widths = top.drive_widths;
  drives_fit = top.drives_fit;
  steps_fit = top.steps_fit;
  resets_fit = top.resets_fit;
  orders = top.orders;
}

suited_count : (widths : Widths) (operands : List Operand) (ports : List Port) → SuitPorts widths operands ports → length operands ≡ length ports
suited_count widths [] [] h = refl
suited_count widths [] (port ∷ ports) h = absurd h
suited_count widths (x ∷ operands) [] h = absurd h
suited_count widths (x ∷ operands) (port ∷ ports) h = (let more = suited_count widths operands ports h.1 in omega arith)

plan_instance : (plan : Plan) → IsSoundPlan plan → (i : Instance) → Contains plan.instances i → IsInstanceSpelled plan.kinds i
plan_instance plan sound i at =
    let names = sound.top_spelled.names in
    let placed = placed_at plan (made plan sound.modules) i at in
    let reads = All-contains (λ (i : Instance). All (IsAmong (all_names plan.top)) i.inputs) plan.instances i sound.modules.top.instances_read at in
    let fits = All-contains (λ (i : Instance). All IsFitting i.inputs) plan.instances i sound.modules.top.instances_fit at in
    let wires : All IsName (wire_names plan.top) = All-from_recursion IsName (wire_names plan.top) (all_back IsName (given_names plan.top) (wire_names plan.top) (recursion_from_All IsName (all_names plan.top) names)) in
    record {
      name = All-contains IsName (instance_names plan.instances) i.name sound.instance_names (among_map (λ (i : Instance). i.name) plan.instances i at);
      kind = placed.kind;
      inputs = All-from_recursion IsOperandSpelled i.inputs (both_all (IsAmong (all_names plan.top)) IsFitting IsOperandSpelled (λ x h k. operand_spelled (all_names plan.top) names x h k) i.inputs
          (recursion_from_All (IsAmong (all_names plan.top)) i.inputs reads) (recursion_from_All IsFitting i.inputs fits));
      outputs = all_by IsName i.outputs (λ name here. All-contains IsName (wire_names plan.top) name wires
          (All-contains (Contains (wire_names plan.top)) (linked_names plan.instances) name sound.modules.top.links_wires (among_flat_map (λ (i : Instance). i.outputs) plan.instances i name at here)));
      each_input = suited_count (width_of plan.top) i.inputs (kind_of plan.kinds i).inputs placed.inputs;
      each_output = sym (length-map i.outputs operand.Name) ∙ suited_count (width_of plan.top) (map operand.Name i.outputs) (kind_of plan.kinds i).outputs placed.outputs;
    }

pub plan_spelled : (plan : Plan) → IsSoundPlan plan → IsPlanSpelled plan
plan_spelled plan sound =
    let m = plan.top in
    let names = recursion_from_All IsName (all_names m) sound.top_spelled.names in
    let inputs : All IsName (names_of m.inputs) = All-from_recursion IsName (names_of m.inputs) (all_front IsName (names_of m.inputs) (names_of m.registers) (all_front IsName (given_names m) (wire_names m) names)) in
    let wires : All IsName (wire_names m) = All-from_recursion IsName (wire_names m) (all_back IsName (given_names m) (wire_names m) names) in
    record {
      kinds = all_by IsKindSpelled plan.kinds (λ kind at.
          let spelled = All-contains (λ (kind : CellKind). HasSpelling (kind_module kind)) plan.kinds kind sound.kinds_spelled at in
          record {
            of_module = module_spelled (kind_module kind) (sound_ruled (kind_module kind) (All-contains (λ (kind : CellKind). IsSound (kind_module kind)) plan.kinds kind sound.modules.kinds at)) spelled.module_name spelled.names spelled.widenings;
            puts = All-contains (λ (kind : CellKind). 1 ≤ length kind.outputs) plan.kinds kind sound.kinds_put at;
          });
      top = module_spelled m (top_ruled plan sound.modules) sound.top_spelled.module_name sound.top_spelled.names sound.top_spelled.widenings;
      instances = all_by (IsInstanceSpelled plan.kinds) plan.instances (plan_instance plan sound);
      ins = All-weaker (MayBeListed (names_of m.inputs)) IsEntrySpelled (entry_spelled (names_of m.inputs) inputs) plan.listing.ins sound.ins;
      ats = All-weaker (MayBeListed (wire_names m)) IsEntrySpelled (entry_spelled (wire_names m) wires) plan.listing.ats sound.ats;
    }

pub parts_spelled : (d : Design) → IsSoundDesign d → HasSpelledParts d
parts_spelled d sound =
    let m = d.«module» in
    let names = recursion_from_All IsName (all_names m) sound.names in
    let inputs : All IsName (names_of m.inputs) = All-from_recursion IsName (names_of m.inputs) (all_front IsName (names_of m.inputs) (names_of m.registers) (all_front IsName (given_names m) (wire_names m) names)) in
    let wires : All IsName (wire_names m) = All-from_recursion IsName (wire_names m) (all_back IsName (given_names m) (wire_names m) names) in
    record {
      of_module = module_spelled m (sound_ruled m sound.sound) sound.module_name sound.names sound.widenings;
      ins = All-weaker (MayBeListed (names_of m.inputs)) IsEntrySpelled (entry_spelled (names_of m.inputs) inputs) d.listing.ins sound.ins;
      ats = All-weaker (MayBeListed (wire_names m)) IsEntrySpelled (entry_spelled (wire_names m) wires) d.listing.ats sound.ats;
    }
