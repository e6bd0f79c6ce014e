-- The plan of sums is sound.
use Rattle.std.proofs.Common.{◌≡◌, ℕ, ◌≤◌, true, List, [], ◌∷◌, ◌++◌, length, refl, arith}
use Rattle.std.specs.Prelude.{All, Contains, codes, negsuc, nat_abs}
use Rattle.std.specs.List.{list_all}
use Rattle.std.proofs.lemmas.Bool.{leb-true, ltb-true}
use Rattle.av_base.specs.Tokens.{reserved_words}
use Rattle.av_base.specs.Words.{IsWord}
use Rattle.av_base.proofs.Tables.{none_there}
use Rattle.av_net.specs.declared.operation.Symbol.TheVariants.{Add}
use Rattle.av_net.specs.declared.operation.Operand.TheVariants.{Name, Literal}
use Rattle.av_net.specs.declared.operation.Operation.{Operation}
use Rattle.av_net.specs.declared.operation.Operation.TheVariants.{Binary, Widen}
use Rattle.av_net.specs.declared.netlist.Port.{Port}
use Rattle.av_net.specs.declared.netlist.Module.{Module}
use Rattle.av_net.specs.Meaning.{operand_width, EachOperand}
use Rattle.av_net.specs.Names.{clk, rst, names_of, given_names, wire_names, all_names, targets_of, registers_of, declarations, IsAmong, width_of}
use Rattle.av_net.specs.Sound.{SuitsWidth, IsFitting, ComparesByOrder, IsSound}
use Rattle.av_net.specs.Flat.{kind_module}
use Rattle.av_net.specs.Plans.{instance_names, linked_names, part_names, IsPlaced, AreInOrder, IsSoundTop, module_names}
use Rattle.av_net.specs.Listed.{MayBeListed}
use Rattle.av_net.specs.Designs.{HasWidth, HasBits, HasSpelling, IsSoundPlan}
use Rattle.av_net.proofs.Tested.{are_distinct, contains_tested, distinct_tested}
use Rattle.av_verilog_tests.specs.inner.Plans.{four_bits, eight_bits, port_of, drive_of, cell_of, adder, widener, upper_half, kept_sum, sums_top, first_sum, second_sum, wide_sum, sums_instances, input_entry, output_entry, sums_plan}
use Rattle.av_verilog_tests.proofs.Written.{all_one, all_two, all_three, are_among, are_known, named, are_named, are_wide, is_name}

-- ---- kinds with one output and no wire

module _ (name : List ℕ) (inputs : List Port) (output : Port) (operation : Operation) where
  abbrev cell : Module
  cell = kind_module (cell_of name inputs output operation)

  cell_sound : are_distinct (clk ∷ rst ∷ all_names cell) ≡ true → EachOperand (IsAmong (all_names cell)) operation → EachOperand (IsAmong (given_names cell)) operation
      → SuitsWidth (width_of cell) (width_of cell output.name) operation → EachOperand IsFitting operation → ComparesByOrder operation → IsSound cell
  cell_sound distinct reads in_order suits fits orders = record {
    declared_once = distinct_tested (clk ∷ rst ∷ all_names cell) distinct;
    driven_once = distinct_tested (output.name ∷ []) refl;
    drives_wires = all_one (Contains (output.name ∷ [])) output.name (0, omega arith, refl);
    steps_registers = λ i d lt. absurd (omega arith);
    drives_read = all_one (λ drive. EachOperand (IsAmong (all_names cell)) drive.operation) (drive_of output.name operation) reads;
    steps_read = λ i d lt. absurd (omega arith);
    wires_driven = all_one (Contains (output.name ∷ [])) output.name (0, omega arith, refl);
    registers_stepped = λ i d lt. absurd (omega arith);
    in_order = (in_order, tt);
    drive_widths = all_one (λ drive. SuitsWidth (width_of cell) (width_of cell drive.target) drive.operation) (drive_of output.name operation) suits;
    step_widths = λ i d lt. absurd (omega arith);
    drives_fit = all_one (λ drive. EachOperand IsFitting drive.operation) (drive_of output.name operation) fits;
    steps_fit = λ i d lt. absurd (omega arith);
    resets_fit = λ i d lt. absurd (omega arith);
    orders = all_one (λ drive. ComparesByOrder drive.operation) (drive_of output.name operation) orders;
  }

  cell_spelled : is_name name ≡ true → list_all is_name (all_names cell) ≡ true → EachOperand HasWidth operation → HasBits operation → HasSpelling cell
  cell_spelled called names literals bits = record {
    module_name = named name called;
    names = are_named (all_names cell) names;
    widths = are_wide (declarations cell);
    drive_literals = all_one (λ drive. EachOperand HasWidth drive.operation) (drive_of output.name operation) literals;
    step_literals = λ i d lt. absurd (omega arith);
    widenings = all_one (λ drive. HasBits drive.operation) (drive_of output.name operation) bits;
  }

adder_sound : IsSound (kind_module adder)
adder_sound =
    let among = contains_tested (all_names (kind_module adder)) in
    let given = contains_tested (given_names (kind_module adder)) in
    cell_sound (codes "add") adder.inputs (port_of (codes "v") four_bits) (Binary (Name (codes "a")) Add (Name (codes "b")))
    refl (among (codes "a") refl, among (codes "b") refl) (given (codes "a") refl, given (codes "b") refl) (refl, refl) (tt, tt) tt

widener_sound : IsSound (kind_module widener)
widener_sound =
    cell_sound (codes "widen") widener.inputs (port_of (codes "v") eight_bits) (Widen (codes "a") 4)
    refl (contains_tested (all_names (kind_module widener)) (codes "a") refl) (contains_tested (given_names (kind_module widener)) (codes "a") refl) refl tt tt

adder_spelled : HasSpelling (kind_module adder)
adder_spelled = cell_spelled (codes "add") adder.inputs (port_of (codes "v") four_bits) (Binary (Name (codes "a")) Add (Name (codes "b"))) refl refl (tt, tt) tt

widener_spelled : HasSpelling (kind_module widener)
widener_spelled = cell_spelled (codes "widen") widener.inputs (port_of (codes "v") eight_bits) (Widen (codes "a") 4) refl refl tt (leb-true 1 4 refl)

-- ---- the top

names_once : are_distinct (clk ∷ rst ∷ all_names sums_top ++ instance_names sums_instances ++ part_names sums_plan.kinds sums_instances) ≡ true
names_once = refl

each_placed : All (IsPlaced sums_plan.kinds (width_of sums_top)) sums_instances
each_placed = all_three (IsPlaced sums_plan.kinds (width_of sums_top)) first_sum second_sum wide_sum
    (record { kind = ltb-true 0 2 refl; inputs = (refl, (refl, tt)); outputs = (refl, tt) })
    (record { kind = ltb-true 0 2 refl; inputs = (refl, (refl, tt)); outputs = (refl, tt) })
    (record { kind = ltb-true 1 2 refl; inputs = (refl, tt); outputs = (refl, tt) })

each_in_order : AreInOrder (given_names sums_top) sums_instances
each_in_order = (
  are_known (given_names sums_top) first_sum.inputs refl,
  (
    are_known (given_names sums_top ++ first_sum.outputs) second_sum.inputs refl,
    (are_known ((given_names sums_top ++ first_sum.outputs) ++ second_sum.outputs) wide_sum.inputs refl, tt),
  ),
)

top_sound : IsSoundTop sums_plan.kinds sums_top sums_instances
top_sound = record {
  declared_once = distinct_tested (clk ∷ rst ∷ all_names sums_top ++ instance_names sums_instances ++ part_names sums_plan.kinds sums_instances) names_once;
  driven_once = distinct_tested (linked_names sums_instances ++ targets_of sums_top.drives ++ registers_of sums_top.steps) refl;
  links_wires = are_among (wire_names sums_top) (linked_names sums_instances) refl;
  drives_wires = are_among (wire_names sums_top) (targets_of sums_top.drives) refl;
  steps_registers = are_among (names_of sums_top.registers) (registers_of sums_top.steps) refl;
  instances_read = all_three (λ instance. All (IsAmong (all_names sums_top)) instance.inputs) first_sum second_sum wide_sum
      (are_known (all_names sums_top) first_sum.inputs refl) (are_known (all_names sums_top) second_sum.inputs refl) (are_known (all_names sums_top) wide_sum.inputs refl);
  drives_read = all_one (λ drive. EachOperand (IsAmong (all_names sums_top)) drive.operation) upper_half (contains_tested (all_names sums_top) (codes "q") refl);
  steps_read = all_one (λ step. IsAmong (all_names sums_top) step.next) kept_sum (contains_tested (all_names sums_top) (codes "c") refl);
  wires_driven = are_among (linked_names sums_instances ++ targets_of sums_top.drives) (wire_names sums_top) refl;
  registers_stepped = are_among (registers_of sums_top.steps) (names_of sums_top.registers) refl;
  instances_in_order = each_in_order;
  in_order = (contains_tested (given_names sums_top ++ linked_names sums_instances) (codes "q") refl, tt);
  placed = each_placed;
  drive_widths = all_one (λ drive. SuitsWidth (width_of sums_top) (width_of sums_top drive.target) drive.operation) upper_half (ltb-true 3 4 refl, refl);
  step_widths = all_one (λ step. operand_width (width_of sums_top) step.next ≡ width_of sums_top step.register) kept_sum refl;
  instances_fit = all_three (λ instance. All IsFitting instance.inputs) first_sum second_sum wide_sum
      (all_two IsFitting (Name (codes "i")) (Name (codes "q")) tt tt) (all_two IsFitting (Name (codes "c")) (Literal four_bits 5) tt (ltb-true 5 16 refl)) (all_one IsFitting (Name (codes "d")) tt);
  drives_fit = all_one (λ drive. EachOperand IsFitting drive.operation) upper_half tt;
  steps_fit = all_one (λ step. IsFitting step.next) kept_sum tt;
  resets_fit = all_one (λ step. IsWord (width_of sums_top step.register) step.reset) kept_sum (ltb-true 9 16 refl);
  orders = all_one (λ drive. ComparesByOrder drive.operation) upper_half tt;
}

top_spelled : HasSpelling sums_top
top_spelled = record {
  module_name = named (codes "t") refl;
  names = are_named (all_names sums_top) refl;
  widths = are_wide (declarations sums_top);
  drive_literals = all_one (λ drive. EachOperand HasWidth drive.operation) upper_half tt;
  step_literals = all_one (λ step. HasWidth step.next) kept_sum tt;
  widenings = all_one (λ drive. HasBits drive.operation) upper_half tt;
}

-- ---- the plan

input_listed : MayBeListed (names_of sums_top.inputs) input_entry
input_listed = record {
  variable = ((refl, λ i d lt. absurd (omega arith)), none_there (codes "X") reserved_words refl);
  indices = leb-true 0 4 refl;
  index = λ i d lt. absurd (omega arith);
  wire = contains_tested (names_of sums_top.inputs) (codes "i") refl;
  cycle = leb-true 0 4095 refl;
}

output_listed : MayBeListed (wire_names sums_top) output_entry
output_listed = record {
  variable = ((refl, λ i d lt. absurd (omega arith)), none_there (codes "Y") reserved_words refl);
  indices = leb-true 1 4 refl;
  index = all_one (λ i. nat_abs i ≤ 4095) (negsuc 0) (leb-true 1 4095 refl);
  wire = contains_tested (wire_names sums_top) (codes "o") refl;
  cycle = leb-true 2 4095 refl;
}

pub sums_sound : IsSoundPlan sums_plan
sums_sound = record {
  modules = record {
    named_once = distinct_tested (module_names sums_plan) refl;
    kinds = all_two (λ kind. IsSound (kind_module kind)) adder widener adder_sound widener_sound;
    top = top_sound;
  };
  kinds_spelled = all_two (λ kind. HasSpelling (kind_module kind)) adder widener adder_spelled widener_spelled;
  kinds_put = all_two (λ kind. 1 ≤ length kind.outputs) adder widener (leb-true 1 1 refl) (leb-true 1 1 refl);
  top_spelled = top_spelled;
  instance_names = are_named (instance_names sums_instances) refl;
  instance_literals = all_three (λ instance. All HasWidth instance.inputs) first_sum second_sum wide_sum
      (all_two HasWidth (Name (codes "i")) (Name (codes "q")) tt tt)
      (all_two HasWidth (Name (codes "c")) (Literal four_bits 5) tt (leb-true 1 4 refl, leb-true 4 64 refl))
      (all_one HasWidth (Name (codes "d")) tt);
  ins = all_one (MayBeListed (names_of sums_top.inputs)) input_entry input_listed;
  ats = all_one (MayBeListed (wire_names sums_top)) output_entry output_listed;
}
