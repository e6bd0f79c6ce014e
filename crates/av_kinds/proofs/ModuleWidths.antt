-- Where no name of a module is declared twice, each has the width of its declaration.
use Rattle.std.proofs.Common.{[], ◌∷◌, get_or, sym, subst}
use Rattle.std.specs.Prelude.{Contains}
use Rattle.std.specs.List.{AllByRecursion}
use Rattle.std.proofs.lemmas.List.Elements.{recursion_from_All, Contains-get_or}
use Rattle.av_net.specs.declared.netlist.Port.{Port}
use Rattle.av_net.specs.declared.netlist.Module.{Module}
use Rattle.av_net.specs.Names.{AreDistinct, clk, rst, names_of, all_names, declarations, width_of}
use Rattle.av_net.proofs.Distinct.{rest_distinct}
use Rattle.av_net.proofs.Declared.{width_here, names_declared, input_declared, register_declared, output_declared, wire_declared}
use Rattle.av_kinds.proofs.Wide.{IsWide}

pub record AreWide (m : Module) : Type 0 where
  pub inputs : AllByRecursion (IsWide (width_of m)) m.inputs
  pub registers : AllByRecursion (IsWide (width_of m)) m.registers
  pub outputs : AllByRecursion (IsWide (width_of m)) m.outputs
  pub wires : AllByRecursion (IsWide (width_of m)) m.wires

pub are_wide : (m : Module) → AreDistinct (clk ∷ rst ∷ all_names m) → AreWide m
are_wide m distinct =
    let names : AreDistinct (names_of (declarations m)) = subst AreDistinct (sym (names_declared m)) (rest_distinct (clk ∷ rst ∷ []) (all_names m) distinct) in
    let W : Port → Type 0 = IsWide (width_of m) in
    let each : (p : Port) → Contains (declarations m) p → W p = λ p at. width_here (declarations m) p names at in
    record {
      inputs = recursion_from_All W m.inputs (λ k d lt. each (get_or m.inputs k d) (input_declared m (get_or m.inputs k d) (Contains-get_or m.inputs k d lt)));
      registers = recursion_from_All W m.registers (λ k d lt. each (get_or m.registers k d) (register_declared m (get_or m.registers k d) (Contains-get_or m.registers k d lt)));
      outputs = recursion_from_All W m.outputs (λ k d lt. each (get_or m.outputs k d) (output_declared m (get_or m.outputs k d) (Contains-get_or m.outputs k d lt)));
      wires = recursion_from_All W m.wires (λ k d lt. each (get_or m.wires k d) (wire_declared m (get_or m.wires k d) (Contains-get_or m.wires k d lt)));
    }
