-- The input ports of a sound module have different names.
use Rattle.std.proofs.Common.{◌∷◌, []}
use Rattle.av_net.specs.declared.netlist.Module.{Module}
use Rattle.av_net.specs.Names.{clk, rst, names_of, given_names, wire_names, all_names, AreDistinct}
use Rattle.av_net.specs.Sound.{IsSound}
use Rattle.av_net.proofs.Distinct.{front_distinct, rest_distinct}

pub inputs_distinct : (m : Module) → IsSound m → AreDistinct (names_of m.inputs)
inputs_distinct m sound =
    let names = rest_distinct (clk ∷ rst ∷ []) (all_names m) sound.declared_once in
    front_distinct (names_of m.inputs) (names_of m.registers) (front_distinct (given_names m) (wire_names m) names)
