-- In a sound module each name has the width of its one declaration.
use Rattle.std.proofs.Common.{◌≡◌, ◌≢◌, zero, suc, List, [], ◌∷◌, ◌++◌, sym, ◌∙◌, ap, subst, arith, true, append_assoc}
use Rattle.std.specs.Prelude.{Contains}
use Rattle.std.specs.Str.{bytes_eq}
use Rattle.std.proofs.lemmas.Slice.Eq.{bytes_eq-Decides}
use Rattle.std.proofs.lemmas.List.{get_or-map, length-map, map-append}
use Rattle.std.proofs.lemmas.List.Elements.{Contains-append_left, Contains-append_right}
use Rattle.av_net.specs.declared.netlist.Port.{Port}
use Rattle.av_net.specs.declared.netlist.Module.{Module}
use Rattle.av_net.specs.Names.{AreDistinct, names_of, declarations, all_names, width_in, width_of}
use Rattle.av_net.specs.Sound.{IsSound}
use Rattle.av_net.proofs.Distinct.{apart, rest_distinct}
use Rattle.av_net.proofs.Settles.{not_equal, names_distinct}

-- a port's name is among the names
pub name_contained : (ports : List Port) (port : Port) → Contains ports port → Contains (names_of ports) port.name
name_contained ports port (k, lt, at) =
    (k, omega (arith, length-map ports (λ (port : Port). port.name)), get_or-map (λ (port : Port). port.name) ports k port port.name lt ∙ ap (λ (port : Port). port.name) at)

-- where no name stands twice, the first port with a name is the one
pub width_here : (ports : List Port) (port : Port) → AreDistinct (names_of ports) → Contains ports port → width_in ports port.name ≡ port.width.bits
width_here [] port distinct (k, lt, at) = absurd (omega arith)
width_here (first ∷ ports) port distinct (zero, lt, at) =
    let e : bytes_eq first.name port.name ≡ true = (bytes_eq-Decides first.name port.name).1 (ap (λ (port : Port). port.name) at) in
    rw e (ap (λ (port : Port). port.width.bits) at)
width_here (first ∷ ports) port distinct (suc k, lt, at) =
    let later : Contains ports port = (k, omega arith, at) in
    let differs : first.name ≢ port.name = λ same. apart (first.name ∷ []) (names_of ports) port.name distinct (0, omega arith, same) (name_contained ports port later) in
    rw (not_equal first.name port.name differs) (width_here ports port (rest_distinct (first.name ∷ []) (names_of ports) distinct) later)

-- an input port is declared
pub input_declared : (m : Module) (port : Port) → Contains m.inputs port → Contains (declarations m) port
input_declared m port at = Contains-append_left (m.inputs ++ m.registers ++ m.outputs) m.wires port (Contains-append_left (m.inputs ++ m.registers) m.outputs port (Contains-append_left m.inputs m.registers port at))

-- a register is declared
pub register_declared : (m : Module) (port : Port) → Contains m.registers port → Contains (declarations m) port
register_declared m port at = Contains-append_left (m.inputs ++ m.registers ++ m.outputs) m.wires port (Contains-append_left (m.inputs ++ m.registers) m.outputs port (Contains-append_right m.inputs m.registers port at))

-- an output is declared
pub output_declared : (m : Module) (port : Port) → Contains m.outputs port → Contains (declarations m) port
output_declared m port at = Contains-append_left (m.inputs ++ m.registers ++ m.outputs) m.wires port (Contains-append_right (m.inputs ++ m.registers) m.outputs port at)

-- a wire is declared
pub wire_declared : (m : Module) (port : Port) → Contains m.wires port → Contains (declarations m) port
wire_declared m port at = Contains-append_right (m.inputs ++ m.registers ++ m.outputs) m.wires port at

-- the names of all declarations
pub names_declared : (m : Module) → names_of (declarations m) ≡ all_names m
names_declared m = simp (map-append, append_assoc)

-- a declaration's width is that of its name
pub declared_width : (m : Module) → IsSound m → (port : Port) → Contains (declarations m) port → width_of m port.name ≡ port.width.bits
declared_width m sound port at = width_here (declarations m) port (subst AreDistinct (sym (names_declared m)) (names_distinct m sound)) at
