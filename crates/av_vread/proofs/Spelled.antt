-- What is spelled of the parts of a plan, list by list.
use Rattle.std.proofs.Common.{◌≡◌, ℕ, ◌<◌, ◌≤◌, ◌^◌, Bool, true, false, if◌then◌else◌, List, [], ◌∷◌, ◌++◌, map, length, refl, ◌∙◌, arith, length-append}
use Rattle.std.specs.Prelude.{All}
use Rattle.std.specs.List.{AllByRecursion}
use Rattle.std.specs.Str.{bytes_eq}
use Rattle.std.proofs.Math.Nat.{pow-le-pow_right}
use Rattle.std.proofs.lemmas.List.{length-map}
use Rattle.std.proofs.lemmas.List.Elements.{All-from_recursion, recursion_from_All}
use Rattle.av_base.specs.declared.width.Width.{Width}
use Rattle.av_base.specs.Words.{IsWord}
use Rattle.av_net.specs.declared.operation.Operand.{Operand}
use Rattle.av_net.specs.declared.operation.Operand.TheVariants as operand
use Rattle.av_net.specs.declared.netlist.Port.{Port}
use Rattle.av_net.specs.declared.netlist.Module.{Module}
use Rattle.av_net.specs.declared.plan.CellKind.{CellKind}
use Rattle.av_net.specs.declared.plan.Instance.{Instance}
use Rattle.av_net.specs.Meaning.{Widths}
use Rattle.av_net.specs.Names.{width_in, declarations}
use Rattle.av_net.specs.Texts.{written_width}
use Rattle.av_net.specs.Flat.{kind_module, kind_of, no_kind}
use Rattle.av_net.specs.Lexemes.{IsName}
use Rattle.av_net.specs.Grammar.{PortLink, Instantiation}
use Rattle.av_net.proofs.Said.{links_said, instance_said}
use Rattle.av_vread.specs.SpelledParts.{IsOperandSpelled, IsPortSpelled, IsInstanceSpelled, IsKindSpelled}
use Rattle.av_vread.proofs.Each.{all_append, all_front, all_back}

abbrev pub ArePortsSpelled : List Port → Type 0
ArePortsSpelled ports = AllByRecursion IsPortSpelled ports

-- no name is wider than 64 bits
abbrev pub AreNarrow : Widths → Type 0
AreNarrow widths = (name : List ℕ) → widths name ≤ 64

-- the declarations, each kind for itself
pub record HaveSpelledPorts (m : Module) : Type 0 where
  pub inputs : ArePortsSpelled m.inputs
  pub outputs : ArePortsSpelled m.outputs
  pub wires : ArePortsSpelled m.wires
  pub registers : ArePortsSpelled m.registers

pub spelled_by_kind : (m : Module) → All IsPortSpelled (declarations m) → HaveSpelledPorts m
spelled_by_kind m h =
    let all = recursion_from_All IsPortSpelled (declarations m) h in
    let ports = all_front IsPortSpelled (m.inputs ++ m.registers ++ m.outputs) m.wires all in
    let given = all_front IsPortSpelled (m.inputs ++ m.registers) m.outputs ports in
    record {
      inputs = all_front IsPortSpelled m.inputs m.registers given;
      outputs = all_back IsPortSpelled (m.inputs ++ m.registers) m.outputs ports;
      wires = all_back IsPortSpelled (m.inputs ++ m.registers ++ m.outputs) m.wires all;
      registers = all_back IsPortSpelled m.inputs m.registers given;
    }

-- the width of a name among ports is at most 64
narrow_in : (ports : List Port) → AreNarrow (width_in ports)
narrow_in [] name = omega arith
narrow_in (port ∷ ports) name = go (bytes_eq port.name name) (narrow_in ports name)
  where
    go : (test : Bool) → width_in ports name ≤ 64 → (if test then port.width.bits else width_in ports name) ≤ 64
    go true h = port.width.most
    go false h = h

pub narrow : (m : Module) → AreNarrow (written_width m)
narrow m name = narrow_in (m.inputs ++ m.outputs ++ m.wires ++ m.registers) name

-- the port and the operand of a link
pub record IsLinkSpelled (link : PortLink) : Type 0 where
  pub port : IsName link.port
  pub operand : IsOperandSpelled link.operand

-- an instantiation with a link at least
pub record IsInstantiationSpelled (x : Instantiation) : Type 0 where
  pub kind : IsName x.kind
  pub name : IsName x.name
  pub links : AllByRecursion IsLinkSpelled x.links
  pub some : 1 ≤ length x.links

-- those of a plan
links_spelled : (ports : List Port) (operands : List Operand) → ArePortsSpelled ports → AllByRecursion IsOperandSpelled operands → AllByRecursion IsLinkSpelled (links_said ports operands)
links_spelled [] operands p o = tt
links_spelled (port ∷ ports) [] p o = tt
links_spelled (port ∷ ports) (x ∷ operands) p o = (record { port = p.0.name; operand = o.0 }, links_spelled ports operands p.1 o.1)

names_spelled : (names : List (List ℕ)) → AllByRecursion IsName names → AllByRecursion IsOperandSpelled (map operand.Name names)
names_spelled [] h = tt
names_spelled (name ∷ names) h = (h.0, names_spelled names h.1)

some_link : (ports : List Port) (operands : List Operand) → length operands ≡ length ports → length (links_said ports operands) ≡ length ports
some_link [] [] e = refl
some_link [] (x ∷ operands) e = absurd (omega arith)
some_link (port ∷ ports) [] e = absurd (omega arith)
some_link (port ∷ ports) (x ∷ operands) e = (let more = some_link ports operands (omega arith) in omega arith)

pub instance_spelled : (kinds : List CellKind) → AllByRecursion IsKindSpelled kinds → (i : Instance) → IsInstanceSpelled kinds i → IsInstantiationSpelled (instance_said kinds i)
instance_spelled kinds k i h =
    let kind = kind_of kinds i in
    let spelled : IsKindSpelled kind = All-from_recursion IsKindSpelled kinds k i.kind no_kind h.kind in
    let ports = spelled_by_kind (kind_module kind) spelled.of_module.ports in
    let inputs = links_spelled kind.inputs i.inputs ports.inputs (recursion_from_All IsOperandSpelled i.inputs h.inputs) in
    let outputs = links_spelled kind.outputs (map operand.Name i.outputs) ports.outputs (names_spelled i.outputs (recursion_from_All IsName i.outputs h.outputs)) in
    let count : length (links_said kind.outputs (map operand.Name i.outputs)) ≡ length kind.outputs = some_link kind.outputs (map operand.Name i.outputs) (length-map i.outputs operand.Name ∙ h.each_output) in
    record {
      kind = spelled.of_module.name;
      name = h.name;
      links = all_append IsLinkSpelled (links_said kind.inputs i.inputs) (links_said kind.outputs (map operand.Name i.outputs)) inputs outputs;
      some = (let puts = spelled.puts in let sum = length-append (links_said kind.inputs i.inputs) (links_said kind.outputs (map operand.Name i.outputs)) in omega arith);
    }

pub word_small : (width : Width) (value : ℕ) → IsWord width.bits value → value < 2 ^ 64
word_small width value h = let le = pow-le-pow_right {n = 2} (omega arith) {i = width.bits} {j = 64} width.most in omega arith
