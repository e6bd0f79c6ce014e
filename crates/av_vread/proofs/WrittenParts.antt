-- A plan as tokens with the blanks around them. A design is a plan without kinds.
use Rattle.std.proofs.Common.{ℕ, ◌-◌, List, [], ◌∷◌, ◌++◌}
use Rattle.std.specs.Prelude.{codes, decimal}
use Rattle.av_net.specs.declared.token_kind.DesignTokenKind.TheVariants as kind
use Rattle.av_net.specs.declared.operation.Operand.{Operand}
use Rattle.av_net.specs.declared.operation.Operand.TheVariants as operand
use Rattle.av_net.specs.declared.operation.Operation.{Operation}
use Rattle.av_net.specs.declared.operation.Operation.TheVariants as operation
use Rattle.av_net.specs.declared.netlist.Port.{Port}
use Rattle.av_net.specs.declared.netlist.Drive.{Drive}
use Rattle.av_net.specs.declared.netlist.Step.{Step}
use Rattle.av_net.specs.declared.netlist.Module.{Module}
use Rattle.av_base.specs.declared.width.Width.{Width}
use Rattle.av_net.specs.Names.{clk, rst, width_in}
use Rattle.av_net.specs.declared.plan.CellKind.{CellKind}
use Rattle.av_net.specs.declared.plan.Instance.{Instance}
use Rattle.av_net.specs.declared.plan.Plan.{Plan}
use Rattle.av_net.specs.Meaning.{Widths}
use Rattle.av_net.specs.Texts.{written_width}
use Rattle.av_net.specs.Flat.{kind_module}
use Rattle.av_net.specs.Grammar.{PortLink, Instantiation, spelling}
use Rattle.av_net.proofs.Said.{instance_said}
use Rattle.av_vparse.proofs.Spaced.{Written}

-- ---- single tokens, by what stands after them

abbrev pub word : List ℕ → List ℕ → Written
word text after = record { before = []; kind = kind.Reserved; text = text; after = after }

-- at the beginning of a line of the body
abbrev pub indented : List ℕ → Written
indented text = record { before = codes "  "; kind = kind.Reserved; text = text; after = codes " " }

abbrev pub named : List ℕ → List ℕ → Written
named text after = record { before = []; kind = kind.Name; text = text; after = after }

abbrev pub symbol : List ℕ → List ℕ → Written
symbol text after = record { before = []; kind = kind.Symbol; text = text; after = after }

abbrev pub number : List ℕ → Written
number text = record { before = []; kind = kind.Number; text = text; after = [] }

abbrev pub literal : ℕ → ℕ → List ℕ → Written
literal bits value after = record { before = []; kind = kind.Literal; text = decimal bits ++ (39 ∷ 100 ∷ decimal value); after = after }

abbrev pub system : Written
system = record { before = []; kind = kind.System; text = codes "$signed"; after = [] }

abbrev pub operand_part : Operand → List ℕ → Written
operand_part (operand.Name name) after = named name after
operand_part (operand.Literal width value) after = literal width.bits value after

-- ---- declarations

abbrev pub range_parts : Width → List Written
range_parts width = symbol (codes "[") [] ∷ number (decimal (width.bits - 1)) ∷ symbol (codes ":") [] ∷ number (codes "0") ∷ symbol (codes "]") (codes " ") ∷ []

abbrev pub port_parts : List ℕ → Port → List Written
port_parts direction port = symbol (codes ",") (codes " ") ∷ word direction (codes " ") ∷ range_parts port.width ++ (named port.name [] ∷ [])

abbrev pub ports_onto : List ℕ → List Port → List Written → List Written
ports_onto direction [] rest = rest
ports_onto direction (port ∷ ports) rest = port_parts direction port ++ ports_onto direction ports rest

abbrev pub end_of_line : Written
end_of_line = symbol (codes ";") (codes "\n")

abbrev pub declaration_parts : List ℕ → Port → List Written
declaration_parts kind port = indented kind ∷ range_parts port.width ++ (named port.name [] ∷ end_of_line ∷ [])

abbrev pub declarations_onto : List ℕ → List Port → List Written → List Written
declarations_onto kind [] rest = rest
declarations_onto kind (port ∷ ports) rest = declaration_parts kind port ++ declarations_onto kind ports rest

-- ---- items

-- a part select
abbrev pub select_parts : List ℕ → ℕ → ℕ → List Written
select_parts name high low = named name [] ∷ symbol (codes "[") [] ∷ number (decimal high) ∷ symbol (codes ":") [] ∷ number (decimal low) ∷ symbol (codes "]") [] ∷ []

-- a widening that selects this bit
abbrev pub widening_parts : List ℕ → ℕ → ℕ → List Written
widening_parts name by bit =
    symbol (codes "{") [] ∷ symbol (codes "{") [] ∷ number (decimal by) ∷ symbol (codes "{") [] ∷ (select_parts name bit bit
    ++ (symbol (codes "}") [] ∷ symbol (codes "}") [] ∷ symbol (codes ",") (codes " ") ∷ named name [] ∷ symbol (codes "}") [] ∷ []))

abbrev pub signed_parts : Operand → List ℕ → List Written
signed_parts x after = system ∷ symbol (codes "(") [] ∷ operand_part x [] ∷ symbol (codes ")") after ∷ []

abbrev pub operation_parts : Widths → Operation → List Written
operation_parts widths (operation.Plain x) = operand_part x [] ∷ []
operation_parts widths (operation.Binary x s y) = operand_part x (codes " ") ∷ symbol (spelling s) (codes " ") ∷ operand_part y [] ∷ []
operation_parts widths (operation.Signed x s y) = signed_parts x (codes " ") ++ (symbol (spelling s) (codes " ") ∷ signed_parts y [])
operation_parts widths (operation.Choose c x y) =
    operand_part c (codes " ") ∷ symbol (codes "?") (codes " ") ∷ operand_part x (codes " ") ∷ symbol (codes ":") (codes " ") ∷ operand_part y [] ∷ []
operation_parts widths (operation.Part name high low) = select_parts name high low
operation_parts widths (operation.Widen name by) = widening_parts name by (widths name - 1)

abbrev pub drive_onto : Widths → Drive → List Written → List Written
drive_onto widths d rest = indented (codes "assign") ∷ named d.target (codes " ") ∷ symbol (codes "=") (codes " ") ∷ (operation_parts widths d.operation ++ (end_of_line ∷ rest))

abbrev pub drives_onto : Widths → List Drive → List Written → List Written
drives_onto widths [] rest = rest
drives_onto widths (d ∷ drives) rest = drive_onto widths d (drives_onto widths drives rest)

abbrev pub edge_parts : List Written
edge_parts =
    indented (codes "always") ∷ symbol (codes "@") [] ∷ symbol (codes "(") [] ∷ word (codes "posedge") (codes " ") ∷ named clk [] ∷ symbol (codes ")") (codes " ")
    ∷ word (codes "if") (codes " ") ∷ symbol (codes "(") [] ∷ named rst [] ∷ symbol (codes ")") (codes " ") ∷ []

-- what follows the literal of a reset
abbrev pub otherwise_onto : Step → List Written → List Written
otherwise_onto s rest =
    symbol (codes ";") (codes " ") ∷ word (codes "else") (codes " ") ∷ named s.register (codes " ") ∷ symbol (codes "<=") (codes " ") ∷ operand_part s.next [] ∷ end_of_line ∷ rest

abbrev pub becomes_onto : ℕ → Step → List Written → List Written
becomes_onto bits s rest = named s.register (codes " ") ∷ symbol (codes "<=") (codes " ") ∷ literal bits s.reset [] ∷ otherwise_onto s rest

-- a step whose reset has so many bits
abbrev pub step_onto : ℕ → Step → List Written → List Written
step_onto bits s rest = edge_parts ++ becomes_onto bits s rest

abbrev pub steps_onto : List Port → List Step → List Written → List Written
steps_onto registers [] rest = rest
steps_onto registers (s ∷ steps) rest = step_onto (width_in registers s.register) s (steps_onto registers steps rest)

-- ---- instances

abbrev pub link_onto : PortLink → List ℕ → List Written → List Written
link_onto link after rest = symbol (codes ".") [] ∷ named link.port [] ∷ symbol (codes "(") [] ∷ operand_part link.operand [] ∷ symbol (codes ")") after ∷ rest

-- each behind a comma
abbrev pub links_onto : List PortLink → List Written → List Written
links_onto [] rest = rest
links_onto (link ∷ links) rest = symbol (codes ",") (codes " ") ∷ link_onto link [] (links_onto links rest)

-- the first behind nothing
abbrev pub all_links_onto : List PortLink → List Written → List Written
all_links_onto [] rest = rest
all_links_onto (link ∷ links) rest = link_onto link [] (links_onto links rest)

abbrev pub kind_part : List ℕ → Written
kind_part text = record { before = codes "  "; kind = kind.Name; text = text; after = codes " " }

abbrev pub instance_onto : Instantiation → List Written → List Written
instance_onto x rest = kind_part x.kind ∷ named x.name (codes " ") ∷ symbol (codes "(") [] ∷ all_links_onto x.links (symbol (codes ")") [] ∷ end_of_line ∷ rest)

abbrev pub instances_onto : List CellKind → List Instance → List Written → List Written
instances_onto kinds [] rest = rest
instances_onto kinds (i ∷ instances) rest = instance_onto (instance_said kinds i) (instances_onto kinds instances rest)

-- ---- kinds

abbrev pub directed_onto : List ℕ → Port → List Written → List Written
directed_onto direction port rest = word direction (codes " ") ∷ (range_parts port.width ++ (named port.name [] ∷ rest))

-- each before a comma
abbrev pub inputs_onto : List Port → List Written → List Written
inputs_onto [] rest = rest
inputs_onto (port ∷ ports) rest = directed_onto (codes "input") port (symbol (codes ",") (codes " ") ∷ inputs_onto ports rest)

-- the first behind nothing, each other one behind a comma
abbrev pub outputs_onto : List Port → List Written → List Written
outputs_onto [] rest = rest
outputs_onto (port ∷ ports) rest = directed_onto (codes "output") port (ports_onto (codes "output") ports rest)

abbrev pub kind_body_onto : CellKind → List Written → List Written
kind_body_onto kind rest = declarations_onto (codes "wire") kind.wires (drives_onto (written_width (kind_module kind)) kind.drives (word (codes "endmodule") (codes "\n") ∷ rest))

abbrev pub kind_onto : CellKind → List Written → List Written
kind_onto kind rest =
    word (codes "module") (codes " ") ∷ named kind.name [] ∷ symbol (codes "(") [] ∷ inputs_onto kind.inputs (outputs_onto kind.outputs (symbol (codes ")") [] ∷ end_of_line ∷ kind_body_onto kind rest))

abbrev pub kinds_onto : List CellKind → List Written → List Written
kinds_onto [] rest = rest
kinds_onto (kind ∷ kinds) rest = kind_onto kind (kinds_onto kinds rest)

-- ---- the top

abbrev pub clocked_parts : List ℕ → List Written
clocked_parts name =
    word (codes "module") (codes " ") ∷ named name [] ∷ symbol (codes "(") [] ∷ word (codes "input") (codes " ") ∷ named clk [] ∷ symbol (codes ",") (codes " ")
    ∷ word (codes "input") (codes " ") ∷ named rst [] ∷ []

abbrev pub items_onto : Module → List Written
items_onto m = drives_onto (written_width m) m.drives (steps_onto m.registers m.steps (word (codes "endmodule") (codes "\n") ∷ []))

abbrev pub body_onto : List CellKind → List Instance → Module → List Written
body_onto kinds instances m = declarations_onto (codes "wire") m.wires (declarations_onto (codes "reg") m.registers (instances_onto kinds instances (items_onto m)))

abbrev pub closed_onto : List CellKind → List Instance → Module → List Written
closed_onto kinds instances m = symbol (codes ")") [] ∷ end_of_line ∷ body_onto kinds instances m

abbrev pub top_parts : List CellKind → List Instance → Module → List Written
top_parts kinds instances m = clocked_parts m.name ++ ports_onto (codes "input") m.inputs (ports_onto (codes "output") m.outputs (closed_onto kinds instances m))

abbrev pub plan_parts : Plan → List Written
plan_parts plan = kinds_onto plan.kinds (top_parts plan.kinds plan.instances plan.top)
