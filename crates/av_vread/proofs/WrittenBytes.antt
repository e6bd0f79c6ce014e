-- The text of a plan is that of its tokens and blanks.
use Rattle.std.proofs.Common.{◌≡◌, ℕ, ◌-◌, ◌≤◌, List, [], ◌∷◌, ◌++◌, map, length, arith, refl, sym, ap, subst, ◌∙◌, append_assoc}
use Rattle.std.specs.Prelude.{codes, decimal}
use Rattle.std.specs.List.{flat_map, AllByRecursion}
use Rattle.std.proofs.lemmas.List.{append-nil}
use Rattle.av_base.specs.declared.width.Width.{Width}
use Rattle.av_net.specs.declared.operation.Symbol.{Symbol}
use Rattle.av_net.specs.declared.operation.Symbol.TheVariants.{Add, Sub, Mul, And, Or, Equal, Unequal, Less, LessEqual, Greater, GreaterEqual}
use Rattle.av_net.specs.declared.operation.Operand.{Operand}
use Rattle.av_net.specs.declared.operation.Operand.TheVariants as operand
use Rattle.av_net.specs.declared.operation.Operation.{Operation}
use Rattle.av_net.specs.declared.operation.Operation.TheVariants as operation
use Rattle.av_net.specs.declared.netlist.Port.{Port}
use Rattle.av_net.specs.declared.netlist.Drive.{Drive}
use Rattle.av_net.specs.declared.netlist.Step.{Step}
use Rattle.av_net.specs.declared.netlist.Module.{Module}
use Rattle.av_net.specs.Names.{width_in}
use Rattle.av_net.specs.Grammar.{PortLink, spelling}
use Rattle.av_net.proofs.Said.{links_said, instance_said}
use Rattle.av_net.proofs.Alone.{alone}
use Rattle.av_net.specs.declared.design.Listing.{Listing}
use Rattle.av_net.specs.declared.plan.CellKind.{CellKind}
use Rattle.av_net.specs.declared.plan.Instance.{Instance}
use Rattle.av_net.specs.declared.plan.Plan.{Plan}
use Rattle.av_net.specs.Meaning.{Widths}
use Rattle.av_net.specs.Flat.{kind_module, kind_of}
use Rattle.av_net.specs.PlanTexts.{behind_commas, joined, directed_text, kind_text, link_text, link_texts, links_text, instance_line, top_text}
use Rattle.av_net.specs.Texts.{header_line, declarations_text, items_text, written_width, part_text, widening_text, range_text, port_text, clocked_text, declaration_line, literal_text, operand_text, symbol_text, signed_text, operation_text, drive_line, assignment_text, reset_text, edge_text, step_line, module_text}
use Rattle.av_vparse.proofs.Spaced.{Written, bytes_of}
use Rattle.av_vread.proofs.WrittenParts.{select_parts, widening_parts, link_onto, links_onto, all_links_onto, instance_onto, instances_onto, directed_onto, inputs_onto, outputs_onto, kind_body_onto, kind_onto, kinds_onto, top_parts, plan_parts, word, named, symbol, operand_part, port_parts, ports_onto, end_of_line, declaration_parts, declarations_onto, signed_parts, operation_parts, drive_onto, drives_onto, step_onto, steps_onto, items_onto, body_onto, closed_onto}

-- ---- declarations

six : (a b c d e f x : List ℕ) → a ++ b ++ c ++ d ++ e ++ f ++ x ≡ a ++ (b ++ (c ++ (d ++ (e ++ (f ++ x)))))
six a b c d e f x = simp append_assoc refl

five : (a b c d e x : List ℕ) → a ++ b ++ c ++ d ++ e ++ x ≡ a ++ (b ++ (c ++ (d ++ (e ++ x))))
five a b c d e x = simp append_assoc refl

range_bytes : (width : Width) (x : List ℕ) → range_text width ++ x ≡ 91 ∷ (decimal (width.bits - 1) ++ (58 ∷ 48 ∷ 93 ∷ x))
range_bytes width x = append_assoc (codes "[" ++ decimal (width.bits - 1)) (codes ":0]") x

port_bytes : (direction : List ℕ) (port : Port) (ws : List Written) → bytes_of (port_parts direction port ++ ws) ≡ port_text direction port ++ bytes_of ws
port_bytes direction port ws =
    sym (six (codes ", ") direction (codes " ") (range_text port.width) (codes " ") port.name (bytes_of ws)
    ∙ ap (λ z. 44 ∷ 32 ∷ (direction ++ (32 ∷ z))) (range_bytes port.width (32 ∷ (port.name ++ bytes_of ws))))

pub ports_bytes : (direction : List ℕ) (ports : List Port) (ws : List Written) → bytes_of (ports_onto direction ports ws) ≡ flat_map (port_text direction) ports ++ bytes_of ws
ports_bytes direction [] ws = refl
ports_bytes direction (port ∷ ports) ws =
    port_bytes direction port (ports_onto direction ports ws) ∙ ap (λ z. port_text direction port ++ z) (ports_bytes direction ports ws)
    ∙ sym (append_assoc (port_text direction port) (flat_map (port_text direction) ports) (bytes_of ws))

declaration_bytes : (kind : List ℕ) (port : Port) (ws : List Written) → bytes_of (declaration_parts kind port ++ ws) ≡ declaration_line kind port ++ bytes_of ws
declaration_bytes kind port ws =
    sym (append_assoc (codes "  " ++ kind ++ codes " " ++ range_text port.width ++ codes " " ++ port.name) (codes ";\n") (bytes_of ws)
    ∙ six (codes "  ") kind (codes " ") (range_text port.width) (codes " ") port.name (59 ∷ 10 ∷ bytes_of ws)
    ∙ ap (λ z. 32 ∷ 32 ∷ (kind ++ (32 ∷ z))) (range_bytes port.width (32 ∷ (port.name ++ (59 ∷ 10 ∷ bytes_of ws)))))

declarations_bytes : (kind : List ℕ) (ports : List Port) (ws : List Written) → bytes_of (declarations_onto kind ports ws) ≡ flat_map (declaration_line kind) ports ++ bytes_of ws
declarations_bytes kind [] ws = refl
declarations_bytes kind (port ∷ ports) ws =
    declaration_bytes kind port (declarations_onto kind ports ws) ∙ ap (λ z. declaration_line kind port ++ z) (declarations_bytes kind ports ws)
    ∙ sym (append_assoc (declaration_line kind port) (flat_map (declaration_line kind) ports) (bytes_of ws))

-- ---- items

literal_bytes : (bits value : ℕ) → literal_text bits value ≡ decimal bits ++ (39 ∷ 100 ∷ decimal value)
literal_bytes bits value = append_assoc (decimal bits) (codes "'d") (decimal value)

operand_bytes : (x : Operand) (after : List ℕ) (ws : List Written) → bytes_of (operand_part x after ∷ ws) ≡ operand_text x ++ (after ++ bytes_of ws)
operand_bytes (operand.Name name) after ws = refl
operand_bytes (operand.Literal width value) after ws = ap (λ z. z ++ (after ++ bytes_of ws)) (sym (literal_bytes width.bits value))

symbol_bytes : (s : Symbol) (rest : List ℕ) → symbol_text s ++ rest ≡ 32 ∷ (spelling s ++ (32 ∷ rest))
symbol_bytes Add rest = refl
symbol_bytes Sub rest = refl
symbol_bytes Mul rest = refl
symbol_bytes And rest = refl
symbol_bytes Or rest = refl
symbol_bytes Equal rest = refl
symbol_bytes Unequal rest = refl
symbol_bytes Less rest = refl
symbol_bytes LessEqual rest = refl
symbol_bytes Greater rest = refl
symbol_bytes GreaterEqual rest = refl

signed_bytes : (x : Operand) (after : List ℕ) (ws : List Written) → bytes_of (signed_parts x after ++ ws) ≡ signed_text x ++ (after ++ bytes_of ws)
signed_bytes x after ws =
    ap (λ z. codes "$signed(" ++ z) (operand_bytes x [] (symbol (codes ")") after ∷ ws))
    ∙ sym (append_assoc (codes "$signed(" ++ operand_text x) (codes ")") (after ++ bytes_of ws) ∙ append_assoc (codes "$signed(") (operand_text x) (41 ∷ (after ++ bytes_of ws)))

-- one text, a symbol and another
three_bytes : (x : List ℕ) (s : Symbol) (y rest : List ℕ) → x ++ symbol_text s ++ y ++ rest ≡ x ++ (32 ∷ (spelling s ++ (32 ∷ (y ++ rest))))
three_bytes x s y rest =
    append_assoc (x ++ symbol_text s) y rest ∙ append_assoc x (symbol_text s) (y ++ rest) ∙ ap (λ z. x ++ z) (symbol_bytes s (y ++ rest))

select_bytes : (name : List ℕ) (high low : ℕ) (ws : List Written) → bytes_of (select_parts name high low ++ ws) ≡ part_text name high low ++ bytes_of ws
select_bytes name high low ws =
    sym (append_assoc (name ++ codes "[" ++ decimal high ++ codes ":" ++ decimal low) (codes "]") (bytes_of ws)
    ∙ four name (codes "[") (decimal high) (codes ":") (decimal low) (codes "]" ++ bytes_of ws))
  where
    four : (a b c d e x : List ℕ) → a ++ b ++ c ++ d ++ e ++ x ≡ a ++ (b ++ (c ++ (d ++ (e ++ x))))
    four a b c d e x = simp append_assoc refl

widening_bytes : (name : List ℕ) (by bit : ℕ) (ws : List Written) → bytes_of (widening_parts name by bit ++ ws) ≡ widening_text name by bit ++ bytes_of ws
widening_bytes name by bit ws =
    ap (λ z. codes "{{" ++ (decimal by ++ (123 ∷ z))) (select_bytes name bit bit (symbol (codes "}") [] ∷ symbol (codes "}") [] ∷ symbol (codes ",") (codes " ") ∷ named name [] ∷ symbol (codes "}") [] ∷ ws))
    ∙ sym (seven (codes "{{") (decimal by) (codes "{") (part_text name bit bit) (codes "}}, ") name (codes "}") (bytes_of ws))
  where
    seven : (a b c d e f g x : List ℕ) → a ++ b ++ c ++ d ++ e ++ f ++ g ++ x ≡ a ++ (b ++ (c ++ (d ++ (e ++ (f ++ (g ++ x))))))
    seven a b c d e f g x = simp append_assoc refl

operation_bytes : (widths : Widths) (o : Operation) (ws : List Written) → bytes_of (operation_parts widths o ++ ws) ≡ operation_text widths o ++ bytes_of ws
operation_bytes widths (operation.Plain x) ws = operand_bytes x [] ws
operation_bytes widths (operation.Binary x s y) ws =
    operand_bytes x (codes " ") (symbol (spelling s) (codes " ") ∷ operand_part y [] ∷ ws)
    ∙ ap (λ z. operand_text x ++ (32 ∷ (spelling s ++ (32 ∷ z)))) (operand_bytes y [] ws) ∙ sym (three_bytes (operand_text x) s (operand_text y) (bytes_of ws))
operation_bytes widths (operation.Signed x s y) ws =
    signed_bytes x (codes " ") (symbol (spelling s) (codes " ") ∷ signed_parts y [] ++ ws)
    ∙ ap (λ z. signed_text x ++ (32 ∷ (spelling s ++ (32 ∷ z)))) (signed_bytes y [] ws) ∙ sym (three_bytes (signed_text x) s (signed_text y) (bytes_of ws))
operation_bytes widths (operation.Choose c x y) ws =
    operand_bytes c (codes " ") (symbol (codes "?") (codes " ") ∷ operand_part x (codes " ") ∷ symbol (codes ":") (codes " ") ∷ operand_part y [] ∷ ws)
    ∙ ap (λ z. operand_text c ++ (32 ∷ 63 ∷ 32 ∷ z)) (operand_bytes x (codes " ") (symbol (codes ":") (codes " ") ∷ operand_part y [] ∷ ws)
    ∙ ap (λ z. operand_text x ++ (32 ∷ 58 ∷ 32 ∷ z)) (operand_bytes y [] ws))
    ∙ sym (choice (operand_text c) (operand_text x) (operand_text y) (bytes_of ws))
  where
    choice : (c x y rest : List ℕ) → c ++ codes " ? " ++ x ++ codes " : " ++ y ++ rest ≡ c ++ (32 ∷ 63 ∷ 32 ∷ (x ++ (32 ∷ 58 ∷ 32 ∷ (y ++ rest))))
    choice c x y rest = five c (codes " ? ") x (codes " : ") y rest
operation_bytes widths (operation.Part name high low) ws = select_bytes name high low ws
operation_bytes widths (operation.Widen name by) ws = widening_bytes name by (widths name - 1) ws

drive_bytes : (widths : Widths) (d : Drive) (ws : List Written) → bytes_of (drive_onto widths d ws) ≡ drive_line widths d ++ bytes_of ws
drive_bytes widths d ws =
    ap (λ z. codes "  assign " ++ (d.target ++ (32 ∷ 61 ∷ 32 ∷ z))) (operation_bytes widths d.operation (end_of_line ∷ ws))
    ∙ sym (five (codes "  assign ") d.target (codes " = ") (operation_text widths d.operation) (codes ";\n") (bytes_of ws))

drives_bytes : (widths : Widths) (drives : List Drive) (ws : List Written) → bytes_of (drives_onto widths drives ws) ≡ flat_map (drive_line widths) drives ++ bytes_of ws
drives_bytes widths [] ws = refl
drives_bytes widths (d ∷ drives) ws =
    drive_bytes widths d (drives_onto widths drives ws) ∙ ap (λ z. drive_line widths d ++ z) (drives_bytes widths drives ws) ∙ sym (append_assoc (drive_line widths d) (flat_map (drive_line widths) drives) (bytes_of ws))

assignment_bytes : (register text x : List ℕ) → assignment_text register text ++ x ≡ register ++ (32 ∷ 60 ∷ 61 ∷ 32 ∷ (text ++ x))
assignment_bytes register text x = append_assoc (register ++ codes " <= ") text x ∙ append_assoc register (codes " <= ") (text ++ x)

step_bytes : (registers : List Port) (s : Step) (ws : List Written) → bytes_of (step_onto (width_in registers s.register) s ws) ≡ step_line registers s ++ bytes_of ws
unfolding edge_text
step_bytes registers s ws =
    sym (five edge_text first (codes "; else ") second (codes ";\n") (bytes_of ws)
    ∙ ap (λ z. edge_text ++ z) (assignment_bytes s.register (reset_text registers s) (codes "; else " ++ (second ++ (59 ∷ 10 ∷ bytes_of ws)))
    ∙ ap (λ z. s.register ++ (32 ∷ 60 ∷ 61 ∷ 32 ∷ (z ++ (codes "; else " ++ (second ++ (59 ∷ 10 ∷ bytes_of ws)))))) (literal_bytes (width_in registers s.register) s.reset)
    ∙ ap (λ z. s.register ++ (32 ∷ 60 ∷ 61 ∷ 32 ∷ (decimal (width_in registers s.register) ++ (39 ∷ 100 ∷ decimal s.reset) ++ (codes "; else " ++ z))))
    (assignment_bytes s.register (operand_text s.next) (59 ∷ 10 ∷ bytes_of ws)
    ∙ ap (λ z. s.register ++ (32 ∷ 60 ∷ 61 ∷ 32 ∷ z)) (sym (operand_bytes s.next [] (end_of_line ∷ ws))))))
  where
    first : List ℕ
    first = assignment_text s.register (reset_text registers s)

    second : List ℕ
    second = assignment_text s.register (operand_text s.next)

steps_bytes : (registers : List Port) (steps : List Step) (ws : List Written) → bytes_of (steps_onto registers steps ws) ≡ flat_map (step_line registers) steps ++ bytes_of ws
steps_bytes registers [] ws = refl
steps_bytes registers (s ∷ steps) ws =
    step_bytes registers s (steps_onto registers steps ws) ∙ ap (λ z. step_line registers s ++ z) (steps_bytes registers steps ws)
    ∙ sym (append_assoc (step_line registers s) (flat_map (step_line registers) steps) (bytes_of ws))

-- ---- instances

link_bytes : (port : Port) (o : Operand) (after : List ℕ) (ws : List Written) → bytes_of (link_onto (record { port = port.name; operand = o }) after ws) ≡ link_text port o ++ (after ++ bytes_of ws)
link_bytes port o after ws =
    ap (λ z. codes "." ++ (port.name ++ (40 ∷ z))) (operand_bytes o [] (symbol (codes ")") after ∷ ws))
    ∙ sym (four (codes ".") port.name (codes "(") (operand_text o) (codes ")") (after ++ bytes_of ws))
  where
    four : (a b c d e x : List ℕ) → a ++ b ++ c ++ d ++ e ++ x ≡ a ++ (b ++ (c ++ (d ++ (e ++ x))))
    four a b c d e x = simp append_assoc refl

-- links behind commas, of lists that are joined
links_bytes : (ports : List Port) (operands : List Operand) (more : List PortLink) (texts : List (List ℕ)) (ws : List Written) → bytes_of (links_onto more ws) ≡ behind_commas texts ++ bytes_of ws
    → bytes_of (links_onto (links_said ports operands ++ more) ws) ≡ behind_commas (link_texts ports operands ++ texts) ++ bytes_of ws
links_bytes [] operands more texts ws h = h
links_bytes (port ∷ ports) [] more texts ws h = h
links_bytes (port ∷ ports) (o ∷ operands) more texts ws h =
    ap (λ z. 44 ∷ 32 ∷ z) (link_bytes port o [] (links_onto (links_said ports operands ++ more) ws) ∙ ap (λ z. link_text port o ++ z) (links_bytes ports operands more texts ws h))
    ∙ sym (append_assoc (codes ", " ++ link_text port o) (behind_commas (link_texts ports operands ++ texts)) (bytes_of ws) ∙ append_assoc (codes ", ") (link_text port o) (behind_commas (link_texts ports operands ++ texts) ++ bytes_of ws))

none_more : (ws : List Written) → bytes_of (links_onto [] ws) ≡ behind_commas [] ++ bytes_of ws
none_more ws = refl

-- and all of them
others_bytes : (others : List Port) (names : List Operand) (ws : List Written) → bytes_of (all_links_onto (links_said others names) ws) ≡ joined (link_texts others names) ++ bytes_of ws
others_bytes [] names ws = refl
others_bytes (port ∷ others) [] ws = refl
others_bytes (port ∷ others) (o ∷ names) ws =
    link_bytes port o [] (links_onto (links_said others names) ws)
    ∙ ap (λ z. link_text port o ++ z) (ap (λ z. bytes_of (links_onto z ws)) (sym (append-nil (links_said others names))) ∙ links_bytes others names [] [] ws refl ∙ ap (λ z. behind_commas z ++ bytes_of ws) (append-nil (link_texts others names)))
    ∙ sym (append_assoc (link_text port o) (behind_commas (link_texts others names)) (bytes_of ws))

all_links_bytes : (ports : List Port) (operands : List Operand) (others : List Port) (names : List Operand) (ws : List Written)
    → bytes_of (all_links_onto (links_said ports operands ++ links_said others names) ws) ≡ joined (link_texts ports operands ++ link_texts others names) ++ bytes_of ws
all_links_bytes [] operands others names ws = others_bytes others names ws
all_links_bytes (port ∷ ports) [] others names ws = others_bytes others names ws
all_links_bytes (port ∷ ports) (o ∷ operands) others names ws =
    link_bytes port o [] (links_onto (links_said ports operands ++ links_said others names) ws)
    ∙ ap (λ z. link_text port o ++ z) (links_bytes ports operands (links_said others names) (link_texts others names) ws
    (ap (λ z. bytes_of (links_onto z ws)) (sym (append-nil (links_said others names))) ∙ links_bytes others names [] [] ws refl ∙ ap (λ z. behind_commas z ++ bytes_of ws) (append-nil (link_texts others names))))
    ∙ sym (append_assoc (link_text port o) (behind_commas (link_texts ports operands ++ link_texts others names)) (bytes_of ws))

instance_bytes : (kinds : List CellKind) (i : Instance) (ws : List Written) → bytes_of (instance_onto (instance_said kinds i) ws) ≡ instance_line kinds i ++ bytes_of ws
instance_bytes kinds i ws =
    let kind = kind_of kinds i in
    ap (λ z. codes "  " ++ (kind.name ++ (32 ∷ (i.name ++ (32 ∷ 40 ∷ z))))) (all_links_bytes kind.inputs i.inputs kind.outputs (map operand.Name i.outputs) (symbol (codes ")") [] ∷ end_of_line ∷ ws))
    ∙ sym (seven (codes "  ") kind.name (codes " ") i.name (codes " (") (links_text kind i) (codes ");\n") (bytes_of ws))
  where
    seven : (a b c d e f g x : List ℕ) → a ++ b ++ c ++ d ++ e ++ f ++ g ++ x ≡ a ++ (b ++ (c ++ (d ++ (e ++ (f ++ (g ++ x))))))
    seven a b c d e f g x = simp append_assoc refl

instances_bytes : (kinds : List CellKind) (instances : List Instance) (ws : List Written) → bytes_of (instances_onto kinds instances ws) ≡ flat_map (instance_line kinds) instances ++ bytes_of ws
instances_bytes kinds [] ws = refl
instances_bytes kinds (i ∷ instances) ws =
    instance_bytes kinds i (instances_onto kinds instances ws) ∙ ap (λ z. instance_line kinds i ++ z) (instances_bytes kinds instances ws)
    ∙ sym (append_assoc (instance_line kinds i) (flat_map (instance_line kinds) instances) (bytes_of ws))

-- ---- kinds

directed_bytes : (direction : List ℕ) (port : Port) (ws : List Written) → bytes_of (directed_onto direction port ws) ≡ directed_text direction port ++ bytes_of ws
directed_bytes direction port ws =
    sym (four direction (codes " ") (range_text port.width) (codes " ") port.name (bytes_of ws) ∙ ap (λ z. direction ++ (32 ∷ z)) (range_bytes port.width (32 ∷ (port.name ++ bytes_of ws))))
  where
    four : (a b c d e x : List ℕ) → a ++ b ++ c ++ d ++ e ++ x ≡ a ++ (b ++ (c ++ (d ++ (e ++ x))))
    four a b c d e x = simp append_assoc refl

-- a port behind a comma
comma_bytes : (direction : List ℕ) (port : Port) (rest : List ℕ) → port_text direction port ++ rest ≡ codes ", " ++ (directed_text direction port ++ rest)
comma_bytes direction port rest = chain (codes ", ") direction (codes " ") (range_text port.width) (codes " ") port.name rest
  where
    chain : (c d s r t n x : List ℕ) → c ++ d ++ s ++ r ++ t ++ n ++ x ≡ c ++ ((d ++ s ++ r ++ t ++ n) ++ x)
    chain c d s r t n x = simp append_assoc refl

ports_behind : (direction : List ℕ) (ports : List Port) → flat_map (port_text direction) ports ≡ behind_commas (map (directed_text direction) ports)
ports_behind direction [] = refl
ports_behind direction (port ∷ ports) =
    comma_bytes direction port (flat_map (port_text direction) ports) ∙ ap (λ z. codes ", " ++ (directed_text direction port ++ z)) (ports_behind direction ports)
    ∙ sym (append_assoc (codes ", ") (directed_text direction port) (behind_commas (map (directed_text direction) ports)))

outputs_bytes : (first : Port) (later : List Port) (ws : List Written) → bytes_of (outputs_onto (first ∷ later) ws) ≡ joined (map (directed_text (codes "output")) (first ∷ later)) ++ bytes_of ws
outputs_bytes first later ws =
    directed_bytes (codes "output") first (ports_onto (codes "output") later ws)
    ∙ ap (λ z. directed_text (codes "output") first ++ z) (ports_bytes (codes "output") later ws ∙ ap (λ z. z ++ bytes_of ws) (ports_behind (codes "output") later))
    ∙ sym (append_assoc (directed_text (codes "output") first) (behind_commas (map (directed_text (codes "output")) later)) (bytes_of ws))

-- texts with a comma behind each of the first ones
joined_more : (text first : List ℕ) (texts later : List (List ℕ)) → joined (text ∷ (texts ++ first ∷ later)) ≡ (text ++ codes ", ") ++ joined (texts ++ first ∷ later)
joined_more text first [] later = sym (append_assoc text (codes ", ") (first ++ behind_commas later)) ∙ ap (λ z. z) refl
joined_more text first (other ∷ texts) later = ap (λ z. text ++ z) (append_assoc (codes ", ") other (behind_commas (texts ++ first ∷ later))) ∙ sym (append_assoc text (codes ", ") (other ++ behind_commas (texts ++ first ∷ later)))

kind_ports_bytes : (inputs : List Port) (first : Port) (later : List Port) (ws : List Written)
    → bytes_of (inputs_onto inputs (outputs_onto (first ∷ later) ws)) ≡ joined (map (directed_text (codes "input")) inputs ++ map (directed_text (codes "output")) (first ∷ later)) ++ bytes_of ws
kind_ports_bytes [] first later ws = outputs_bytes first later ws
kind_ports_bytes (port ∷ inputs) first later ws =
    let input = directed_text (codes "input") in
    let output = directed_text (codes "output") in
    let rest = joined (map input inputs ++ map output (first ∷ later)) in
    directed_bytes (codes "input") port (symbol (codes ",") (codes " ") ∷ inputs_onto inputs (outputs_onto (first ∷ later) ws))
    ∙ ap (λ z. directed_text (codes "input") port ++ (44 ∷ 32 ∷ z)) (kind_ports_bytes inputs first later ws)
    ∙ sym (ap (λ z. z ++ bytes_of ws) (joined_more (directed_text (codes "input") port) (directed_text (codes "output") first) (map (directed_text (codes "input")) inputs) (map (directed_text (codes "output")) later))
    ∙ append_assoc (directed_text (codes "input") port ++ codes ", ") rest (bytes_of ws) ∙ append_assoc (directed_text (codes "input") port) (codes ", ") (rest ++ bytes_of ws))

kind_body_bytes : (kind : CellKind) (ws : List Written) → bytes_of (kind_body_onto kind ws) ≡ flat_map (declaration_line (codes "wire")) kind.wires ++ (flat_map (drive_line (written_width (kind_module kind))) kind.drives ++ (codes "endmodule\n" ++ bytes_of ws))
kind_body_bytes kind ws =
    declarations_bytes (codes "wire") kind.wires (drives_onto (written_width (kind_module kind)) kind.drives (word (codes "endmodule") (codes "\n") ∷ ws))
    ∙ ap (λ z. flat_map (declaration_line (codes "wire")) kind.wires ++ z) (drives_bytes (written_width (kind_module kind)) kind.drives (word (codes "endmodule") (codes "\n") ∷ ws))

kind_bytes : (kind : CellKind) (ws : List Written) → 1 ≤ length kind.outputs → bytes_of (kind_onto kind ws) ≡ kind_text kind ++ bytes_of ws
kind_bytes kind ws some = go kind.outputs refl
  where
    eight : (a b c d e w r l x : List ℕ) → (a ++ b ++ c ++ d ++ e) ++ w ++ r ++ l ++ x ≡ a ++ (b ++ (c ++ (d ++ (e ++ (w ++ (r ++ (l ++ x)))))))
    eight a b c d e w r l x = simp append_assoc refl

    go : (outputs : List Port) → kind.outputs ≡ outputs → bytes_of (kind_onto kind ws) ≡ kind_text kind ++ bytes_of ws
    go [] e = absurd (omega (arith, ap length e))
    go (first ∷ later) e =
        let input = map (directed_text (codes "input")) kind.inputs in
        let ports : bytes_of (inputs_onto kind.inputs (outputs_onto kind.outputs (symbol (codes ")") [] ∷ end_of_line ∷ kind_body_onto kind ws))) ≡ joined (map (directed_text (codes "input")) kind.inputs ++ map (directed_text (codes "output")) kind.outputs) ++ (codes ");\n" ++ bytes_of (kind_body_onto kind ws)) =
        subst (λ (outputs : List Port). bytes_of (inputs_onto kind.inputs (outputs_onto outputs (symbol (codes ")") [] ∷ end_of_line ∷ kind_body_onto kind ws))) ≡ joined (map (directed_text (codes "input")) kind.inputs ++ map (directed_text (codes "output")) outputs) ++ (codes ");\n" ++ bytes_of (kind_body_onto kind ws)))
        (sym e) (kind_ports_bytes kind.inputs first later (symbol (codes ")") [] ∷ end_of_line ∷ kind_body_onto kind ws)) in
        ap (λ z. codes "module " ++ (kind.name ++ (40 ∷ z))) (ports ∙ ap (λ z. joined (map (directed_text (codes "input")) kind.inputs ++ map (directed_text (codes "output")) kind.outputs) ++ (codes ");\n" ++ z)) (kind_body_bytes kind ws))
        ∙ sym (eight (codes "module ") kind.name (codes "(") (joined (map (directed_text (codes "input")) kind.inputs ++ map (directed_text (codes "output")) kind.outputs)) (codes ");\n")
        (flat_map (declaration_line (codes "wire")) kind.wires) (flat_map (drive_line (written_width (kind_module kind))) kind.drives) (codes "endmodule\n") (bytes_of ws))

pub kinds_bytes : (kinds : List CellKind) (ws : List Written) → AllByRecursion (λ kind. 1 ≤ length kind.outputs) kinds → bytes_of (kinds_onto kinds ws) ≡ flat_map kind_text kinds ++ bytes_of ws
kinds_bytes [] ws some = refl
kinds_bytes (kind ∷ kinds) ws some =
    kind_bytes kind (kinds_onto kinds ws) some.0 ∙ ap (λ z. kind_text kind ++ z) (kinds_bytes kinds ws some.1) ∙ sym (append_assoc (kind_text kind) (flat_map kind_text kinds) (bytes_of ws))

-- ---- the top

eleven : (h n c i o e w r u d s l : List ℕ) → (h ++ n ++ c ++ (i ++ o) ++ e) ++ (w ++ r) ++ u ++ (d ++ s) ++ l ≡ h ++ (n ++ (c ++ (i ++ (o ++ (e ++ (w ++ (r ++ (u ++ (d ++ (s ++ l))))))))))
eleven h n c i o e w r u d s l = simp append_assoc refl

items_bytes : (m : Module) → bytes_of (items_onto m) ≡ flat_map (drive_line (written_width m)) m.drives ++ (flat_map (step_line m.registers) m.steps ++ codes "endmodule\n")
items_bytes m =
    drives_bytes (written_width m) m.drives (steps_onto m.registers m.steps (word (codes "endmodule") (codes "\n") ∷ []))
    ∙ ap (λ z. flat_map (drive_line (written_width m)) m.drives ++ z) (steps_bytes m.registers m.steps (word (codes "endmodule") (codes "\n") ∷ []))

body_bytes : (kinds : List CellKind) (instances : List Instance) (m : Module)
    → bytes_of (body_onto kinds instances m) ≡ flat_map (declaration_line (codes "wire")) m.wires ++ (flat_map (declaration_line (codes "reg")) m.registers ++ (flat_map (instance_line kinds) instances ++ bytes_of (items_onto m)))
body_bytes kinds instances m =
    declarations_bytes (codes "wire") m.wires (declarations_onto (codes "reg") m.registers (instances_onto kinds instances (items_onto m)))
    ∙ ap (λ z. flat_map (declaration_line (codes "wire")) m.wires ++ z) (declarations_bytes (codes "reg") m.registers (instances_onto kinds instances (items_onto m))
    ∙ ap (λ z. flat_map (declaration_line (codes "reg")) m.registers ++ z) (instances_bytes kinds instances (items_onto m)))

pub top_bytes : (plan : Plan) → bytes_of (top_parts plan.kinds plan.instances plan.top) ≡ top_text plan
unfolding clocked_text
top_bytes plan =
    let m = plan.top in
    let closed = closed_onto plan.kinds plan.instances m in
    ap (λ z. codes "module " ++ (m.name ++ (clocked_text ++ z)))
    (ports_bytes (codes "input") m.inputs (ports_onto (codes "output") m.outputs closed)
    ∙ ap (λ z. flat_map (port_text (codes "input")) m.inputs ++ z) (ports_bytes (codes "output") m.outputs closed
    ∙ ap (λ z. flat_map (port_text (codes "output")) m.outputs ++ (codes ");\n" ++ z)) (body_bytes plan.kinds plan.instances m
    ∙ ap (λ z. flat_map (declaration_line (codes "wire")) m.wires ++ (flat_map (declaration_line (codes "reg")) m.registers ++ (flat_map (instance_line plan.kinds) plan.instances ++ z))) (items_bytes m))))
    ∙ sym (eleven (codes "module ") m.name clocked_text (flat_map (port_text (codes "input")) m.inputs) (flat_map (port_text (codes "output")) m.outputs) (codes ");\n")
    (flat_map (declaration_line (codes "wire")) m.wires) (flat_map (declaration_line (codes "reg")) m.registers) (flat_map (instance_line plan.kinds) plan.instances)
    (flat_map (drive_line (written_width m)) m.drives) (flat_map (step_line m.registers) m.steps) (codes "endmodule\n"))

-- kinds and top
pub plan_bytes : (plan : Plan) → AllByRecursion (λ kind. 1 ≤ length kind.outputs) plan.kinds → bytes_of (plan_parts plan) ≡ flat_map kind_text plan.kinds ++ top_text plan
plan_bytes plan some = kinds_bytes plan.kinds (top_parts plan.kinds plan.instances plan.top) some ∙ ap (λ z. flat_map kind_text plan.kinds ++ z) (top_bytes plan)

-- a module alone
pub module_bytes : (listing : Listing) (m : Module) → bytes_of (plan_parts (alone listing m)) ≡ module_text m
unfolding module_text
module_bytes listing m = top_bytes (alone listing m) ∙ ap (λ z. z ++ items_text m ++ codes "endmodule\n") (append-nil (header_line m ++ declarations_text m))
