-- The tokens of a written plan say that plan.
use Rattle.std.proofs.Common.{◌≡◌, ◌≢◌, ℕ, ◌-◌, ◌≤◌, List, [], ◌∷◌, ◌++◌, map, length, refl, sym, subst, ◌∙◌, arith}
use Rattle.std.specs.Prelude.{codes, decimal}
use Rattle.std.specs.List.{AllByRecursion}
use Rattle.std.proofs.lemmas.List.Elements.{recursion_from_All}
use Rattle.av_base.specs.declared.place.Place.{Place}
use Rattle.av_base.specs.declared.width.Width.{Width}
use Rattle.av_base.specs.Words.{IsWord}
use Rattle.av_net.specs.declared.token_kind.DesignTokenKind.TheVariants as kind
use Rattle.av_net.specs.declared.operation.Operand.{Operand}
use Rattle.av_net.specs.declared.operation.Operand.TheVariants as operand
use Rattle.av_net.specs.declared.operation.Operation.{Operation}
use Rattle.av_net.specs.declared.operation.Operation.TheVariants as operation
use Rattle.av_net.specs.declared.netlist.Port.{Port}
use Rattle.av_net.specs.declared.netlist.Drive.{Drive}
use Rattle.av_net.specs.declared.netlist.Step.{Step}
use Rattle.av_net.specs.declared.plan.CellKind.{CellKind}
use Rattle.av_net.specs.declared.plan.Instance.{Instance}
use Rattle.av_net.specs.declared.plan.Plan.{Plan}
use Rattle.av_net.specs.Meaning.{Widths, EachOperand}
use Rattle.av_net.specs.Names.{clk, rst, width_in}
use Rattle.av_net.specs.Sound.{ComparesByOrder}
use Rattle.av_net.specs.Texts.{written_width}
use Rattle.av_net.specs.Flat.{kind_module}
use Rattle.av_net.specs.Lexemes.{Token}
use Rattle.av_net.specs.Grammar.{wire, register, PortLink, Item, drive, widening, instance, AreWords, no_word, next_word, IsWordAt, IsNameAt, name, number, IsLiteral, literal, end, IsRange, range, IsPort, IsDeclaration, wire_declaration, register_declaration, IsPart, IsWidening, IsOperand, named, constant, spelling, IsSigned, IsOperation, plain, binary, signed, choice, selection, IsEdge, AreMany, no_more, one_more, IsLink, IsNextLink, IsItem, at_an_edge, instantiation, IsKindInput, IsKindDeclaration, kind_wire, IsKindItem, kind_assignment, kind_wide_assignment, IsClockFirst, IsKind, IsClocked, IsTop, IsText}
use Rattle.av_net.proofs.Said.{said_by, drive_said, kind_said, width_for, width_for_is, step_said, instance_said, top_said, plan_said}
use Rattle.av_vread.specs.SpelledParts.{IsOperandSpelled, HasBitsSpelled, IsDriveSpelled, IsStepSpelled, IsInstanceSpelled, IsKindSpelled, IsPlanSpelled}
use Rattle.av_vread.proofs.Numerals.{number_value}
use Rattle.av_vparse.proofs.Sound.{any_item}
use Rattle.av_vparse.proofs.Spaced.{Written, past, passed, tokens_from}
use Rattle.av_vread.proofs.Spelled.{word_small, AreNarrow, narrow, IsLinkSpelled, instance_spelled}
use Rattle.av_vread.proofs.WrittenParts as part
use Rattle.av_vread.proofs.WrittenParts.{operand_part, range_parts, port_parts, ports_onto, end_of_line, declaration_parts, declarations_onto, select_parts, widening_parts, signed_parts, operation_parts, drive_onto, drives_onto, edge_parts, otherwise_onto, becomes_onto, step_onto, steps_onto, link_onto, links_onto, instance_onto, instances_onto, directed_onto, inputs_onto, outputs_onto, kind_body_onto, kind_onto, kinds_onto, clocked_parts, items_onto, body_onto, closed_onto, top_parts, plan_parts}
use Rattle.av_vparse.proofs.BeginningLists.{many_append}
use Rattle.av_vparse.proofs.BeginningTexts.{output_first}
use Rattle.av_base.proofs.Digits.{number_digits}

-- ---- tokens that are no names

no_reserved : kind.Reserved ≢ kind.Name
no_reserved e = cc

no_symbol : kind.Symbol ≢ kind.Name
no_symbol e = cc

no_system : kind.System ≢ kind.Name
no_system e = cc

-- a digit is no name
no_number : kind.Number ≢ kind.Name
no_number e = cc

-- ---- declarations

-- tokens of a part, and then those of the rest from some place on
pub record Then (Is : List Token → List Token → Type 0) (ts : List Token) (rest : List Written) : Type 0 where
  pub place : Place
  pub is : Is ts (tokens_from place rest)

range_at : (p : Place) (width : Width) (ws : List Written) → IsRange (tokens_from p (range_parts width ++ ws)) (tokens_from (passed p (range_parts width)) ws) width
range_at p width ws =
    let most = width.most in
    let least = width.least in
    range (next_word no_symbol refl no_word) (number refl (number_value (width.bits - 1) (omega arith))) (omega arith)
    (next_word no_symbol refl (next_word no_number refl (next_word no_symbol refl no_word))) (omega arith)

port_at : {words : List (List ℕ)} {ts a b rest : List Token} {port : Port} → AreWords words ts a → IsRange a b port.width → IsNameAt b rest port.name → IsPort words ts rest port
port_at {a = a} {b = b} w r n = record { a = a; b = b; words_first = w; range = r; name = n }

port_is : (p : Place) (direction : List ℕ) (port : Port) (ws : List Written)
    → IsPort (codes "," ∷ direction ∷ []) (tokens_from p (port_parts direction port ++ ws)) (tokens_from (passed p (port_parts direction port)) ws) port
port_is p direction port ws =
    port_at (next_word no_symbol refl (next_word no_reserved refl no_word))
    (range_at (past (past p (part.symbol (codes ",") (codes " "))) (part.word direction (codes " "))) port.width (part.named port.name [] ∷ ws)) (name refl refl)

ports_are : (p : Place) (direction : List ℕ) (ports : List Port) (ws : List Written)
    → Then (λ ts rest. AreMany (IsPort (codes "," ∷ direction ∷ [])) ts rest ports) (tokens_from p (ports_onto direction ports ws)) ws
ports_are p direction [] ws = record { place = p; is = no_more }
ports_are p direction (port ∷ ports) ws =
    let more = ports_are (passed p (port_parts direction port)) direction ports ws in
    record { place = more.place; is = one_more (port_is p direction port (ports_onto direction ports ws)) more.is }

kind_port : (p : Place) (word : List ℕ) (port : Port) (ws : List Written)
    → IsPort (word ∷ []) (tokens_from p (declaration_parts word port ++ ws)) (tokens_from (passed (past p (part.indented word)) (range_parts port.width ++ (part.named port.name [] ∷ []))) (end_of_line ∷ ws)) port
kind_port p word port ws =
    port_at (next_word no_reserved refl no_word) (range_at (past p (part.indented word)) port.width (part.named port.name [] ∷ end_of_line ∷ ws)) (name refl refl)

wires_are : (p : Place) (ports : List Port) (ws : List Written) → Then (λ ts rest. AreMany IsDeclaration ts rest (map wire ports)) (tokens_from p (declarations_onto (codes "wire") ports ws)) ws
wires_are p [] ws = record { place = p; is = no_more }
wires_are p (port ∷ ports) ws =
    let more = wires_are (passed p (declaration_parts (codes "wire") port)) ports ws in
    record { place = more.place; is = one_more (wire_declaration (kind_port p (codes "wire") port (declarations_onto (codes "wire") ports ws)) (next_word no_symbol refl no_word)) more.is }

registers_are : (p : Place) (ports : List Port) (ws : List Written) → Then (λ ts rest. AreMany IsDeclaration ts rest (map register ports)) (tokens_from p (declarations_onto (codes "reg") ports ws)) ws
registers_are p [] ws = record { place = p; is = no_more }
registers_are p (port ∷ ports) ws =
    let more = registers_are (passed p (declaration_parts (codes "reg") port)) ports ws in
    record { place = more.place; is = one_more (register_declaration (kind_port p (codes "reg") port (declarations_onto (codes "reg") ports ws)) (next_word no_symbol refl no_word)) more.is }

-- ---- operands

literal_is : (width : Width) (value : ℕ) → IsWord width.bits value → IsLiteral (decimal width.bits ++ (39 ∷ 100 ∷ decimal value)) width value
literal_is width value h =
    let most = width.most in
    record {
      sized = record { size = decimal width.bits; digits = decimal value; spelled = refl; sized = number_digits width.bits (omega arith); valued = number_digits value (word_small width value h) };
      is_width = number_value width.bits (omega arith);
      is_value = number_value value (word_small width value h);
      least = width.least;
      most = width.most;
      fits = h;
    }

operand_is : (p : Place) (x : Operand) (after : List ℕ) (ws : List Written) → IsOperandSpelled x → IsOperand (tokens_from p (operand_part x after ∷ ws)) (tokens_from (past p (operand_part x after)) ws) x
operand_is p (operand.Name n) after ws h = named (name refl refl)
operand_is p (operand.Literal width value) after ws h = constant (literal refl (literal_is width value h.2))

signed_is : (p : Place) (x : Operand) (after : List ℕ) (ws : List Written) → IsOperandSpelled x → IsSigned (tokens_from p (signed_parts x after ++ ws)) (tokens_from (passed p (signed_parts x after)) ws) x
signed_is p x after ws h =
    let q = past (past p part.system) (part.symbol (codes "(") []) in
    record {
      a = tokens_from q (operand_part x [] ∷ part.symbol (codes ")") after ∷ ws);
      b = tokens_from (past q (operand_part x [])) (part.symbol (codes ")") after ∷ ws);
      opens = next_word no_system refl (next_word no_symbol refl no_word);
      operand_in = operand_is q x [] (part.symbol (codes ")") after ∷ ws) h;
      closes = next_word no_symbol refl no_word;
    }

-- `name[high:low]`
select_is : (p : Place) (text : List ℕ) (high low : ℕ) (ws : List Written) → high ≤ 63 → low ≤ high → IsPart (tokens_from p (select_parts text high low ++ ws)) (tokens_from (passed p (select_parts text high low)) ws) text high low
select_is p text high low ws most within = record {
  a = _;
  b = _;
  c = _;
  d = _;
  e = _;
  named = name refl refl;
  opens = next_word no_symbol refl no_word;
  first = number refl (number_value high (omega arith));
  most = most;
  between = next_word no_symbol refl no_word;
  second = number refl (number_value low (omega arith));
  within = within;
  closes = next_word no_symbol refl no_word;
}

-- `{{by{name[bit:bit]}}, name}`
widening_is : (p : Place) (text : List ℕ) (by bit : ℕ) (ws : List Written) → 1 ≤ by → by ≤ 63 → bit ≤ 63
    → IsWidening (tokens_from p (widening_parts text by bit ++ ws)) (tokens_from (passed p (widening_parts text by bit)) ws) text by bit
widening_is p text by bit ws least most fits = record {
  a = _;
  b = _;
  c = _;
  d = _;
  e = _;
  f = _;
  opens = next_word no_symbol refl (next_word no_symbol refl no_word);
  copies = number refl (number_value by (omega arith));
  least = least;
  most = most;
  begins = next_word no_symbol refl no_word;
  selected = select_is (past (past (past (past p (part.symbol (codes "{") [])) (part.symbol (codes "{") [])) (part.number (decimal by))) (part.symbol (codes "{") [])) text bit bit
      (part.symbol (codes "}") [] ∷ part.symbol (codes "}") [] ∷ part.symbol (codes ",") (codes " ") ∷ part.named text [] ∷ part.symbol (codes "}") [] ∷ ws) fits (omega arith);
  between = next_word no_symbol refl (next_word no_symbol refl (next_word no_symbol refl no_word));
  again = name refl refl;
  closes = next_word no_symbol refl no_word;
}

-- all operations but widenings
abbrev IsNarrow : Operation → Type 0
IsNarrow (operation.Widen text by) = ⊥
IsNarrow (operation.Plain x) = Unit {0}
IsNarrow (operation.Binary x s y) = Unit {0}
IsNarrow (operation.Signed x s y) = Unit {0}
IsNarrow (operation.Choose c x y) = Unit {0}
IsNarrow (operation.Part text high low) = Unit {0}

operation_is : (p : Place) (widths : Widths) (o : Operation) (ws : List Written) → IsNarrow o → EachOperand IsOperandSpelled o → HasBitsSpelled o → ComparesByOrder o → IsOperation (tokens_from p (operation_parts widths o ++ ws)) (tokens_from (passed p (operation_parts widths o)) ws) o
operation_is p widths (operation.Plain x) ws own h bits k = plain (operand_is p x [] ws h)
operation_is p widths (operation.Binary x s y) ws own h bits k =
    binary (operand_is p x (codes " ") (part.symbol (spelling s) (codes " ") ∷ operand_part y [] ∷ ws) h.0) (next_word no_symbol refl no_word)
    (operand_is (past (past p (operand_part x (codes " "))) (part.symbol (spelling s) (codes " "))) y [] ws h.1)
operation_is p widths (operation.Signed x s y) ws own h bits k =
    let q = passed p (signed_parts x (codes " ")) in
    signed (signed_is p x (codes " ") (part.symbol (spelling s) (codes " ") ∷ signed_parts y [] ++ ws) h.0) k (next_word no_symbol refl no_word)
    (signed_is (past q (part.symbol (spelling s) (codes " "))) y [] ws h.1)
operation_is p widths (operation.Choose c x y) ws own h bits k =
    let q = past (past p (operand_part c (codes " "))) (part.symbol (codes "?") (codes " ")) in
    let r = past (past q (operand_part x (codes " "))) (part.symbol (codes ":") (codes " ")) in
    choice (operand_is p c (codes " ") (part.symbol (codes "?") (codes " ") ∷ operand_part x (codes " ") ∷ part.symbol (codes ":") (codes " ") ∷ operand_part y [] ∷ ws) h.0) (next_word no_symbol refl no_word)
    (operand_is q x (codes " ") (part.symbol (codes ":") (codes " ") ∷ operand_part y [] ∷ ws) h.1) (next_word no_symbol refl no_word) (operand_is r y [] ws h.2)
operation_is p widths (operation.Part text high low) ws own h bits k = selection (select_is p text high low ws bits.1 bits.0)
operation_is p widths (operation.Widen text by) ws own h bits k = absurd own

-- ---- items

-- an `assign`, by what it gives
drive_is : (p : Place) (widths : Widths) (d : Drive) (ws : List Written) → IsNarrow d.operation → IsDriveSpelled d → Then (λ ts rest. IsKindItem ts rest (drive d)) (tokens_from p (drive_onto widths d ws)) ws
drive_is p widths d ws own h =
    let q = past (past (past p (part.indented (codes "assign"))) (part.named d.target (codes " "))) (part.symbol (codes "=") (codes " ")) in
    let r = passed q (operation_parts widths d.operation) in
    record {
      place = past r end_of_line;
      is = kind_assignment {d = d} (record {
        a = tokens_from (past p (part.indented (codes "assign"))) (part.named d.target (codes " ") ∷ part.symbol (codes "=") (codes " ") ∷ (operation_parts widths d.operation ++ (end_of_line ∷ ws)));
        b = tokens_from (past (past p (part.indented (codes "assign"))) (part.named d.target (codes " "))) (part.symbol (codes "=") (codes " ") ∷ (operation_parts widths d.operation ++ (end_of_line ∷ ws)));
        c = tokens_from q (operation_parts widths d.operation ++ (end_of_line ∷ ws));
        e = tokens_from r (end_of_line ∷ ws);
        assigns = next_word no_reserved refl no_word;
        target = name refl refl;
        equals = next_word no_symbol refl no_word;
        operation = operation_is q widths d.operation (end_of_line ∷ ws) own h.operands h.bits h.order;
        ends = next_word no_symbol refl no_word;
      });
    }

wide_is : (p : Place) (widths : Widths) → AreNarrow widths → (target text : List ℕ) (by : ℕ) (ws : List Written) → IsDriveSpelled (record { target = target; operation = operation.Widen text by })
    → Then (λ ts rest. IsKindItem ts rest (widening (widths text - 1) (record { target = target; operation = operation.Widen text by }))) (tokens_from p (drive_onto widths (record { target = target; operation = operation.Widen text by }) ws)) ws
wide_is p widths small target text by ws h =
    let q = past (past (past p (part.indented (codes "assign"))) (part.named target (codes " "))) (part.symbol (codes "=") (codes " ")) in
    let bit = widths text - 1 in
    let r = passed q (widening_parts text by bit) in
    let wide : widths text ≤ 64 = small text in
    record {
      place = past r end_of_line;
      is = kind_wide_assignment {d = record { target = target; operation = operation.Widen text by }} (record {
        a = _;
        b = _;
        c = tokens_from q (widening_parts text by bit ++ (end_of_line ∷ ws));
        e = tokens_from r (end_of_line ∷ ws);
        name = text;
        by = by;
        assigns = next_word no_reserved refl no_word;
        target = name refl refl;
        equals = next_word no_symbol refl no_word;
        widens = widening_is q text by bit (end_of_line ∷ ws) h.bits.0 h.bits.1 (omega arith);
        operation = refl;
        ends = next_word no_symbol refl no_word;
      });
    }

-- as an item of a kind
item_is : (p : Place) (widths : Widths) → AreNarrow widths → (target : List ℕ) (o : Operation) (ws : List Written) → IsDriveSpelled (record { target = target; operation = o })
    → Then (λ ts rest. IsKindItem ts rest (said_by widths (record { target = target; operation = o }) o)) (tokens_from p (drive_onto widths (record { target = target; operation = o }) ws)) ws
item_is p widths small target (operation.Widen text by) ws h = wide_is p widths small target text by ws h
item_is p widths small target (operation.Plain x) ws h = drive_is p widths (record { target = target; operation = operation.Plain x }) ws tt h
item_is p widths small target (operation.Binary x s y) ws h = drive_is p widths (record { target = target; operation = operation.Binary x s y }) ws tt h
item_is p widths small target (operation.Signed x s y) ws h = drive_is p widths (record { target = target; operation = operation.Signed x s y }) ws tt h
item_is p widths small target (operation.Choose c x y) ws h = drive_is p widths (record { target = target; operation = operation.Choose c x y }) ws tt h
item_is p widths small target (operation.Part text high low) ws h = drive_is p widths (record { target = target; operation = operation.Part text high low }) ws tt h

drives_are : (p : Place) (widths : Widths) → AreNarrow widths → (drives : List Drive) (ws : List Written) → AllByRecursion IsDriveSpelled drives → Then (λ ts rest. AreMany IsKindItem ts rest (map (drive_said widths) drives)) (tokens_from p (drives_onto widths drives ws)) ws
drives_are p widths narrow [] ws h = record { place = p; is = no_more }
drives_are p widths narrow (d ∷ drives) ws h =
    let one = item_is p widths narrow d.target d.operation (drives_onto widths drives ws) h.0 in
    let more = drives_are one.place widths narrow drives ws h.1 in
    record { place = more.place; is = one_more one.is more.is }

-- items of a kind are items of a top
any_items : {ts rest : List Token} {items : List Item} → AreMany IsKindItem ts rest items → AreMany IsItem ts rest items
any_items (no_more) = no_more
any_items (one_more i many) = one_more (any_item i) (any_items many)

edge_is : (p : Place) (ws : List Written) → IsEdge (tokens_from p (edge_parts ++ ws)) (tokens_from (passed p edge_parts) ws)
edge_is p ws = record {
  a = _;
  b = _;
  c = _;
  d = _;
  at_edge = next_word no_reserved refl (next_word no_symbol refl (next_word no_symbol refl (next_word no_reserved refl no_word)));
  clock = name refl refl;
  tests = next_word no_symbol refl (next_word no_reserved refl (next_word no_symbol refl no_word));
  reset = name refl refl;
  closes = next_word no_symbol refl no_word;
}

reset_is : (registers : List Port) (s : Step) → IsWord (width_in registers s.register) s.reset
    → IsLiteral (decimal (width_in registers s.register) ++ (39 ∷ 100 ∷ decimal s.reset)) (width_for registers s.register) s.reset
reset_is registers s h =
    let e = width_for_is registers s.register in
    subst (λ b. IsLiteral (decimal b ++ (39 ∷ 100 ∷ decimal s.reset)) (width_for registers s.register) s.reset) e
    (literal_is (width_for registers s.register) s.reset (subst (λ b. IsWord b s.reset) (sym e) h))

step_is : (p : Place) (registers : List Port) (s : Step) (ws : List Written) → IsStepSpelled registers s
    → Then (λ ts rest. IsItem ts rest (step_said registers s)) (tokens_from p (step_onto (width_in registers s.register) s ws)) ws
step_is p registers s ws h =
    let bits = width_in registers s.register in
    let q = passed p edge_parts in
    let r = past (past (past q (part.named s.register (codes " "))) (part.symbol (codes "<=") (codes " "))) (part.literal bits s.reset []) in
    let o = past (past (past (past r (part.symbol (codes ";") (codes " "))) (part.word (codes "else") (codes " "))) (part.named s.register (codes " "))) (part.symbol (codes "<=") (codes " ")) in
    let t = past o (operand_part s.next []) in
    record {
      place = past t end_of_line;
      is = at_an_edge (record {
        a = _;
        b = _;
        c = _;
        d = tokens_from r (otherwise_onto s ws);
        e = _;
        f = _;
        g = tokens_from o (operand_part s.next [] ∷ end_of_line ∷ ws);
        h = tokens_from t (end_of_line ∷ ws);
        at_edge = edge_is p (becomes_onto bits s ws);
        register = name refl refl;
        becomes = next_word no_symbol refl no_word;
        reset = literal refl (reset_is registers s h.reset);
        otherwise = next_word no_symbol refl (next_word no_reserved refl no_word);
        again = name refl refl;
        becomes_too = next_word no_symbol refl no_word;
        next = operand_is o s.next [] (end_of_line ∷ ws) h.next;
        ends = next_word no_symbol refl no_word;
      });
    }

steps_are : (p : Place) (registers : List Port) (steps : List Step) (ws : List Written) → AllByRecursion (IsStepSpelled registers) steps
    → Then (λ ts rest. AreMany IsItem ts rest (map (step_said registers) steps)) (tokens_from p (steps_onto registers steps ws)) ws
steps_are p registers [] ws h = record { place = p; is = no_more }
steps_are p registers (s ∷ steps) ws h =
    let one = step_is p registers s (steps_onto registers steps ws) h.0 in
    let more = steps_are one.place registers steps ws h.1 in
    record { place = more.place; is = one_more one.is more.is }

-- ---- instances

link_is : (p : Place) (link : PortLink) (ws : List Written) → IsLinkSpelled link → Then (λ ts rest. IsLink ts rest link) (tokens_from p (link_onto link [] ws)) ws
link_is p link ws h =
    let q = past (past (past p (part.symbol (codes ".") [])) (part.named link.port [])) (part.symbol (codes "(") []) in
    let r = past q (operand_part link.operand []) in
    record {
      place = past r (part.symbol (codes ")") []);
      is = record {
        a = _;
        b = _;
        c = tokens_from q (operand_part link.operand [] ∷ part.symbol (codes ")") [] ∷ ws);
        d = tokens_from r (part.symbol (codes ")") [] ∷ ws);
        dot = next_word no_symbol refl no_word;
        port = name refl refl;
        opens = next_word no_symbol refl no_word;
        operand = operand_is q link.operand [] (part.symbol (codes ")") [] ∷ ws) h.operand;
        closes = next_word no_symbol refl no_word;
      };
    }

links_are : (p : Place) (links : List PortLink) (ws : List Written) → AllByRecursion IsLinkSpelled links → Then (λ ts rest. AreMany IsNextLink ts rest links) (tokens_from p (links_onto links ws)) ws
links_are p [] ws h = record { place = p; is = no_more }
links_are p (link ∷ links) ws h =
    let one = link_is (past p (part.symbol (codes ",") (codes " "))) link (links_onto links ws) h.0 in
    let more = links_are one.place links ws h.1 in
    record { place = more.place; is = one_more (record { a = _; comma = next_word no_symbol refl no_word; linked = one.is }) more.is }

instance_with : (p : Place) (kind called : List ℕ) (first : PortLink) (later : List PortLink) (ws : List Written) → IsLinkSpelled first → AllByRecursion IsLinkSpelled later
    → Then (λ ts rest. IsItem ts rest (instance (record { kind = kind; name = called; links = first ∷ later }))) (tokens_from p (instance_onto (record { kind = kind; name = called; links = first ∷ later }) ws)) ws
instance_with p kind called first later ws h k =
    let q = past (past (past p (part.kind_part kind)) (part.named called (codes " "))) (part.symbol (codes "(") []) in
    let one = link_is q first (links_onto later (part.symbol (codes ")") [] ∷ end_of_line ∷ ws)) h in
    let more = links_are one.place later (part.symbol (codes ")") [] ∷ end_of_line ∷ ws) k in
    record {
      place = past (past more.place (part.symbol (codes ")") [])) end_of_line;
      is = instantiation {x = record { kind = kind; name = called; links = first ∷ later }} (record {
        a = _;
        b = _;
        c = tokens_from q (link_onto first [] (links_onto later (part.symbol (codes ")") [] ∷ end_of_line ∷ ws)));
        d = tokens_from one.place (links_onto later (part.symbol (codes ")") [] ∷ end_of_line ∷ ws));
        e = tokens_from more.place (part.symbol (codes ")") [] ∷ end_of_line ∷ ws);
        first = first;
        later = later;
        kind = name refl refl;
        name = name refl refl;
        opens = next_word no_symbol refl no_word;
        links_first = one.is;
        links_later = more.is;
        links = refl;
        closes = next_word no_symbol refl (next_word no_symbol refl no_word);
      });
    }

instance_is : (p : Place) (kind called : List ℕ) (links : List PortLink) (ws : List Written) → AllByRecursion IsLinkSpelled links → 1 ≤ length links
    → Then (λ ts rest. IsItem ts rest (instance (record { kind = kind; name = called; links = links }))) (tokens_from p (instance_onto (record { kind = kind; name = called; links = links }) ws)) ws
instance_is p kind called [] ws h some = absurd (omega arith)
instance_is p kind called (first ∷ later) ws h some = instance_with p kind called first later ws h.0 h.1

instances_are : (p : Place) (kinds : List CellKind) → AllByRecursion IsKindSpelled kinds → (instances : List Instance) (ws : List Written) → AllByRecursion (IsInstanceSpelled kinds) instances
    → Then (λ ts rest. AreMany IsItem ts rest (map (λ i. instance (instance_said kinds i)) instances)) (tokens_from p (instances_onto kinds instances ws)) ws
instances_are p kinds k [] ws h = record { place = p; is = no_more }
instances_are p kinds k (i ∷ instances) ws h =
    let x = instance_said kinds i in
    let spelled = instance_spelled kinds k i h.0 in
    let one = instance_is p x.kind x.name x.links (instances_onto kinds instances ws) spelled.links spelled.some in
    let more = instances_are one.place kinds k instances ws h.1 in
    record { place = more.place; is = one_more one.is more.is }

-- ---- kinds

directed_is : (p : Place) (direction : List ℕ) (port : Port) (ws : List Written)
    → IsPort (direction ∷ []) (tokens_from p (directed_onto direction port ws)) (tokens_from (passed (past p (part.word direction (codes " "))) (range_parts port.width ++ (part.named port.name [] ∷ []))) ws) port
directed_is p direction port ws =
    port_at (next_word no_reserved refl no_word) (range_at (past p (part.word direction (codes " "))) port.width (part.named port.name [] ∷ ws)) (name refl refl)

inputs_are : (p : Place) (ports : List Port) (ws : List Written) → Then (λ ts rest. AreMany IsKindInput ts rest ports) (tokens_from p (inputs_onto ports ws)) ws
inputs_are p [] ws = record { place = p; is = no_more }
inputs_are p (port ∷ ports) ws =
    let q = passed (past p (part.word (codes "input") (codes " "))) (range_parts port.width ++ (part.named port.name [] ∷ [])) in
    let more = inputs_are (past q (part.symbol (codes ",") (codes " "))) ports ws in
    record { place = more.place; is = one_more (record { a = _; directed = directed_is p (codes "input") port (part.symbol (codes ",") (codes " ") ∷ inputs_onto ports ws); comma = next_word no_symbol refl no_word }) more.is }

kind_wires_are : (p : Place) (ports : List Port) (ws : List Written) → Then (λ ts rest. AreMany IsKindDeclaration ts rest (map wire ports)) (tokens_from p (declarations_onto (codes "wire") ports ws)) ws
kind_wires_are p [] ws = record { place = p; is = no_more }
kind_wires_are p (port ∷ ports) ws =
    let more = kind_wires_are (passed p (declaration_parts (codes "wire") port)) ports ws in
    record { place = more.place; is = one_more (kind_wire (kind_port p (codes "wire") port (declarations_onto (codes "wire") ports ws)) (next_word no_symbol refl no_word)) more.is }

-- a range stands before the name of each port
not_clock : (p : Place) (inputs : List Port) (first : Port) (later : List Port) (ws : List Written) → IsClockFirst (tokens_from p (inputs_onto inputs (outputs_onto (first ∷ later) ws))) → ⊥
not_clock p [] first later ws c = output_first (next_word no_reserved refl no_word) c
not_clock p (port ∷ inputs) first later ws c = go c.input c.clock refl
  where
    no_name : kind.Symbol ≡ kind.Name → ⊥
    no_name e = cc

    go : {t u : Token} {k a b : List Token} → IsWordAt (codes "input") (t ∷ u ∷ k) a → IsNameAt a b clk → u.kind ≡ kind.Symbol → ⊥
    go (next_word k e (no_word)) (name l f) is = no_name (sym is ∙ l)

abbrev kind_made : List ℕ → List Port → List Port → List Port → List Drive → CellKind
kind_made called inputs outputs wires drives = record { name = called; inputs = inputs; outputs = outputs; wires = wires; drives = drives }

kind_with : (p : Place) (called : List ℕ) (inputs outputs wires : List Port) (drives : List Drive) (ws : List Written) → IsKindSpelled (kind_made called inputs outputs wires drives)
    → Then (λ ts rest. IsKind ts rest (kind_said (kind_made called inputs outputs wires drives))) (tokens_from p (kind_onto (kind_made called inputs outputs wires drives) ws)) ws
kind_with p called inputs [] wires drives ws h = absurd (let puts = h.puts in omega arith)
kind_with p called inputs (first ∷ later) wires drives ws h =
    let kind = kind_made called inputs (first ∷ later) wires drives in
    let m = kind_module kind in
    let body = kind_body_onto kind ws in
    let closed = part.symbol (codes ")") [] ∷ end_of_line ∷ body in
    let q = past (past (past p (part.word (codes "module") (codes " "))) (part.named called [])) (part.symbol (codes "(") []) in
    let ins = inputs_are q inputs (outputs_onto (first ∷ later) closed) in
    let o = passed (past ins.place (part.word (codes "output") (codes " "))) (range_parts first.width ++ (part.named first.name [] ∷ [])) in
    let outs = ports_are o (codes "output") later closed in
    let r = past (past outs.place (part.symbol (codes ")") [])) end_of_line in
    let declared = kind_wires_are r wires (drives_onto (written_width m) drives (part.word (codes "endmodule") (codes "\n") ∷ ws)) in
    let items = drives_are declared.place (written_width m) (narrow m) drives (part.word (codes "endmodule") (codes "\n") ∷ ws) (recursion_from_All IsDriveSpelled drives h.of_module.drives) in
    record {
      place = past items.place (part.word (codes "endmodule") (codes "\n"));
      is = record {
        a = _;
        b = _;
        c = tokens_from q (inputs_onto inputs (outputs_onto (first ∷ later) closed));
        d = tokens_from ins.place (outputs_onto (first ∷ later) closed);
        e = tokens_from o (ports_onto (codes "output") later closed);
        f = tokens_from outs.place closed;
        g = tokens_from r body;
        h = tokens_from declared.place (drives_onto (written_width m) drives (part.word (codes "endmodule") (codes "\n") ∷ ws));
        i = tokens_from items.place (part.word (codes "endmodule") (codes "\n") ∷ ws);
        first = first;
        later = later;
        begins = next_word no_reserved refl no_word;
        name = name refl refl;
        opens = next_word no_symbol refl no_word;
        no_clock = not_clock q inputs first later closed;
        inputs = ins.is;
        output = directed_is ins.place (codes "output") first (ports_onto (codes "output") later closed);
        more_outputs = outs.is;
        outputs = refl;
        closes = next_word no_symbol refl (next_word no_symbol refl no_word);
        declarations = declared.is;
        items = items.is;
        stops = next_word no_reserved refl no_word;
      };
    }

kinds_are : (p : Place) (kinds : List CellKind) (ws : List Written) → AllByRecursion IsKindSpelled kinds → Then (λ ts rest. AreMany IsKind ts rest (map kind_said kinds)) (tokens_from p (kinds_onto kinds ws)) ws
kinds_are p [] ws h = record { place = p; is = no_more }
kinds_are p (kind ∷ kinds) ws h =
    let one = kind_with p kind.name kind.inputs kind.outputs kind.wires kind.drives (kinds_onto kinds ws) h.0 in
    let more = kinds_are one.place kinds ws h.1 in
    record { place = more.place; is = one_more one.is more.is }

-- ---- the whole

clocked_is : (p : Place) (ws : List Written) → IsClocked (tokens_from p (part.symbol (codes "(") [] ∷ part.word (codes "input") (codes " ") ∷ part.named clk [] ∷ part.symbol (codes ",") (codes " ")
    ∷ part.word (codes "input") (codes " ") ∷ part.named rst [] ∷ ws))
    (tokens_from (passed p (part.symbol (codes "(") [] ∷ part.word (codes "input") (codes " ") ∷ part.named clk [] ∷ part.symbol (codes ",") (codes " ") ∷ part.word (codes "input") (codes " ") ∷ part.named rst [] ∷ [])) ws)
clocked_is p ws = record {
  a = _;
  b = _;
  c = _;
  opens = next_word no_symbol refl (next_word no_reserved refl no_word);
  clock = name refl refl;
  between = next_word no_symbol refl (next_word no_reserved refl no_word);
  reset = name refl refl;
}

top_is : (p : Place) (plan : Plan) → IsPlanSpelled plan → Then (λ ts rest. IsTop ts rest (top_said plan)) (tokens_from p (top_parts plan.kinds plan.instances plan.top)) []
top_is p plan h =
    let m = plan.top in
    let last_part = part.word (codes "endmodule") (codes "\n") ∷ [] in
    let closed = closed_onto plan.kinds plan.instances m in
    let n = past (past p (part.word (codes "module") (codes " "))) (part.named m.name []) in
    let rest = ports_onto (codes "input") m.inputs (ports_onto (codes "output") m.outputs closed) in
    let ins = ports_are (passed p (clocked_parts m.name)) (codes "input") m.inputs (ports_onto (codes "output") m.outputs closed) in
    let outs = ports_are ins.place (codes "output") m.outputs closed in
    let q = past (past outs.place (part.symbol (codes ")") [])) end_of_line in
    let wires = wires_are q m.wires (declarations_onto (codes "reg") m.registers (instances_onto plan.kinds plan.instances (items_onto m))) in
    let registers = registers_are wires.place m.registers (instances_onto plan.kinds plan.instances (items_onto m)) in
    let instances = instances_are registers.place plan.kinds (recursion_from_All IsKindSpelled plan.kinds h.kinds) plan.instances (items_onto m) (recursion_from_All (IsInstanceSpelled plan.kinds) plan.instances h.instances) in
    let drives = drives_are instances.place (written_width m) (narrow m) m.drives (steps_onto m.registers m.steps last_part) (recursion_from_All IsDriveSpelled m.drives h.top.drives) in
    let steps = steps_are drives.place m.registers m.steps last_part (recursion_from_All (IsStepSpelled m.registers) m.steps h.top.steps) in
    record {
      place = past steps.place (part.word (codes "endmodule") (codes "\n"));
      is = record {
        a = _;
        b = _;
        c = tokens_from (passed p (clocked_parts m.name)) rest;
        d = tokens_from ins.place (ports_onto (codes "output") m.outputs closed);
        e = tokens_from outs.place closed;
        f = tokens_from q (body_onto plan.kinds plan.instances m);
        g = tokens_from registers.place (instances_onto plan.kinds plan.instances (items_onto m));
        h = tokens_from steps.place last_part;
        begins = next_word no_reserved refl no_word;
        name = name refl refl;
        clocked = clocked_is n rest;
        inputs = ins.is;
        outputs = outs.is;
        closes = next_word no_symbol refl (next_word no_symbol refl no_word);
        declarations = many_append wires.is registers.is;
        items = many_append (many_append instances.is (any_items drives.is)) steps.is;
        stops = next_word no_reserved refl no_word;
      };
    }

pub plan_is : (p : Place) (plan : Plan) → IsPlanSpelled plan → IsText (tokens_from p (plan_parts plan)) (plan_said plan)
plan_is p plan h =
    let kinds = kinds_are p plan.kinds (top_parts plan.kinds plan.instances plan.top) (recursion_from_All IsKindSpelled plan.kinds h.kinds) in
    let top = top_is kinds.place plan h in
    record { a = tokens_from kinds.place (top_parts plan.kinds plan.instances plan.top); b = tokens_from top.place []; kinds = kinds.is; top = top.is; ends = end refl }
