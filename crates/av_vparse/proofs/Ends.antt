-- What is spelled first leaves fewer tokens.
use Rattle.std.proofs.Common.{◌≡◌, ℕ, ◌+◌, ◌<◌, ◌≤◌, List, [], ◌∷◌, length, arith}
use Rattle.std.specs.Prelude.{codes}
use Rattle.av_base.specs.declared.width.Width.{Width}
use Rattle.av_net.specs.declared.operation.Operand.{Operand}
use Rattle.av_net.specs.declared.operation.Operation.{Operation}
use Rattle.av_net.specs.declared.netlist.Port.{Port}
use Rattle.av_net.specs.declared.netlist.Drive.{Drive}
use Rattle.av_net.specs.declared.netlist.Step.{Step}
use Rattle.av_net.specs.Lexemes.{Token}
use Rattle.av_net.specs.Grammar.{ModuleText, SignalDeclaration, PortLink, Instantiation, Item, AreWords, no_word, next_word, IsNameAt, name, IsNumberAt, number, IsLiteralAt, literal, IsRange, no_range, range, IsPort, IsDeclaration, wire_declaration, register_declaration, IsPart, IsWidening, IsOperand, named, constant, IsSigned, IsOperation, plain, binary, signed, choice, selection, IsDrive, IsWideningDrive, IsEdge, IsStep, AreMany, no_more, one_more, IsLink, IsNextLink, IsInstantiation, IsItem, assignment, wide_assignment, at_an_edge, instantiation, IsKindInput, IsKindDeclaration, kind_wire, IsKindItem, kind_assignment, kind_wide_assignment, IsKind}

pub words_end : {texts : List (List ℕ)} {ts rest : List Token} → AreWords texts ts rest → length rest + length texts ≡ length ts
words_end no_word = omega arith
words_end (next_word k e words) = omega (arith, words_end words)

pub name_end : {ts rest : List Token} {text : List ℕ} → IsNameAt ts rest text → length rest < length ts
name_end (name k e) = omega arith

number_end : {ts rest : List Token} {n : ℕ} → IsNumberAt ts rest n → length rest < length ts
number_end (number k e) = omega arith

literal_end : {ts rest : List Token} {width : Width} {value : ℕ} → IsLiteralAt ts rest width value → length rest < length ts
literal_end (literal k l) = omega arith

range_end : {ts rest : List Token} {width : Width} → IsRange ts rest width → length rest ≤ length ts
range_end (no_range e) = omega arith
range_end (range opens n le closes e) = omega (arith, words_end opens, number_end n, words_end closes)

pub port_end : {words : List (List ℕ)} {ts rest : List Token} {port : Port} → IsPort words ts rest port → length rest < length ts
port_end p = omega (arith, words_end p.words_first, range_end p.range, name_end p.name)

pub declaration_end : {ts rest : List Token} {x : SignalDeclaration} → IsDeclaration ts rest x → length rest < length ts
declaration_end (wire_declaration p s) = omega (arith, port_end p, words_end s)
declaration_end (register_declaration p s) = omega (arith, port_end p, words_end s)

operand_end : {ts rest : List Token} {x : Operand} → IsOperand ts rest x → length rest < length ts
operand_end (named n) = name_end n
operand_end (constant l) = literal_end l

signed_end : {ts rest : List Token} {x : Operand} → IsSigned ts rest x → length rest < length ts
signed_end s = omega (arith, words_end s.opens, operand_end s.operand_in, words_end s.closes)

part_end : {ts rest : List Token} {text : List ℕ} {high low : ℕ} → IsPart ts rest text high low → length rest < length ts
part_end p = omega (arith, name_end p.named, words_end p.opens, number_end p.first, words_end p.between, number_end p.second, words_end p.closes)

operation_end : {ts rest : List Token} {x : Operation} → IsOperation ts rest x → length rest < length ts
operation_end (plain x) = operand_end x
operation_end (binary x s y) = omega (arith, operand_end x, words_end s, operand_end y)
operation_end (signed x o s y) = omega (arith, signed_end x, words_end s, signed_end y)
operation_end (choice x s y t z) = omega (arith, operand_end x, words_end s, operand_end y, words_end t, operand_end z)
operation_end (selection p) = part_end p

widening_end : {ts rest : List Token} {text : List ℕ} {by bit : ℕ} → IsWidening ts rest text by bit → length rest < length ts
widening_end w =
    omega (arith, words_end w.opens, number_end w.copies, words_end w.begins, part_end w.selected, words_end w.between, name_end w.again, words_end w.closes)

wide_drive_end : {ts rest : List Token} {bit : ℕ} {d : Drive} → IsWideningDrive ts rest bit d → length rest < length ts
wide_drive_end d = omega (arith, words_end d.assigns, name_end d.target, words_end d.equals, widening_end d.widens, words_end d.ends)

drive_end : {ts rest : List Token} {x : Drive} → IsDrive ts rest x → length rest < length ts
drive_end d = omega (arith, words_end d.assigns, name_end d.target, words_end d.equals, operation_end d.operation, words_end d.ends)

edge_end : {ts rest : List Token} → IsEdge ts rest → length rest < length ts
edge_end e = omega (arith, words_end e.at_edge, name_end e.clock, words_end e.tests, name_end e.reset, words_end e.closes)

step_end : {ts rest : List Token} {width : Width} {x : Step} → IsStep ts rest width x → length rest < length ts
step_end s =
    omega (arith, edge_end s.at_edge, name_end s.register, words_end s.becomes, literal_end s.reset, words_end s.otherwise, name_end s.again, words_end s.becomes_too, operand_end s.next, words_end s.ends)

pub many_end : {A : Type 0} (Is : List Token → List Token → A → Type 0) → ((ts rest : List Token) (x : A) → Is ts rest x → length rest < length ts)
    → {ts rest : List Token} {xs : List A} → AreMany Is ts rest xs → length rest ≤ length ts
many_end Is shorter (no_more) = omega arith
many_end Is shorter (one_more {ts = ts} {a = a} {x = x} is many) = omega (arith, shorter ts a x is, many_end Is shorter many)

link_end : {ts rest : List Token} {link : PortLink} → IsLink ts rest link → length rest < length ts
link_end l = omega (arith, words_end l.dot, name_end l.port, words_end l.opens, operand_end l.operand, words_end l.closes)

pub next_link_end : {ts rest : List Token} {link : PortLink} → IsNextLink ts rest link → length rest < length ts
next_link_end l = omega (arith, words_end l.comma, link_end l.linked)

instance_end : {ts rest : List Token} {x : Instantiation} → IsInstantiation ts rest x → length rest < length ts
instance_end i =
    let later = many_end IsNextLink (λ ts rest x l. next_link_end l) i.links_later in
    omega (arith, name_end i.kind, name_end i.name, words_end i.opens, link_end i.links_first, words_end i.closes)

pub item_end : {ts rest : List Token} {x : Item} → IsItem ts rest x → length rest < length ts
item_end (assignment d) = drive_end d
item_end (wide_assignment d) = wide_drive_end d
item_end (at_an_edge s) = step_end s
item_end (instantiation x) = instance_end x

pub kind_item_end : {ts rest : List Token} {x : Item} → IsKindItem ts rest x → length rest < length ts
kind_item_end (kind_assignment d) = drive_end d
kind_item_end (kind_wide_assignment d) = wide_drive_end d

pub kind_input_end : {ts rest : List Token} {port : Port} → IsKindInput ts rest port → length rest < length ts
kind_input_end p = omega (arith, port_end p.directed, words_end p.comma)

pub kind_declaration_end : {ts rest : List Token} {x : SignalDeclaration} → IsKindDeclaration ts rest x → length rest < length ts
kind_declaration_end (kind_wire p s) = omega (arith, port_end p, words_end s)

pub kind_end : {ts rest : List Token} {x : ModuleText} → IsKind ts rest x → length rest < length ts
kind_end k =
    let inputs = many_end IsKindInput (λ ts rest x p. kind_input_end p) k.inputs in
    let outputs = many_end (IsPort (codes "," ∷ codes "output" ∷ [])) (λ ts rest x p. port_end p) k.more_outputs in
    let declarations = many_end IsKindDeclaration (λ ts rest x d. kind_declaration_end d) k.declarations in
    let items = many_end IsKindItem (λ ts rest x i. kind_item_end i) k.items in
    omega (arith, words_end k.begins, name_end k.name, words_end k.opens, port_end k.output, words_end k.closes, words_end k.stops)
