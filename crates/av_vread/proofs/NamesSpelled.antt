-- The names that a text says are spelled as names.
use Rattle.std.proofs.Common.{◌≡◌, ℕ, true, List, [], ◌∷◌, ◌++◌, sym, subst, arith}
use Rattle.std.specs.Prelude.{All}
use Rattle.std.specs.List.{list_all, AllByRecursion}
use Rattle.std.proofs.lemmas.List.Elements.{recursion_from_All, All-from_recursion, All-append, All-weaker}
use Rattle.av_base.specs.declared.place.Place.{Place}
use Rattle.av_base.specs.declared.width.Width.{Width}
use Rattle.av_base.specs.Tokens.{is_word_byte}
use Rattle.av_net.specs.declared.token_kind.DesignTokenKind.TheVariants as kind
use Rattle.av_net.specs.declared.operation.Operand.{Operand}
use Rattle.av_net.specs.declared.operation.Operation.{Operation}
use Rattle.av_net.specs.declared.netlist.Port.{Port}
use Rattle.av_net.specs.declared.netlist.Drive.{Drive}
use Rattle.av_net.specs.declared.netlist.Step.{Step}
use Rattle.av_net.specs.Names.{names_of, wire_names, all_names}
use Rattle.av_net.specs.Lexemes.{Token, begins_name, IsName, IsSpelled, AreTokens, end, blank, comment, token}
use Rattle.av_net.specs.Grammar.{Text, ModuleText, SignalDeclaration, wire, register, PortLink, Instantiation, Item, drive, widening, step, instance, AreWords, no_word, next_word, IsNameAt, name, IsNumberAt, number, IsLiteralAt, literal, IsRange, no_range, range, IsPort, IsDeclaration, wire_declaration, register_declaration, IsOperand, named, constant, IsSigned, IsPart, IsWidening, IsOperation, plain, binary, signed, choice, selection, IsDrive, IsWideningDrive, IsEdge, IsStep, AreMany, no_more, one_more, IsLink, IsNextLink, IsInstantiation, IsItem, assignment, wide_assignment, at_an_edge, instantiation, IsKindInput, IsKindDeclaration, kind_wire, IsKindItem, kind_assignment, kind_wide_assignment, IsKind, IsTop, IsText}
use Rattle.av_net.specs.Rows.{wires_of, registers_in, module_of, declared_port}
use Rattle.av_base.proofs.Spelled.{word_all}
use Rattle.av_vread.proofs.Each.{all_map}

-- what is a name among the tokens has its spelling
abbrev pub AreNamed : List Token → Type 0
AreNamed ts = AllByRecursion (λ t. t.kind ≡ kind.Name → IsName t.text) ts

pub tokens_named : {p : Place} {bytes : List ℕ} {ts : List Token} → AreTokens p bytes ts → AreNamed ts
tokens_named end = ((λ e. absurd cc), tt)
tokens_named (blank h t) = tokens_named t
tokens_named (comment e c t) = tokens_named t
tokens_named (token {text = text} e h x r t) = ((λ k. subst (λ k. IsSpelled k text) k x.spelled), tokens_named t)

words_named : {texts : List (List ℕ)} {ts rest : List Token} → AreWords texts ts rest → AreNamed ts → AreNamed rest
words_named no_word n = n
words_named (next_word k e words) n = words_named words n.1

name_named : {ts rest : List Token} {text : List ℕ} → IsNameAt ts rest text → AreNamed ts → IsName text × AreNamed rest
name_named (name k e) n = (subst IsName e (n.0 k), n.1)

number_named : {ts rest : List Token} {v : ℕ} → IsNumberAt ts rest v → AreNamed ts → AreNamed rest
number_named (number k e) n = n.1

range_named : {ts rest : List Token} {width : Width} → IsRange ts rest width → AreNamed ts → AreNamed rest
range_named (no_range e) n = n
range_named (range opens v le closes e) n = words_named closes (number_named v (words_named opens n))

port_named : {words : List (List ℕ)} {ts rest : List Token} {port : Port} → IsPort words ts rest port → AreNamed ts → IsName port.name × AreNamed rest
port_named p n = name_named p.name (range_named p.range (words_named p.words_first n))

literal_named : {ts rest : List Token} {width : Width} {v : ℕ} → IsLiteralAt ts rest width v → AreNamed ts → AreNamed rest
literal_named (literal k l) n = n.1

-- any number of parts
many_named : {A : Type 0} (Is : List Token → List Token → A → Type 0) (P : A → Type 0) → ((ts rest : List Token) (x : A) → Is ts rest x → AreNamed ts → P x × AreNamed rest)
    → {ts rest : List Token} {xs : List A} → AreMany Is ts rest xs → AreNamed ts → AllByRecursion P xs × AreNamed rest
many_named Is P each (no_more) n = (tt, n)
many_named Is P each (one_more {ts = ts} {a = a} {x = x} is many) n =
    let here = each ts a x is n in
    let more = many_named Is P each many here.1 in
    ((here.0, more.0), more.1)

-- ---- ports and declarations

abbrev HasName : Port → Type 0
HasName port = IsName port.name

abbrev IsDeclaredName : SignalDeclaration → Type 0
IsDeclaredName d = IsName (declared_port d).name

many_ports_named : {words : List (List ℕ)} {ts rest : List Token} {ports : List Port} → AreMany (IsPort words) ts rest ports → AreNamed ts → AllByRecursion HasName ports × AreNamed rest
many_ports_named {words = words} many n = many_named (IsPort words) HasName (λ ts rest x p n. port_named p n) many n

declaration_named : {ts rest : List Token} {d : SignalDeclaration} → IsDeclaration ts rest d → AreNamed ts → IsDeclaredName d × AreNamed rest
declaration_named (wire_declaration p s) n = let a = port_named p n in (a.0, words_named s a.1)
declaration_named (register_declaration p s) n = let a = port_named p n in (a.0, words_named s a.1)

-- ---- items

operand_named : {ts rest : List Token} {x : Operand} → IsOperand ts rest x → AreNamed ts → AreNamed rest
operand_named (named k) n = (name_named k n).1
operand_named (constant l) n = literal_named l n

signed_named : {ts rest : List Token} {x : Operand} → IsSigned ts rest x → AreNamed ts → AreNamed rest
signed_named s n = words_named s.closes (operand_named s.operand_in (words_named s.opens n))

part_named : {ts rest : List Token} {text : List ℕ} {high low : ℕ} → IsPart ts rest text high low → AreNamed ts → AreNamed rest
part_named p n = words_named p.closes (number_named p.second (words_named p.between (number_named p.first (words_named p.opens (name_named p.named n).1))))

operation_named : {ts rest : List Token} {x : Operation} → IsOperation ts rest x → AreNamed ts → AreNamed rest
operation_named (plain x) n = operand_named x n
operation_named (binary x s y) n = operand_named y (words_named s (operand_named x n))
operation_named (signed x o s y) n = signed_named y (words_named s (signed_named x n))
operation_named (choice x s y t z) n = operand_named z (words_named t (operand_named y (words_named s (operand_named x n))))
operation_named (selection p) n = part_named p n

widening_named : {ts rest : List Token} {text : List ℕ} {by bit : ℕ} → IsWidening ts rest text by bit → AreNamed ts → AreNamed rest
widening_named w n =
    words_named w.closes (name_named w.again (words_named w.between (part_named w.selected (words_named w.begins (number_named w.copies (words_named w.opens n)))))).1

drive_named : {ts rest : List Token} {d : Drive} → IsDrive ts rest d → AreNamed ts → AreNamed rest
drive_named d n = words_named d.ends (operation_named d.operation (words_named d.equals (name_named d.target (words_named d.assigns n)).1))

wide_drive_named : {ts rest : List Token} {bit : ℕ} {d : Drive} → IsWideningDrive ts rest bit d → AreNamed ts → AreNamed rest
wide_drive_named d n = words_named d.ends (widening_named d.widens (words_named d.equals (name_named d.target (words_named d.assigns n)).1))

edge_named : {ts rest : List Token} → IsEdge ts rest → AreNamed ts → AreNamed rest
edge_named e n = words_named e.closes (name_named e.reset (words_named e.tests (name_named e.clock (words_named e.at_edge n)).1)).1

step_named : {ts rest : List Token} {width : Width} {s : Step} → IsStep ts rest width s → AreNamed ts → AreNamed rest
step_named s n =
    let reset = literal_named s.reset (words_named s.becomes (name_named s.register (edge_named s.at_edge n)).1) in
    words_named s.ends (operand_named s.next (words_named s.becomes_too (name_named s.again (words_named s.otherwise reset)).1))

link_named : {ts rest : List Token} {link : PortLink} → IsLink ts rest link → AreNamed ts → Unit {0} × AreNamed rest
link_named l n = (tt, words_named l.closes (operand_named l.operand (words_named l.opens (name_named l.port (words_named l.dot n)).1)))

instance_named : {ts rest : List Token} {x : Instantiation} → IsInstantiation ts rest x → AreNamed ts → IsName x.name × AreNamed rest
instance_named i n =
    let own = name_named i.name (name_named i.kind n).1 in
    let links = many_named IsNextLink (λ l. Unit {0}) (λ ts rest x l n. link_named l.linked (words_named l.comma n)) i.links_later (link_named i.links_first (words_named i.opens own.1)).1 in
    (own.0, words_named i.closes links.1)

-- an instance has a name
abbrev pub IsItemNamed : Item → Type 0
IsItemNamed (drive d) = Unit {0}
IsItemNamed (widening bit d) = Unit {0}
IsItemNamed (step width s) = Unit {0}
IsItemNamed (instance x) = IsName x.name

item_named : {ts rest : List Token} {x : Item} → IsItem ts rest x → AreNamed ts → IsItemNamed x × AreNamed rest
item_named (assignment d) n = (tt, drive_named d n)
item_named (wide_assignment d) n = (tt, wide_drive_named d n)
item_named (at_an_edge s) n = (tt, step_named s n)
item_named (instantiation x) n = instance_named x n

kind_item_named : {ts rest : List Token} {x : Item} → IsKindItem ts rest x → AreNamed ts → Unit {0} × AreNamed rest
kind_item_named (kind_assignment d) n = (tt, drive_named d n)
kind_item_named (kind_wide_assignment d) n = (tt, wide_drive_named d n)

-- ---- modules

-- the names of a module and of its ports, wires and registers
pub record IsModuleNamed (x : ModuleText) : Type 0 where
  pub own : IsName x.name
  pub inputs : AllByRecursion HasName x.inputs
  pub outputs : AllByRecursion HasName x.outputs
  pub declared : AllByRecursion IsDeclaredName x.declarations

kind_declaration_named : {ts rest : List Token} {d : SignalDeclaration} → IsKindDeclaration ts rest d → AreNamed ts → IsDeclaredName d × AreNamed rest
kind_declaration_named (kind_wire p s) n = let a = port_named p n in (a.0, words_named s a.1)

kind_named : {ts rest : List Token} {x : ModuleText} → IsKind ts rest x → AreNamed ts → IsModuleNamed x × AreNamed rest
kind_named {x = x} k n =
    let own = name_named k.name (words_named k.begins n) in
    let inputs = many_named IsKindInput HasName (λ ts rest x i n. let a = port_named i.directed n in (a.0, words_named i.comma a.1)) k.inputs (words_named k.opens own.1) in
    let output = port_named k.output inputs.1 in
    let outputs = many_ports_named k.more_outputs output.1 in
    let declared = many_named IsKindDeclaration IsDeclaredName (λ ts rest x d n. kind_declaration_named d n) k.declarations (words_named k.closes outputs.1) in
    let items = many_named IsKindItem (λ i. Unit {0}) (λ ts rest x i n. kind_item_named i n) k.items declared.1 in
    (record { own = own.0; inputs = inputs.0; outputs = subst (AllByRecursion HasName) (sym k.outputs) (output.0, outputs.0); declared = declared.0 }, words_named k.stops items.1)

top_named : {ts rest : List Token} {x : ModuleText} → IsTop ts rest x → AreNamed ts → IsModuleNamed x × AllByRecursion IsItemNamed x.items
top_named t n =
    let own = name_named t.name (words_named t.begins n) in
    let clock = name_named t.clocked.clock (words_named t.clocked.opens own.1) in
    let reset = name_named t.clocked.reset (words_named t.clocked.between clock.1) in
    let inputs = many_ports_named t.inputs reset.1 in
    let outputs = many_ports_named t.outputs inputs.1 in
    let declared = many_named IsDeclaration IsDeclaredName (λ ts rest x d n. declaration_named d n) t.declarations (words_named t.closes outputs.1) in
    let items = many_named IsItem IsItemNamed (λ ts rest x i n. item_named i n) t.items declared.1 in
    (record { own = own.0; inputs = inputs.0; outputs = outputs.0; declared = declared.0 }, items.0)

-- all names of a text
pub record IsNamed (x : Text) : Type 0 where
  pub kinds : AllByRecursion IsModuleNamed x.kinds
  pub top : IsModuleNamed x.top
  pub instances : AllByRecursion IsItemNamed x.top.items

pub text_named : {ts : List Token} {x : Text} → IsText ts x → AreNamed ts → IsNamed x
text_named t n =
    let kinds = many_named IsKind IsModuleNamed (λ ts rest x k n. kind_named k n) t.kinds n in
    let top = top_named t.top kinds.1 in
    record { kinds = kinds.0; top = top.0; instances = top.1 }

-- ---- the names of a module

abbrev HaveNames : List Port → Type 0
HaveNames ports = All IsName (names_of ports)

have_names : (ports : List Port) → AllByRecursion HasName ports → HaveNames ports
have_names ports h = All-from_recursion IsName (names_of ports) (all_map IsName (λ (port : Port). port.name) ports h)

wires_named : (ds : List SignalDeclaration) → AllByRecursion IsDeclaredName ds → AllByRecursion HasName (wires_of ds)
wires_named [] h = tt
wires_named (wire port ∷ ds) h = (h.0, wires_named ds h.1)
wires_named (register port ∷ ds) h = wires_named ds h.1

registers_named : (ds : List SignalDeclaration) → AllByRecursion IsDeclaredName ds → AllByRecursion HasName (registers_in ds)
registers_named [] h = tt
registers_named (wire port ∷ ds) h = registers_named ds h.1
registers_named (register port ∷ ds) h = (h.0, registers_named ds h.1)

module _ (x : ModuleText) (n : IsModuleNamed x) where
  pub input_names : All IsName (names_of x.inputs)
  input_names = have_names x.inputs n.inputs

  pub wires_have_names : All IsName (wire_names (module_of x))
  wires_have_names = All-append IsName (names_of x.outputs) (names_of (wires_of x.declarations)) (have_names x.outputs n.outputs) (have_names (wires_of x.declarations) (wires_named x.declarations n.declared))

  pub all_have_names : All IsName (all_names (module_of x))
  all_have_names =
      All-append IsName (names_of x.inputs ++ names_of (registers_in x.declarations)) (names_of x.outputs ++ names_of (wires_of x.declarations))
      (All-append IsName (names_of x.inputs) (names_of (registers_in x.declarations)) input_names (have_names (registers_in x.declarations) (registers_named x.declarations n.declared))) wires_have_names

-- a name is a word
pub name_word : (text : List ℕ) → IsName text → list_all is_word_byte text ≡ true
name_word [] h = absurd h.0
name_word (b ∷ text) h = word_all (b ∷ text) (first b h.0.0, recursion_from_All (λ x. is_word_byte x ≡ true) text h.0.1)
  where
    first : (b : ℕ) → begins_name b ≡ true → is_word_byte b ≡ true
    first b e = grind arith

pub are_words : (names : List (List ℕ)) → All IsName names → All (λ name. list_all is_word_byte name ≡ true) names
are_words names h = All-weaker IsName (λ name. list_all is_word_byte name ≡ true) name_word names h
