-- The tokens of a written plan are those that are found in its text.
use Rattle.std.proofs.Common.{◌≡◌, ℕ, ◌-◌, ◌<◌, ◌≤◌, ◌^◌, true, List, [], ◌∷◌, ◌++◌, refl, sym, subst, arith}
use Rattle.std.specs.Prelude.{codes, decimal, Contains, IsTrue}
use Rattle.std.specs.List.{AllByRecursion}
use Rattle.std.proofs.lemmas.List.Elements.{All-nil, All-from_recursion, recursion_from_All}
use Rattle.av_base.specs.declared.width.Width.{Width}
use Rattle.av_base.specs.Words.{IsWord}
use Rattle.av_base.specs.Tokens.{is_word_byte, IsDigits}
use Rattle.av_net.specs.declared.token_kind.DesignTokenKind.TheVariants as kind
use Rattle.av_net.specs.declared.operation.Symbol.{Symbol}
use Rattle.av_net.specs.declared.operation.Symbol.TheVariants.{Add, Sub, Mul, And, Or, Equal, Unequal, Less, LessEqual, Greater, GreaterEqual}
use Rattle.av_net.specs.declared.operation.Operand.{Operand}
use Rattle.av_net.specs.declared.operation.Operand.TheVariants as operand
use Rattle.av_net.specs.declared.operation.Operation.{Operation}
use Rattle.av_net.specs.declared.operation.Operation.TheVariants as operation
use Rattle.av_net.specs.declared.netlist.Port.{Port}
use Rattle.av_net.specs.declared.netlist.Drive.{Drive}
use Rattle.av_net.specs.declared.netlist.Step.{Step}
use Rattle.av_net.specs.Meaning.{Widths, EachOperand}
use Rattle.av_net.specs.Names.{clk, rst, width_in}
use Rattle.av_net.specs.Lexemes.{reserved_words, IsName}
use Rattle.av_net.specs.Grammar.{PortLink, Instantiation, spelling}
use Rattle.av_net.specs.Spelling.{is_reserved}
use Rattle.av_net.specs.declared.plan.CellKind.{CellKind}
use Rattle.av_net.specs.declared.plan.Instance.{Instance}
use Rattle.av_net.specs.declared.plan.Plan.{Plan}
use Rattle.av_net.specs.Texts.{written_width}
use Rattle.av_net.specs.Flat.{kind_module}
use Rattle.av_net.proofs.Said.{width_for, width_for_is, instance_said}
use Rattle.av_vread.specs.SpelledParts.{IsOperandSpelled, HasBitsSpelled, IsDriveSpelled, IsStepSpelled, IsInstanceSpelled, IsKindSpelled, IsPlanSpelled}
use Rattle.av_base.proofs.Tables.{is_there, none_there}
use Rattle.av_vparse.proofs.Spaced.{Written, bytes_of, IsNext, AreBlank, AreSpaced}
use Rattle.av_vparse.proofs.NextTokens.{is_clear, name_next, reserved_next, plain_next, single_next, pair_next, signed_next, number_next, literal_next}
use Rattle.av_vread.proofs.WrittenParts.{word, named, symbol, literal, operand_part, range_parts, port_parts, ports_onto, end_of_line, declaration_parts, declarations_onto, signed_parts, operation_parts, drive_onto, drives_onto, edge_parts, otherwise_onto, becomes_onto, step_onto, steps_onto, closed_onto, select_parts, widening_parts, link_onto, links_onto, all_links_onto, instance_onto, instances_onto, directed_onto, inputs_onto, outputs_onto, kind_body_onto, kind_onto, kinds_onto, top_parts, plan_parts}
use Rattle.av_vread.proofs.Spelled.{word_small, ArePortsSpelled, AreNarrow, narrow, spelled_by_kind, IsLinkSpelled, IsInstantiationSpelled, instance_spelled}
use Rattle.av_base.proofs.Digits.{number_digits}

one_blank : AreBlank (codes " ")
one_blank = (refl, tt)

one_feed : AreBlank (codes "\n")
one_feed = (refl, tt)

two_blanks : AreBlank (codes "  ")
two_blanks = (refl, (refl, tt))

is_word : (text : List ℕ) → is_reserved text ≡ true → Contains reserved_words text
is_word text h = is_there text reserved_words h

small_number : (n : ℕ) → n ≤ 64 → IsDigits (decimal n)
small_number n le = number_digits n (omega arith)

pub clk_name : IsName clk
clk_name = ((refl, All-from_recursion (λ x. IsTrue (is_word_byte x)) (codes "lk") (refl, (refl, tt))), none_there clk reserved_words refl)

pub rst_name : IsName rst
rst_name = ((refl, All-from_recursion (λ x. IsTrue (is_word_byte x)) (codes "st") (refl, (refl, tt))), none_there rst reserved_words refl)

-- ---- declarations

range_spaced : (width : Width) (ws : List Written) → AreSpaced ws → AreSpaced (range_parts width ++ ws)
range_spaced width ws s =
    let most = width.most in (
      tt,
      plain_next 91 _ refl,
      tt,
      (
        tt,
        number_next (decimal (width.bits - 1)) _ (small_number (width.bits - 1) (omega arith)) refl,
        tt,
        (
          tt,
          plain_next 58 _ refl,
          tt,
          (tt, number_next (codes "0") _ (refl, All-nil _) refl, tt, (tt, plain_next 93 _ refl, one_blank, s)),
        ),
      ),
    )

port_spaced : (direction : List ℕ) (port : Port) (ws : List Written) → is_reserved direction ≡ true → IsName port.name → is_clear (bytes_of ws) ≡ true → AreSpaced ws → AreSpaced (port_parts direction port ++ ws)
port_spaced direction port ws d n c s =
    (tt, plain_next 44 _ refl, one_blank, (tt, reserved_next direction _ (is_word direction d) refl, one_blank, range_spaced port.width (named port.name [] ∷ ws) (tt, name_next port.name _ n c, tt, s)))

-- what is spaced, and begins with nothing that could belong to a word before it
pub record IsClearly (ws : List Written) : Type 0 where
  pub clear : is_clear (bytes_of ws) ≡ true
  pub spaced : AreSpaced ws

ports_spaced : (direction : List ℕ) (ports : List Port) (ws : List Written) → is_reserved direction ≡ true → ArePortsSpelled ports → IsClearly ws → IsClearly (ports_onto direction ports ws)
ports_spaced direction [] ws d n s = s
ports_spaced direction (port ∷ ports) ws d n s =
    let later = ports_spaced direction ports ws d n.1 s in
    record { clear = refl; spaced = port_spaced direction port (ports_onto direction ports ws) d n.0.name later.clear later.spaced }

declaration_spaced : (kind : List ℕ) (port : Port) (ws : List Written) → is_reserved kind ≡ true → IsName port.name → AreSpaced ws → AreSpaced (declaration_parts kind port ++ ws)
declaration_spaced kind port ws d n s = (
  two_blanks,
  reserved_next kind _ (is_word kind d) refl,
  one_blank,
  range_spaced port.width (named port.name [] ∷ end_of_line ∷ ws) (tt, name_next port.name _ n refl, tt, (tt, plain_next 59 _ refl, one_feed, s)),
)

declarations_spaced : (kind : List ℕ) (ports : List Port) (ws : List Written) → is_reserved kind ≡ true → ArePortsSpelled ports → AreSpaced ws → AreSpaced (declarations_onto kind ports ws)
declarations_spaced kind [] ws d n s = s
declarations_spaced kind (port ∷ ports) ws d n s = declaration_spaced kind port (declarations_onto kind ports ws) d n.0.name (declarations_spaced kind ports ws d n.1 s)

-- ---- items

literal_spaced : (bits value : ℕ) (after : List ℕ) (ws : List Written) → bits ≤ 64 → value < 2 ^ 64 → AreBlank after → is_clear (after ++ bytes_of ws) ≡ true → AreSpaced ws → AreSpaced (literal bits value after ∷ ws)
literal_spaced bits value after ws most fits a c s = (tt, literal_next (decimal bits) (decimal value) _ (small_number bits most) (number_digits value fits) c, a, s)

operand_spaced : (x : Operand) (after : List ℕ) (ws : List Written) → IsOperandSpelled x → AreBlank after → is_clear (after ++ bytes_of ws) ≡ true → AreSpaced ws → AreSpaced (operand_part x after ∷ ws)
operand_spaced (operand.Name name) after ws w a c s = (tt, name_next name _ w c, a, s)
operand_spaced (operand.Literal width value) after ws w a c s = literal_spaced width.bits value after ws width.most (word_small width value w.2) a c s

symbol_next : (s : Symbol) (rest : List ℕ) → is_clear rest ≡ true → IsNext kind.Symbol (spelling s) rest
symbol_next Add rest c = plain_next 43 rest refl
symbol_next Sub rest c = plain_next 45 rest refl
symbol_next Mul rest c = plain_next 42 rest refl
symbol_next And rest c = plain_next 38 rest refl
symbol_next Or rest c = plain_next 124 rest refl
symbol_next Equal rest c = pair_next 61 61 rest refl
symbol_next Unequal rest c = pair_next 33 61 rest refl
symbol_next Less rest c = single_next 60 rest refl c
symbol_next LessEqual rest c = pair_next 60 61 rest refl
symbol_next Greater rest c = single_next 62 rest refl c
symbol_next GreaterEqual rest c = pair_next 62 61 rest refl

signed_spaced : (x : Operand) (after : List ℕ) (ws : List Written) → IsOperandSpelled x → AreBlank after → AreSpaced ws → AreSpaced (signed_parts x after ++ ws)
signed_spaced x after ws w a s =
    (tt, signed_next _, tt, (tt, plain_next 40 _ refl, tt, operand_spaced x [] (symbol (codes ")") after ∷ ws) w tt refl (tt, plain_next 41 _ refl, a, s)))

select_spaced : (name : List ℕ) (high low : ℕ) (ws : List Written) → IsName name → high ≤ 64 → low ≤ 64 → AreSpaced ws → AreSpaced (select_parts name high low ++ ws)
select_spaced name high low ws n h l s =
    (tt, name_next name _ n refl, tt, (tt, plain_next 91 _ refl, tt, (tt, number_next (decimal high) _ (small_number high h) refl, tt, (tt, plain_next 58 _ refl, tt, (tt, number_next (decimal low) _ (small_number low l) refl, tt, (tt, plain_next 93 _ refl, tt, s))))))

widening_spaced : (name : List ℕ) (by bit : ℕ) (ws : List Written) → IsName name → by ≤ 64 → bit ≤ 64 → AreSpaced ws → AreSpaced (widening_parts name by bit ++ ws)
widening_spaced name by bit ws n b t s = (
  tt,
  plain_next 123 _ refl,
  tt,
  (
    tt,
    plain_next 123 _ refl,
    tt,
    (
      tt,
      number_next (decimal by) _ (small_number by b) refl,
      tt,
      (
        tt,
        plain_next 123 _ refl,
        tt,
        select_spaced name bit bit (symbol (codes "}") [] ∷ symbol (codes "}") [] ∷ symbol (codes ",") (codes " ") ∷ named name [] ∷ symbol (codes "}") [] ∷ ws) n t t
            (tt, plain_next 125 _ refl, tt, (tt, plain_next 125 _ refl, tt, (tt, plain_next 44 _ refl, one_blank, (tt, name_next name _ n refl, tt, (tt, plain_next 125 _ refl, tt, s))))),
      ),
    ),
  ),
)

operation_spaced : (widths : Widths) → AreNarrow widths → (o : Operation) (ws : List Written) → EachOperand IsOperandSpelled o → HasBitsSpelled o → is_clear (bytes_of ws) ≡ true → AreSpaced ws → AreSpaced (operation_parts widths o ++ ws)
operation_spaced widths narrow (operation.Plain x) ws w bits c s = operand_spaced x [] ws w tt c s
operation_spaced widths narrow (operation.Binary x o y) ws w bits c s =
    operand_spaced x (codes " ") (symbol (spelling o) (codes " ") ∷ operand_part y [] ∷ ws) w.0 one_blank refl (tt, symbol_next o _ refl, one_blank, operand_spaced y [] ws w.1 tt c s)
operation_spaced widths narrow (operation.Signed x o y) ws w bits c s =
    signed_spaced x (codes " ") (symbol (spelling o) (codes " ") ∷ signed_parts y [] ++ ws) w.0 one_blank (tt, symbol_next o _ refl, one_blank, signed_spaced y [] ws w.1 tt s)
operation_spaced widths narrow (operation.Choose b x y) ws w bits c s =
    operand_spaced b (codes " ") (symbol (codes "?") (codes " ") ∷ operand_part x (codes " ") ∷ symbol (codes ":") (codes " ") ∷ operand_part y [] ∷ ws) w.0 one_blank refl (
      tt,
      plain_next 63 _ refl,
      one_blank,
      operand_spaced x (codes " ") (symbol (codes ":") (codes " ") ∷ operand_part y [] ∷ ws) w.1 one_blank refl
          (tt, plain_next 58 _ refl, one_blank, operand_spaced y [] ws w.2 tt c s),
    )
operation_spaced widths narrow (operation.Part name high low) ws w bits c s = (let l = bits.0 in let h = bits.1 in select_spaced name high low ws w (omega arith) (omega arith) s)
operation_spaced widths narrow (operation.Widen name by) ws w bits c s = (let most = bits.1 in let wide = narrow name in widening_spaced name by (widths name - 1) ws w (omega arith) (omega arith) s)

drive_spaced : (widths : Widths) → AreNarrow widths → (d : Drive) (ws : List Written) → IsDriveSpelled d → AreSpaced ws → AreSpaced (drive_onto widths d ws)
drive_spaced widths narrow d ws w s = (
  two_blanks,
  reserved_next (codes "assign") _ (is_word (codes "assign") refl) refl,
  one_blank,
  (
    tt,
    name_next d.target _ w.target refl,
    one_blank,
    (tt, single_next 61 _ refl refl, one_blank, operation_spaced widths narrow d.operation (end_of_line ∷ ws) w.operands w.bits refl (tt, plain_next 59 _ refl, one_feed, s)),
  ),
)

edge_spaced : (ws : List Written) → AreSpaced ws → AreSpaced (edge_parts ++ ws)
edge_spaced ws s =
    (two_blanks, reserved_next (codes "always") _ (is_word (codes "always") refl) refl, one_blank, (tt, plain_next 64 _ refl, tt, (tt, plain_next 40 _ refl, tt, (tt, reserved_next (codes "posedge") _ (is_word (codes "posedge") refl) refl, one_blank, (tt, name_next clk _ clk_name refl, tt, (tt, plain_next 41 _ refl, one_blank, (tt, reserved_next (codes "if") _ (is_word (codes "if") refl) refl, one_blank, (tt, plain_next 40 _ refl, tt, (tt, name_next rst _ rst_name refl, tt, (tt, plain_next 41 _ refl, one_blank, s))))))))))

line_ended : (ws : List Written) → AreSpaced ws → AreSpaced (end_of_line ∷ ws)
line_ended ws s = (tt, plain_next 59 _ refl, one_feed, s)

step_spaced : (registers : List Port) (t : Step) (ws : List Written) → IsStepSpelled registers t → AreSpaced ws → AreSpaced (step_onto (width_in registers t.register) t ws)
step_spaced registers t ws w s =
    let width = width_for registers t.register in
    let same : width.bits ≡ width_in registers t.register = width_for_is registers t.register in
    let most : width_in registers t.register ≤ 64 = subst (λ b. b ≤ 64) same width.most in
    let small : t.reset < 2 ^ 64 = word_small width t.reset (subst (λ b. IsWord b t.reset) (sym same) w.reset) in
    edge_spaced (becomes_onto (width_in registers t.register) t ws) (
      tt,
      name_next t.register _ w.register refl,
      one_blank,
      (
        tt,
        pair_next 60 61 _ refl,
        one_blank,
        literal_spaced (width_in registers t.register) t.reset [] (otherwise_onto t ws) most small tt refl
            (tt, plain_next 59 _ refl, one_blank, (tt, reserved_next (codes "else") _ (is_word (codes "else") refl) refl, one_blank, (tt, name_next t.register _ w.register refl, one_blank, (tt, pair_next 60 61 _ refl, one_blank, operand_spaced t.next [] (end_of_line ∷ ws) w.next tt refl (line_ended ws s))))),
      ),
    )

drives_spaced : (widths : Widths) → AreNarrow widths → (drives : List Drive) (ws : List Written) → AllByRecursion IsDriveSpelled drives → AreSpaced ws → AreSpaced (drives_onto widths drives ws)
drives_spaced widths narrow [] ws w s = s
drives_spaced widths narrow (d ∷ drives) ws w s = drive_spaced widths narrow d (drives_onto widths drives ws) w.0 (drives_spaced widths narrow drives ws w.1 s)

steps_spaced : (registers : List Port) (steps : List Step) (ws : List Written) → AllByRecursion (IsStepSpelled registers) steps → AreSpaced ws → AreSpaced (steps_onto registers steps ws)
steps_spaced registers [] ws w s = s
steps_spaced registers (t ∷ steps) ws w s = step_spaced registers t (steps_onto registers steps ws) w.0 (steps_spaced registers steps ws w.1 s)

-- ---- instances

link_spaced : (link : PortLink) (ws : List Written) → IsLinkSpelled link → AreSpaced ws → AreSpaced (link_onto link [] ws)
link_spaced link ws l s =
    (tt, plain_next 46 _ refl, tt, (tt, name_next link.port _ l.port refl, tt, (tt, plain_next 40 _ refl, tt, operand_spaced link.operand [] (symbol (codes ")") [] ∷ ws) l.operand tt refl (tt, plain_next 41 _ refl, tt, s))))

links_spaced : (links : List PortLink) (ws : List Written) → AllByRecursion IsLinkSpelled links → AreSpaced ws → AreSpaced (links_onto links ws)
links_spaced [] ws l s = s
links_spaced (link ∷ links) ws l s = (tt, plain_next 44 _ refl, one_blank, link_spaced link (links_onto links ws) l.0 (links_spaced links ws l.1 s))

all_links_spaced : (links : List PortLink) (ws : List Written) → AllByRecursion IsLinkSpelled links → AreSpaced ws → AreSpaced (all_links_onto links ws)
all_links_spaced [] ws l s = s
all_links_spaced (link ∷ links) ws l s = link_spaced link (links_onto links ws) l.0 (links_spaced links ws l.1 s)

instance_spaced : (x : Instantiation) (ws : List Written) → IsInstantiationSpelled x → AreSpaced ws → AreSpaced (instance_onto x ws)
instance_spaced x ws h s =
    (two_blanks, name_next x.kind _ h.kind refl, one_blank, (tt, name_next x.name _ h.name refl, one_blank, (tt, plain_next 40 _ refl, tt, all_links_spaced x.links (symbol (codes ")") [] ∷ end_of_line ∷ ws) h.links (tt, plain_next 41 _ refl, tt, line_ended ws s))))

instances_spaced : (kinds : List CellKind) → AllByRecursion IsKindSpelled kinds → (instances : List Instance) (ws : List Written) → AllByRecursion (IsInstanceSpelled kinds) instances → AreSpaced ws → AreSpaced (instances_onto kinds instances ws)
instances_spaced kinds k [] ws h s = s
instances_spaced kinds k (i ∷ instances) ws h s = instance_spaced (instance_said kinds i) (instances_onto kinds instances ws) (instance_spelled kinds k i h.0) (instances_spaced kinds k instances ws h.1 s)

-- ---- kinds

directed_spaced : (direction : List ℕ) (port : Port) (ws : List Written) → is_reserved direction ≡ true → IsName port.name → is_clear (bytes_of ws) ≡ true → AreSpaced ws → AreSpaced (directed_onto direction port ws)
directed_spaced direction port ws d n c s =
    (tt, reserved_next direction _ (is_word direction d) refl, one_blank, range_spaced port.width (named port.name [] ∷ ws) (tt, name_next port.name _ n c, tt, s))

inputs_spaced : (ports : List Port) (ws : List Written) → ArePortsSpelled ports → AreSpaced ws → AreSpaced (inputs_onto ports ws)
inputs_spaced [] ws n s = s
inputs_spaced (port ∷ ports) ws n s =
    directed_spaced (codes "input") port (symbol (codes ",") (codes " ") ∷ inputs_onto ports ws) refl n.0.name refl (tt, plain_next 44 _ refl, one_blank, inputs_spaced ports ws n.1 s)

outputs_spaced : (ports : List Port) (ws : List Written) → ArePortsSpelled ports → IsClearly ws → AreSpaced (outputs_onto ports ws)
outputs_spaced [] ws n s = s.spaced
outputs_spaced (port ∷ ports) ws n s =
    let later = ports_spaced (codes "output") ports ws refl n.1 s in
    directed_spaced (codes "output") port (ports_onto (codes "output") ports ws) refl n.0.name later.clear later.spaced

last_spaced : (ws : List Written) → AreSpaced ws → AreSpaced (word (codes "endmodule") (codes "\n") ∷ ws)
last_spaced ws s = (tt, reserved_next (codes "endmodule") _ (is_word (codes "endmodule") refl) refl, one_feed, s)

kind_spaced : (kind : CellKind) (ws : List Written) → IsKindSpelled kind → AreSpaced ws → AreSpaced (kind_onto kind ws)
kind_spaced kind ws h s =
    let m = kind_module kind in
    let ports = spelled_by_kind m h.of_module.ports in
    let drives = drives_spaced (written_width m) (narrow m) kind.drives _ (recursion_from_All IsDriveSpelled kind.drives h.of_module.drives) (last_spaced ws s) in
    let body = declarations_spaced (codes "wire") kind.wires _ refl ports.wires drives in
    let closed : AreSpaced (symbol (codes ")") [] ∷ end_of_line ∷ kind_body_onto kind ws) = (tt, plain_next 41 _ refl, tt, line_ended _ body) in (
      tt,
      reserved_next (codes "module") _ (is_word (codes "module") refl) refl,
      one_blank,
      (
        tt,
        name_next kind.name _ h.of_module.name refl,
        tt,
        (
          tt,
          plain_next 40 _ refl,
          tt,
          inputs_spaced kind.inputs _ ports.inputs (outputs_spaced kind.outputs _ ports.outputs (record { clear = refl; spaced = closed })),
        ),
      ),
    )

kinds_spaced : (kinds : List CellKind) (ws : List Written) → AllByRecursion IsKindSpelled kinds → AreSpaced ws → AreSpaced (kinds_onto kinds ws)
kinds_spaced [] ws h s = s
kinds_spaced (kind ∷ kinds) ws h s = kind_spaced kind (kinds_onto kinds ws) h.0 (kinds_spaced kinds ws h.1 s)

-- ---- the whole

pub plan_spaced : (plan : Plan) → IsPlanSpelled plan → AreSpaced (plan_parts plan)
plan_spaced plan w =
    let m = plan.top in
    let kinds = recursion_from_All IsKindSpelled plan.kinds w.kinds in
    let declared_ports = spelled_by_kind m w.top.ports in
    let steps = steps_spaced m.registers m.steps _ (recursion_from_All (IsStepSpelled m.registers) m.steps w.top.steps) (last_spaced [] tt) in
    let items = drives_spaced (written_width m) (narrow m) m.drives _ (recursion_from_All IsDriveSpelled m.drives w.top.drives) steps in
    let instances = instances_spaced plan.kinds kinds plan.instances _ (recursion_from_All (IsInstanceSpelled plan.kinds) plan.instances w.instances) items in
    let declared = declarations_spaced (codes "wire") m.wires _ refl declared_ports.wires (declarations_spaced (codes "reg") m.registers _ refl declared_ports.registers instances) in
    let closed : AreSpaced (closed_onto plan.kinds plan.instances m) = (tt, plain_next 41 _ refl, tt, line_ended _ declared) in
    let ports = ports_spaced (codes "input") m.inputs _ refl declared_ports.inputs (ports_spaced (codes "output") m.outputs (closed_onto plan.kinds plan.instances m) refl declared_ports.outputs (record { clear = refl; spaced = closed })) in
    kinds_spaced plan.kinds (top_parts plan.kinds plan.instances m) kinds
    (tt, reserved_next (codes "module") _ (is_word (codes "module") refl) refl, one_blank, (tt, name_next m.name _ w.top.name refl, tt, (tt, plain_next 40 _ refl, tt, (tt, reserved_next (codes "input") _ (is_word (codes "input") refl) refl, one_blank, (tt, name_next clk _ clk_name refl, tt, (tt, plain_next 44 _ refl, one_blank, (tt, reserved_next (codes "input") _ (is_word (codes "input") refl) refl, one_blank, (tt, name_next rst _ rst_name ports.clear, tt, ports.spaced))))))))
