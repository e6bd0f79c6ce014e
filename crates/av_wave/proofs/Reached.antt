-- Lines that were read begin the text of some wave.
use Rattle.std.proofs.Common.{◌≡◌, ℕ, zero, suc, ◌+◌, ◌-◌, ◌≤◌, inl, inr, List, [], ◌∷◌, ◌++◌, length, refl, sym, ◌∙◌, ap, arith, subst, All, append_assoc}
use Rattle.std.specs.Prelude.{Contains, codes}
use Rattle.std.proofs.lemmas.Bool.{cases_eq}
use Rattle.std.proofs.lemmas.List.{append-nil, map-append}
use Rattle.std.proofs.lemmas.Nat.{pow_pos}
use Rattle.std.proofs.lemmas.List.Elements.{All-push}
use Rattle.av_base.proofs.Lists.{there_is}
use Rattle.av_net.specs.declared.netlist.Port.{Port}
use Rattle.av_net.specs.Lexemes.{IsName}
use Rattle.av_net.specs.Names.{names_of, AreDistinct}
use Rattle.av_net.proofs.Distinct.{append_distinct}
use Rattle.av_wave.specs.declared.wave.Change.{Change}
use Rattle.av_wave.specs.declared.stage.Stage.{Stage}
use Rattle.av_wave.specs.declared.stage.Stage.TheVariants.{Timescale, Scope, Ports, Definitions, Start, Cycles}
use Rattle.av_wave.specs.Waves.{IsWave}
use Rattle.av_wave.specs.Dumps.{timescale_line, scope_line, port_line, port_lines, upscope_line, definitions_line, time_line, value_line, value_line_at, change_line, head_lines, dump_lines}
use Rattle.av_wave.specs.Fronts.{Begin}
use Rattle.av_wave.specs.inner.Heads.{Head, IsHead}
use Rattle.av_wave.specs.inner.Parts.{Part, at_first, told_of, next_cycle, wave_of, IsNext, FitsPort, MayEnd, IsPart}
use Rattle.av_wave.specs.inner.Stages.{Takes, Says}
use Rattle.av_wave.proofs.Named.{name_from}
use Rattle.av_wave.proofs.PartSteps.{first_part, part_told, part_next, part_wave}
use Rattle.av_wave.proofs.Rests.{AreLeft, end_left, change_left, cycle_left, dump_from}
use Rattle.av_wave.proofs.Runs.{Leads}

-- ---- what was read

-- the lines tell of this part of a wave
pub record Tells (p : Part) (front : List (List ℕ)) : Type 0 where
  pub part : IsPart p
  pub back : List (List ℕ)
  pub front_is : front ≡ head_lines p.name p.ports ++ time_line 0 ∷ back
  -- with what may be left of a wave they are the rest of one
  pub goes : (m : ℕ) (more : List Change) (lines : List (List ℕ)) → (m ≡ 0 → p.told ≡ 0) → AreLeft p.ports m p.cycle more lines
      → AreLeft p.ports (p.cycle + m) 0 (p.changes ++ more) (back ++ lines)

abbrev opened : Head → List (List ℕ)
opened head = timescale_line ∷ scope_line head.name ∷ port_lines 0 head.ports

-- the lines lead to this stage
abbrev pub IsReached : Stage → List (List ℕ) → Type 0
IsReached Timescale front = front ≡ []
IsReached Scope front = front ≡ timescale_line ∷ []
IsReached (Ports head) front = IsHead head × (front ≡ opened head)
IsReached (Definitions head) front = IsHead head × (front ≡ opened head ++ upscope_line ∷ [])
IsReached (Start head) front = IsHead head × (front ≡ head_lines head.name head.ports)
IsReached (Cycles p) front = Tells p front

-- ---- one line more

no_ports : (name : List ℕ) → IsName name → IsHead (record { name = name; ports = [] })
no_ports name named = record { named = named; ports_named = λ k d lt. absurd (omega arith); apart = λ i j d lt within. absurd (omega arith) }

port_lines_on : (n : ℕ) (ports : List Port) (port : Port) → port_lines n (ports ++ port ∷ []) ≡ port_lines n ports ++ port_line (n + length ports) port ∷ []
port_lines_on n [] port = ap (λ k. port_line k port ∷ []) (let e : n ≡ n + 0 = omega arith in e)
port_lines_on n (p ∷ ports) port =
    let e : n + 1 + length ports ≡ n + suc (length ports) = omega arith in
    ap (λ rest. port_line n p ∷ rest) (port_lines_on (n + 1) ports port) ∙ ap (λ k. port_line n p ∷ (port_lines (n + 1) ports ++ port_line k port ∷ [])) e

one_distinct : (name : List ℕ) → AreDistinct (name ∷ [])
one_distinct name = λ i j d lt within. absurd (omega arith)

port_reached : (head : Head) (port : Port) → IsHead head → IsName port.name → (Contains (names_of head.ports) port.name → ⊥) → IsHead (record { name = head.name; ports = head.ports ++ port ∷ [] })
port_reached head port is named unknown =
    let names : names_of (head.ports ++ port ∷ []) ≡ names_of head.ports ++ port.name ∷ [] = map-append (λ (p : Port). p.name) head.ports (port ∷ []) in
    record {
      named = is.named;
      ports_named = subst (All IsName) (sym names) (All-push IsName (names_of head.ports) port.name is.ports_named named);
      apart = subst AreDistinct (sym names) (append_distinct (names_of head.ports) (port.name ∷ []) is.apart (one_distinct port.name)
          (λ name there here. unknown (subst (Contains (names_of head.ports)) (only_one port.name name here) there)));
    }
  where
    only_one : (a b : List ℕ) → Contains (a ∷ []) b → b ≡ a
    only_one a b (zero, lt, e) = sym e
    only_one a b (suc k, lt, e) = absurd (omega arith)

change_told : (p : Part) (line : List ℕ) (n v : ℕ) → Says p.ports line n v → line ≡ change_line p.ports (record { cycle = p.cycle; port = n; value = v })
change_told p line n v says = says.line_is ∙ ap (λ o. value_line_at o n v) (sym says.at)

-- a change, and what may be left behind it
change_goes : (p : Part) (back : List (List ℕ)) (g : Change) (line : List ℕ) → g.cycle ≡ p.cycle → line ≡ change_line p.ports g
    → ((m : ℕ) (more : List Change) (lines : List (List ℕ)) → (m ≡ 0 → p.told ≡ 0) → AreLeft p.ports m p.cycle more lines → AreLeft p.ports (p.cycle + m) 0 (p.changes ++ more) (back ++ lines))
    → (m : ℕ) (more : List Change) (lines : List (List ℕ)) → (m ≡ 0 → g.port + 1 ≡ 0) → AreLeft p.ports m p.cycle more lines
    → AreLeft p.ports (p.cycle + m) 0 ((p.changes ++ g ∷ []) ++ more) ((back ++ line ∷ []) ++ lines)
change_goes p back g line here is goes zero more lines closed left = absurd (let e : g.port + 1 ≡ 0 = closed refl in omega arith)
change_goes p back g line here is goes (suc m) more lines closed left =
    let whole = goes (suc m) (g ∷ more) (change_line p.ports g ∷ lines) (λ none. absurd (omega arith)) (change_left here left) in
    let changes : p.changes ++ g ∷ more ≡ (p.changes ++ g ∷ []) ++ more = sym (append_assoc p.changes (g ∷ []) more) in
    let rest : back ++ change_line p.ports g ∷ lines ≡ (back ++ line ∷ []) ++ lines = ap (λ (l : List ℕ). back ++ l ∷ lines) (sym is) ∙ sym (append_assoc back (line ∷ []) lines) in
    subst (λ gs. AreLeft p.ports (p.cycle + suc m) 0 gs ((back ++ line ∷ []) ++ lines)) changes (subst (λ ls. AreLeft p.ports (p.cycle + suc m) 0 (p.changes ++ g ∷ more) ls) rest whole)

pub change_tells : (p : Part) (front : List (List ℕ)) (line : List ℕ) (n v : ℕ) → Tells p front → Says p.ports line n v → IsNext p n v
    → Tells (told_of p (record { cycle = p.cycle; port = n; value = v })) (front ++ line ∷ [])
change_tells p front line n v tells says next =
    let g : Change = record { cycle = p.cycle; port = n; value = v } in
    let is : line ≡ change_line p.ports g = change_told p line n v says in
    let fit : FitsPort p.ports n v = record { port = says.port; at = says.at; fits = says.fits } in
    record {
      part = part_told p g tells.part next refl fit;
      back = tells.back ++ line ∷ [];
      front_is = ap (λ f. f ++ line ∷ []) tells.front_is ∙ append_assoc (head_lines p.name p.ports) (time_line 0 ∷ tells.back) (line ∷ []);
      goes = change_goes p tells.back g line refl is tells.goes;
    }

pub time_tells : (p : Part) (front : List (List ℕ)) → Tells p front → MayEnd p → Tells (next_cycle p) (front ++ time_line (p.cycle + 1) ∷ [])
time_tells p front tells may =
    let line = time_line (p.cycle + 1) in
    record {
      part = part_next p tells.part may;
      back = tells.back ++ line ∷ [];
      front_is = ap (λ f. f ++ line ∷ []) tells.front_is ∙ append_assoc (head_lines p.name p.ports) (time_line 0 ∷ tells.back) (line ∷ []);
      goes = λ m more lines closed left.
          let all : p.cycle + suc m ≡ (p.cycle + 1) + m = omega arith in
          subst (λ k. AreLeft p.ports k 0 (p.changes ++ more) ((tells.back ++ line ∷ []) ++ lines)) all
          (subst (λ rest. AreLeft p.ports (p.cycle + suc m) 0 (p.changes ++ more) rest) (sym (append_assoc tells.back (line ∷ []) lines)) (tells.goes (suc m) more (line ∷ lines) (λ none. absurd (omega arith)) (cycle_left left)));
    }

-- the head and the line that begins the first cycle
pub start_tells : (head : Head) (front : List (List ℕ)) → IsHead head → front ≡ head_lines head.name head.ports → Tells (at_first head.name head.ports) (front ++ time_line 0 ∷ [])
start_tells head front is front_is = record {
  part = first_part head.name head.ports is.named is.ports_named is.apart;
  back = [];
  front_is = ap (λ f. f ++ time_line 0 ∷ []) front_is;
  goes = λ m more lines closed left. let all : m ≡ 0 + m = omega arith in subst (λ k. AreLeft head.ports k 0 more lines) all left;
}

pub reached_on : (s t : Stage) (front : List (List ℕ)) (line : List ℕ) → IsReached s front → Takes s line t → IsReached t (front ++ line ∷ [])
reached_on Timescale t front line e (is, next) = subst (λ a. IsReached a (front ++ line ∷ [])) (sym next) (ap (λ f. f ++ line ∷ []) e ∙ ap (λ (l : List ℕ). l ∷ []) is)
reached_on Scope t front line e (name, named, is, next) =
    let head : Head = record { name = name; ports = [] } in
    subst (λ a. IsReached a (front ++ line ∷ [])) (sym next) (no_ports name named, ap (λ f. f ++ line ∷ []) e ∙ ap (λ (l : List ℕ). timescale_line ∷ l ∷ []) is)
reached_on (Ports head) t front line (is, e) (inl takes) =
    let lines : port_lines 0 (head.ports ++ takes.port ∷ []) ≡ port_lines 0 head.ports ++ port_line (0 + length head.ports) takes.port ∷ [] = port_lines_on 0 head.ports takes.port in
    let count : length head.ports ≡ 0 + length head.ports = omega arith in
    let line_is : line ≡ port_line (0 + length head.ports) takes.port = takes.line_is ∙ ap (λ k. port_line k takes.port) count in
    subst (λ a. IsReached a (front ++ line ∷ [])) (sym takes.next_is) (
      port_reached head takes.port is takes.named takes.unknown,
      ap (λ f. f ++ line ∷ []) e ∙ ap (λ (l : List ℕ). opened head ++ l ∷ []) line_is ∙ ap (λ rest. timescale_line ∷ scope_line head.name ∷ rest) (sym lines),
    )
reached_on (Ports head) t front line (is, e) (inr (line_is, next)) =
    subst (λ a. IsReached a (front ++ line ∷ [])) (sym next) (is, ap (λ f. f ++ line ∷ []) e ∙ ap (λ (l : List ℕ). opened head ++ l ∷ []) line_is)
reached_on (Definitions head) t front line (is, e) (line_is, next) =
    subst (λ a. IsReached a (front ++ line ∷ [])) (sym next)
    (is, ap (λ f. f ++ line ∷ []) e ∙ append_assoc (opened head) (upscope_line ∷ []) (line ∷ []) ∙ ap (λ (l : List ℕ). opened head ++ upscope_line ∷ l ∷ []) line_is)
reached_on (Start head) t front line (is, e) (line_is, next) =
    subst (λ a. IsReached a (front ++ line ∷ [])) (sym next) (subst (λ l. Tells (at_first head.name head.ports) (front ++ l ∷ [])) (sym line_is) (start_tells head front is e))
reached_on (Cycles p) t front line tells (inl takes) =
    subst (λ a. IsReached a (front ++ line ∷ [])) (sym takes.next_is) (change_tells p front line takes.number takes.value tells takes.says takes.may)
reached_on (Cycles p) t front line tells (inr takes) =
    subst (λ a. IsReached a (front ++ line ∷ [])) (sym takes.next_is) (subst (λ l. Tells (next_cycle p) (front ++ l ∷ [])) (sym takes.line_is) (time_tells p front tells takes.may))

-- ---- a whole text

pub told_wave : (p : Part) (front : List (List ℕ)) → Tells p front → p.told ≡ 0 → IsWave (wave_of p)
told_wave p front tells none = part_wave p tells.part none

pub told_lines : (p : Part) (front : List (List ℕ)) → Tells p front → p.told ≡ 0 → front ≡ dump_lines (wave_of p)
told_lines p front tells none =
    let all : p.cycle + 0 ≡ p.cycle = omega arith in
    let left : AreLeft p.ports (p.cycle + 0) 0 (p.changes ++ []) (tells.back ++ []) = tells.goes 0 [] [] (λ _. none) end_left in
    let rest = subst (λ ls. AreLeft p.ports p.cycle 0 p.changes ls) (append-nil tells.back)
    (subst (λ gs. AreLeft p.ports p.cycle 0 gs (tells.back ++ [])) (append-nil p.changes) (subst (λ k. AreLeft p.ports k 0 (p.changes ++ []) (tells.back ++ [])) all left)) in
    tells.front_is ∙ sym (dump_from (wave_of p) tells.back rest)

-- ---- each stage can go on to a whole text

begin_before : (front : List (List ℕ)) (line : List ℕ) → Begin (front ++ line ∷ []) → Begin front
begin_before front line begin = record { wave = begin.wave; is = begin.is; more = line ∷ begin.more; text = sym (append_assoc front (line ∷ []) begin.more) ∙ begin.text }

begin_open : (p : Part) (front : List (List ℕ)) → Tells p front → p.told ≡ 0 → Begin front
begin_open p front tells none = record { wave = wave_of p; is = told_wave p front tells none; more = []; text = append-nil front ∙ told_lines p front tells none }

-- by the line that ends the cycle
begin_ended : (p : Part) (front : List (List ℕ)) → Tells p front → MayEnd p → Begin front
begin_ended p front tells may = begin_before front (time_line (p.cycle + 1)) (begin_open (next_cycle p) (front ++ time_line (p.cycle + 1) ∷ []) (time_tells p front tells may) refl)

-- in the first cycle by a change of each port that is left
begin_first : (left : ℕ) (p : Part) (front : List (List ℕ)) → Tells p front → p.cycle ≡ 0 → p.told + left ≡ length p.ports → Begin front
begin_first zero p front tells zeroth all = begin_ended p front tells (record { most = omega arith; whole = λ _. omega arith })
begin_first (suc left) p front tells zeroth all =
    let there = there_is p.ports p.told (omega arith) in
    let g : Change = record { cycle = p.cycle; port = p.told; value = 0 } in
    let says : Says p.ports (value_line there.0 p.told 0) p.told 0 = record { port = there.0; at = there.1; fits = pow_pos there.0.width.bits; line_is = refl } in
    let next : IsNext p p.told 0 = record { most = omega arith; first = λ _. refl; order = λ some. absurd (omega arith); news = λ some. absurd (omega arith) } in
    let line = value_line there.0 p.told 0 in
    begin_before front line (begin_first left (told_of p g) (front ++ line ∷ []) (change_tells p front line p.told 0 tells says next) zeroth (omega arith))

begin_cycles : (p : Part) (front : List (List ℕ)) → Tells p front → Begin front
begin_cycles p front tells = elim (cases_eq p.told 0) [
  | inl none ↦ begin_open p front tells none
  | inr some ↦ elim (cases_eq p.cycle 0) [
    | inl zeroth ↦ (let told : p.told ≤ length p.ports = tells.part.told in begin_first (length p.ports - p.told) p front tells zeroth (omega arith))
    | inr later ↦ begin_ended p front tells (record { most = tells.part.room (omega (arith, some)); whole = λ zeroth. absurd (later zeroth) })
  ]
]

begin_start : (head : Head) (front : List (List ℕ)) → IsReached (Start head) front → Begin front
begin_start head front (is, e) = begin_before front (time_line 0) (begin_open (at_first head.name head.ports) (front ++ time_line 0 ∷ []) (start_tells head front is e) refl)

begin_definitions : (head : Head) (front : List (List ℕ)) → IsReached (Definitions head) front → Begin front
begin_definitions head front reached =
    begin_before front definitions_line (begin_start head (front ++ definitions_line ∷ []) (reached_on (Definitions head) (Start head) front definitions_line reached (refl, refl)))

begin_ports : (head : Head) (front : List (List ℕ)) → IsReached (Ports head) front → Begin front
begin_ports head front reached =
    begin_before front upscope_line (begin_definitions head (front ++ upscope_line ∷ []) (reached_on (Ports head) (Definitions head) front upscope_line reached (inr (refl, refl))))

begin_scope : (front : List (List ℕ)) → IsReached Scope front → Begin front
begin_scope front reached =
    let name = codes "m" in
    let named : IsName name = name_from name refl in
    let line = scope_line name in
    begin_before front line (begin_ports (record { name = name; ports = [] }) (front ++ line ∷ []) (reached_on Scope (Ports (record { name = name; ports = [] })) front line reached (name, named, refl, refl)))

pub reached_begins : (s : Stage) (front : List (List ℕ)) → IsReached s front → Begin front
reached_begins Timescale front reached = begin_before front timescale_line (begin_scope (front ++ timescale_line ∷ []) (reached_on Timescale Scope front timescale_line reached (refl, refl)))
reached_begins Scope front reached = begin_scope front reached
reached_begins (Ports head) front reached = begin_ports head front reached
reached_begins (Definitions head) front reached = begin_definitions head front reached
reached_begins (Start head) front reached = begin_start head front reached
reached_begins (Cycles p) front tells = begin_cycles p front tells

-- lines that lead to a stage reach it
pub leads_reach : (s t : Stage) (front lines : List (List ℕ)) → IsReached s front → Leads s lines t → IsReached t (front ++ lines)
leads_reach s t front [] reached e = subst (λ a. IsReached a (front ++ [])) e (subst (IsReached s) (sym (append-nil front)) reached)
leads_reach s t front (line ∷ lines) reached (next, takes, goes) =
    subst (IsReached t) (append_assoc front (line ∷ []) lines) (leads_reach next t (front ++ line ∷ []) lines (reached_on s next front line reached takes) goes)
