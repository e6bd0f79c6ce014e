-- What comes of a line that stands in a dump, by what was read of it.
use Rattle.std.proofs.Common.{◌≡◌, ℕ, zero, suc, ◌+◌, inl, inr, List, [], ◌∷◌, ◌++◌, length, Bool, true, false, true≢false, not, refl, sym, ◌∙◌, ap, arith, subst}
use Rattle.std.specs.Prelude.{All, Contains, if◌then◌else◌, Result, Ok, Err, IfOk, IfSome, Option, Some, None}
use Rattle.std.specs.List.{list_any}
use Rattle.std.specs.Str.{bytes_eq}
use Rattle.std.proofs.lemmas.Cmp.{nat_list_eq_equiv}
use Rattle.std.proofs.lemmas.List.{map-append}
use Rattle.std.proofs.lemmas.List.Elements.{All-nil, All-push}
use Rattle.std.proofs.lemmas.Map.Views.{list_any-from_Contains, Contains-from_any}
use Rattle.std.proofs.lemmas.Slice.Eq.{bytes_eq-Decides}
use Rattle.av_base.specs.declared.memory.Memory.{Memory}
use Rattle.av_base.specs.declared.width.Width.{Width}
use Rattle.av_net.specs.declared.netlist.Port.{Port}
use Rattle.av_net.specs.Lexemes.{IsName}
use Rattle.av_net.specs.Names.{names_of, AreDistinct}
use Rattle.av_net.proofs.Distinct.{append_distinct, cons_distinct}
use Rattle.av_wave.specs.Dumps.{scope_line, port_line, upscope_line, time_line}
use Rattle.av_wave.specs.declared.stage.Stage.{Stage}
use Rattle.av_wave.specs.declared.stage.Stage.TheVariants.{Timescale, Scope, Ports, Definitions, Start, Cycles}
use Rattle.av_wave.specs.inner.Heads.{Head, IsHead}
use Rattle.av_wave.specs.Waves.{Recording}
use Rattle.av_wave.specs.inner.Parts.{Part, told_of, next_cycle, wave_of, IsNext, FitsPort, MayEnd}
use Rattle.av_wave.specs.inner.Stages.{Takes, Says, Turns, EndsAs, Knows}
use Rattle.av_wave.proofs.OneForm.{port_once, says_once, says_no_time}

-- ---- the scope

pub scope_none : (line : List ℕ) → ((name : List ℕ) → IsName name → line ≡ scope_line name → ⊥) → (other : Stage) → Takes Scope line other → ⊥
scope_none line none other (name, named, is, next) = none name named is

no_names : AreDistinct []
no_names i j d lt within = absurd (omega arith)

pub first_head : (name : List ℕ) → IsName name → IsHead (record { name = name; ports = [] })
first_head name named = record { named = named; ports_named = All-nil IsName; apart = no_names }

-- ---- a port

pub port_none : (head : Head) (line : List ℕ) (number : ℕ) → number ≡ length head.ports → (line ≡ upscope_line → ⊥) → ((port : Port) → IsName port.name → line ≡ port_line number port → ⊥)
    → (other : Stage) → Takes (Ports head) line other → ⊥
port_none head line number count apart none other (inl takes) = none takes.port takes.named (takes.line_is ∙ ap (λ n. port_line n takes.port) (sym count))
port_none head line number count apart none other (inr up) = apart up.0

pub port_known : (head : Head) (line : List ℕ) (number : ℕ) (port : Port) → number ≡ length head.ports → (line ≡ upscope_line → ⊥) → line ≡ port_line number port → Contains (names_of head.ports) port.name
    → (other : Stage) → Takes (Ports head) line other → ⊥
port_known head line number port count apart is known other (inl takes) =
    let same : port ≡ takes.port = port_once (length head.ports) port takes.port (ap (λ n. port_line n port) (sym count) ∙ sym is ∙ takes.line_is) in
    takes.unknown (subst (λ (p : Port). Contains (names_of head.ports) p.name) same known)
port_known head line number port count apart is known other (inr up) = apart up.0

pub port_takes : (head : Head) (line : List ℕ) (number : ℕ) (port : Port) → number ≡ length head.ports → line ≡ port_line number port → IsName port.name → (Contains (names_of head.ports) port.name → ⊥)
    → Takes (Ports head) line (Ports (record { name = head.name; ports = head.ports ++ port ∷ [] }))
port_takes head line number port count is named unknown = inl (record {
  port = port;
  line_is = is ∙ ap (λ n. port_line n port) count;
  named = named;
  unknown = unknown;
  next_is = refl;
})

-- whether a name is among others
pub known_by : (name : List ℕ) (names : List (List ℕ)) (new : Bool) → new ≡ not (list_any (bytes_eq name) names) → new ≡ false → Contains names name
known_by name names new is fails = by (list_any (bytes_eq name) names) refl
  where
    by : (t : Bool) → list_any (bytes_eq name) names ≡ t → Contains names name
    by true e = Contains-from_any (λ x y e. (bytes_eq-Decides x y).0 e) name names e
    by false e = absurd (true≢false (sym (is ∙ ap not e) ∙ fails))

pub unknown_by : (name : List ℕ) (names : List (List ℕ)) (new : Bool) → new ≡ not (list_any (bytes_eq name) names) → new ≡ true → Contains names name → ⊥
unknown_by name names new is holds there = true≢false (sym holds ∙ is ∙ ap not (list_any-from_Contains nat_list_eq_equiv name names there))

pub names_more : (ports : List Port) (port : Port) (names names' : List (List ℕ)) → names ≡ names_of ports → names' ≡ (if list_any (bytes_eq port.name) names then names else names ++ port.name ∷ [])
    → (Contains names port.name → ⊥) → names' ≡ names_of (ports ++ port ∷ [])
names_more ports port names names' are is unknown = by (list_any (bytes_eq port.name) names) refl
  where
    by : (t : Bool) → list_any (bytes_eq port.name) names ≡ t → names' ≡ names_of (ports ++ port ∷ [])
    by true e = absurd (unknown (Contains-from_any (λ x y e. (bytes_eq-Decides x y).0 e) port.name names e))
    by false e = (rw e at is) ∙ ap (λ (ns : List (List ℕ)). ns ++ port.name ∷ []) are ∙ sym (map-append (λ (p : Port). p.name) ports (port ∷ []))

pub head_more : (head : Head) (port : Port) → IsHead head → IsName port.name → (Contains (names_of head.ports) port.name → ⊥) → IsHead (record { name = head.name; ports = head.ports ++ port ∷ [] })
head_more head port is named unknown =
    let names : names_of head.ports ++ port.name ∷ [] ≡ names_of (head.ports ++ port ∷ []) = sym (map-append (λ (p : Port). p.name) head.ports (port ∷ [])) in
    let one : AreDistinct (port.name ∷ []) = cons_distinct port.name [] (λ at. (let lt = at.1 in absurd (omega (arith, lt)))) no_names in
    record {
      named = is.named;
      ports_named = subst (λ (ns : List (List ℕ)). All IsName ns) names (All-push IsName (names_of head.ports) port.name is.ports_named named);
      apart = subst AreDistinct names (append_distinct (names_of head.ports) (port.name ∷ []) is.apart one (λ name a b. unknown (subst (λ (n : List ℕ). Contains (names_of head.ports) n) (sym (only port.name name b)) a)));
    }
  where
    only : (m n : List ℕ) → Contains (m ∷ []) n → m ≡ n
    only m n (zero, lt, at) = at
    only m n (suc k, lt, at) = absurd (omega arith)

-- a head behind whose ports one was put
pub pushed_head : (name : List ℕ) (ports ports' : List Port) (head : Head) (text text' : List ℕ) (width : Width) → ◌≡◌ {A = Head} (record { name = name; ports = ports }) head → ports' ≡ ports ++ record { name = text'; width = width } ∷ [] → text' ≡ text
    → ◌≡◌ {A = Head} (record { name = name; ports = ports' }) (record { name = head.name; ports = head.ports ++ record { name = text; width = width } ∷ [] })
pushed_head name ports ports' head text text' width is more same =
    let one : List ℕ → Port = λ t. record { name = t; width = width } in
    let made : List Port → Head = λ ps. record { name = name; ports = ps } in
    let behind : Head → Head = λ h. record { name = h.name; ports = h.ports ++ one text ∷ [] } in
    ap made (more ∙ ap (λ (t : List ℕ). ports ++ one t ∷ []) same) ∙ ap behind is

-- ---- a cycle

pub time_takes : (p : Part) (line : List ℕ) → line ≡ time_line (p.cycle + 1) → MayEnd p → Takes (Cycles p) line (Cycles (next_cycle p))
time_takes p line is may = inr (record { line_is = is; may = may; next_is = refl })

pub time_none : (p : Part) (line : List ℕ) → line ≡ time_line (p.cycle + 1) → (MayEnd p → ⊥) → (other : Stage) → Takes (Cycles p) line other → ⊥
time_none p line is none other (inl takes) = says_no_time (p.cycle + 1) takes.says is
time_none p line is none other (inr takes) = none takes.may

pub change_none : (p : Part) (line : List ℕ) → (line ≡ time_line (p.cycle + 1) → ⊥) → ((number value : ℕ) → Says p.ports line number value → ⊥) → (other : Stage) → Takes (Cycles p) line other → ⊥
change_none p line apart none other (inl takes) = none takes.number takes.value takes.says
change_none p line apart none other (inr takes) = apart takes.line_is

pub change_barred : (p : Part) (line : List ℕ) (number value : ℕ) → (line ≡ time_line (p.cycle + 1) → ⊥) → Says p.ports line number value → (IsNext p number value → ⊥) → (other : Stage) → Takes (Cycles p) line other → ⊥
change_barred p line number value apart says none other (inl takes) =
    let same = says_once takes.says says in
    none (subst (λ (v : ℕ). IsNext p number v) same.1 (subst (λ (n : ℕ). IsNext p n takes.value) same.0 takes.may))
change_barred p line number value apart says none other (inr takes) = apart takes.line_is

pub change_takes : (p q : Part) (line : List ℕ) (number value : ℕ) → Says p.ports line number value → IsNext p number value → q ≡ told_of p (record { cycle = p.cycle; port = number; value = value }) → Takes (Cycles p) line (Cycles q)
change_takes p q line number value says next e = inl (record { number = number; value = value; says = says; may = next; next_is = ap Cycles e })

pub says_fits : {ports : List Port} {line : List ℕ} {number value : ℕ} → Says ports line number value → FitsPort ports number value
says_fits says = record { port = says.port; at = says.at; fits = says.fits }

-- ---- the answer by the kind of the stage

pub turns_as : (s t : Stage) (line : List ℕ) (result : Result (Option Stage) Memory) → s ≡ t → Turns t line result → Turns s line result
turns_as s t line result e turns = subst (λ (x : Stage). Turns x line result) (sym e) turns

-- ---- the end of a text

pub ends_some : (s : Stage) (p : Part) (w : Recording) → s ≡ Cycles p → p.told ≡ 0 → w ≡ wave_of p → EndsAs s w
ends_some s p w e none is = subst (λ (x : Stage). EndsAs x w) (sym e) (none, is)

pub ends_none : (s : Stage) (p : Part) → s ≡ Cycles p → (p.told ≡ 0 → ⊥) → (w : Recording) → EndsAs s w → ⊥
ends_none s p e some w ends = some (subst (λ (x : Stage). EndsAs x w) e ends).0

pub ends_other : (s : Stage) → ((p : Part) → s ≡ Cycles p → ⊥) → (w : Recording) → EndsAs s w → ⊥
ends_other Timescale none w ends = ends
ends_other Scope none w ends = ends
ends_other (Ports head) none w ends = ends
ends_other (Definitions head) none w ends = ends
ends_other (Start head) none w ends = ends
ends_other (Cycles p) none w ends = none p refl

-- ---- the names of the ports so far

-- where a line was taken, they are known of what comes of it, but behind the line of a port
pub knows_next : (s t : Stage) (line : List ℕ) (names : List (List ℕ)) → Knows s names → Takes s line t → ((head : Head) → s ≡ Ports head → Knows t names) → Knows t names
knows_next Timescale t line names knows takes ports = subst (λ (x : Stage). Knows x names) (sym takes.1) knows
knows_next Scope t line names knows (name, named, is, next) ports = subst (λ (x : Stage). Knows x names) (sym next) knows
knows_next (Ports head) t line names knows takes ports = ports head refl
knows_next (Definitions head) t line names knows takes ports = subst (λ (x : Stage). Knows x names) (sym takes.1) tt
knows_next (Start head) t line names knows takes ports = subst (λ (x : Stage). Knows x names) (sym takes.1) tt
knows_next (Cycles part) t line names knows (inl takes) ports = subst (λ (x : Stage). Knows x names) (sym takes.next_is) tt
knows_next (Cycles part) t line names knows (inr takes) ports = subst (λ (x : Stage). Knows x names) (sym takes.next_is) tt

pub knows_turned : (s : Stage) (line : List ℕ) (result : Result (Option Stage) Memory) (names : List (List ℕ)) → Knows s names → Turns s line result → ((head : Head) → s ≡ Ports head → ⊥) → IfOk result (λ next. IfSome next (λ t. Knows t names))
knows_turned s line (Ok (Some t)) names knows turns none = knows_next s t line names knows turns (λ head e. absurd (none head e))
knows_turned s line (Ok None) names knows turns none = tt
knows_turned s line (Err e) names knows turns none = tt
