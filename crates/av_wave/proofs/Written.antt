-- The text of a dump, piece by piece in the order in which it is written.
use Rattle.std.proofs.Common.{◌≡◌, ℕ, suc, ◌+◌, ◌-◌, ◌<◌, ◌≤◌, List, [], ◌∷◌, ◌++◌, map, length, take, get_or, refl, sym, ◌∙◌, ap, arith, subst, append_assoc, ◌⊎◌, inl, inr, Option, Some, false}
use Rattle.std.specs.Prelude.{codes, All, Result, Ok, Err, OnOk}
use Rattle.std.specs.List.{range_with_len}
use Rattle.std.proofs.lemmas.Grind.{flat_map-append}
use Rattle.std.proofs.lemmas.List.{append-nil, map-append, take_more, length-take-le}
use Rattle.std.proofs.lemmas.Option.{slice_get-get_or, slice_get_within}
use Rattle.av_base.specs.Outside.{SinkState, Adds}
use Rattle.av_base.proofs.Lists.{next_taken}
use Rattle.av_page.specs.Pages.{Draft, Puts}
use Rattle.av_page.proofs.Putting.{whole}
use Rattle.av_net.specs.declared.netlist.Port.{Port}
use Rattle.av_wave.specs.declared.wave.Change.{Change}
use Rattle.av_wave.specs.Waves.{Recording, IsWave}
use Rattle.av_wave.specs.Dumps.{timescale_line, scope_line, port_line, port_lines, upscope_line, definitions_line, time_line, value_line, value_line_at, change_line, head_lines, dump_text, joined}
use Rattle.av_wave.specs.inner.Written.{times, lines_to, last_cycle}
use Rattle.av_wave.proofs.Rests.{dump_rest}
use Rattle.av_wave.proofs.Values.{range_on}

pub joined_on : (xs ys : List (List ℕ)) → joined (xs ++ ys) ≡ joined xs ++ joined ys
joined_on xs ys = flat_map-append (λ (line : List ℕ). line) xs ys

pub joined_one : (xs : List (List ℕ)) (line : List ℕ) → joined (xs ++ line ∷ []) ≡ joined xs ++ line
joined_one xs line = joined_on xs (line ∷ []) ∙ ap (λ t. joined xs ++ t) (append-nil line)

-- the head, from its lines
pub head_is : (name : List ℕ) (ports : List Port)
    → timescale_line ++ codes "$scope module " ++ name ++ codes " $end\n" ++ joined (port_lines 0 ports) ++ upscope_line ++ definitions_line ≡ joined (head_lines name ports)
head_is name ports =
    regroup timescale_line (codes "$scope module ") name (codes " $end\n") (joined (port_lines 0 ports)) upscope_line definitions_line
    ∙ ap (λ rest. timescale_line ++ (scope_line name ++ rest)) (sym (joined_on (port_lines 0 ports) (upscope_line ∷ definitions_line ∷ [])))
  where
    regroup : (a b c d e f g : List ℕ) → a ++ b ++ c ++ d ++ e ++ f ++ g ≡ a ++ ((b ++ c ++ d) ++ (e ++ (f ++ (g ++ []))))
    regroup a b c d e f g = simp (append_assoc, append-nil)

-- one port more
port_lines_more : (n : ℕ) (ports : List Port) (port : Port) → port_lines n (ports ++ port ∷ []) ≡ port_lines n ports ++ port_line (n + length ports) port ∷ []
port_lines_more n [] port = ap (λ k. port_line k port ∷ []) (let e : n ≡ n + 0 = omega arith in e)
port_lines_more n (p ∷ ports) port =
    let e : n + 1 + length ports ≡ n + suc (length ports) = omega arith in
    ap (λ rest. port_line n p ∷ rest) (port_lines_more (n + 1) ports port) ∙ ap (λ k. port_line n p ∷ (port_lines (n + 1) ports ++ port_line k port ∷ [])) e

pub ports_more : (ports : List Port) (i : ℕ) (port : Port) (taken : List Port) → taken ≡ take i ports ++ port ∷ [] → length (take i ports) ≡ i → joined (port_lines 0 (take i ports)) ++ port_line i port ≡ joined (port_lines 0 taken)
ports_more ports i port taken is count =
    let e : i ≡ 0 + length (take i ports) = omega arith in
    ap (λ k. joined (port_lines 0 (take i ports)) ++ port_line k port) e ∙ sym (joined_one (port_lines 0 (take i ports)) (port_line (0 + length (take i ports)) port))
    ∙ ap joined (sym (port_lines_more 0 (take i ports) port)) ∙ ap (λ ps. joined (port_lines 0 ps)) (sym is)

-- one cycle more
pub times_more : (from cycle : ℕ) → from ≤ cycle → joined (times from cycle) ++ time_line (cycle + 1) ≡ joined (times from (cycle + 1))
times_more from cycle le =
    let count : cycle + 1 - from ≡ (cycle - from) + 1 = omega arith in
    let last : cycle + 1 ≡ (from + 1) + (cycle - from) = omega arith in
    ap (λ k. joined (times from cycle) ++ time_line k) last ∙ sym (joined_one (times from cycle) (time_line ((from + 1) + (cycle - from))))
    ∙ ap joined (sym (map-append time_line (range_with_len (from + 1) (cycle - from)) (((from + 1) + (cycle - from)) ∷ [])))
    ∙ ap (λ cs. joined (map time_line cs)) (sym (range_on (from + 1) (cycle - from)))
    ∙ ap (λ n. joined (map time_line (range_with_len (from + 1) n))) (sym count)

-- one change more
lines_more : (ports : List Port) (c : ℕ) (gs : List Change) (g : Change) → lines_to ports c (gs ++ g ∷ []) ≡ lines_to ports c gs ++ (times (last_cycle c gs) g.cycle ++ change_line ports g ∷ [])
lines_more ports c [] g = refl
lines_more ports c (h ∷ gs) g =
    ap (λ rest. times c h.cycle ++ change_line ports h ∷ rest) (lines_more ports h.cycle gs g)
    ∙ sym (append_assoc (times c h.cycle) (change_line ports h ∷ lines_to ports h.cycle gs) (times (last_cycle h.cycle gs) g.cycle ++ change_line ports g ∷ []))

pub last_more : (c : ℕ) (gs : List Change) (g : Change) → last_cycle c (gs ++ g ∷ []) ≡ g.cycle
last_more c [] g = refl
last_more c (h ∷ gs) g = last_more h.cycle gs g

pub changes_more : (ports : List Port) (gs : List Change) (g : Change) → joined (lines_to ports 0 gs) ++ joined (times (last_cycle 0 gs) g.cycle) ++ change_line ports g ≡ joined (lines_to ports 0 (gs ++ g ∷ []))
changes_more ports gs g =
    append_assoc (joined (lines_to ports 0 gs)) (joined (times (last_cycle 0 gs) g.cycle)) (change_line ports g)
    ∙ ap (λ t. joined (lines_to ports 0 gs) ++ t) (sym (joined_one (times (last_cycle 0 gs) g.cycle) (change_line ports g)))
    ∙ sym (joined_on (lines_to ports 0 gs) (times (last_cycle 0 gs) g.cycle ++ change_line ports g ∷ []))
    ∙ ap joined (sym (lines_more ports 0 gs g))

-- the whole text
pub text_is : (w : Recording) → IsWave w
    → joined (head_lines w.name w.ports) ++ time_line 0 ++ joined (lines_to w.ports 0 w.changes) ++ joined (times (last_cycle 0 w.changes) w.cycles) ≡ dump_text w
text_is w is =
    regroup (joined (head_lines w.name w.ports)) (time_line 0) (joined (lines_to w.ports 0 w.changes)) (joined (times (last_cycle 0 w.changes) w.cycles))
    ∙ ap (λ t. joined (head_lines w.name w.ports) ++ (time_line 0 ++ t)) (sym (joined_on (lines_to w.ports 0 w.changes) (times (last_cycle 0 w.changes) w.cycles)))
    ∙ sym (joined_on (head_lines w.name w.ports) (time_line 0 ∷ (lines_to w.ports 0 w.changes ++ times (last_cycle 0 w.changes) w.cycles)))
    ∙ ap joined (sym (dump_rest w is))
  where
    regroup : (a b c d : List ℕ) → a ++ b ++ c ++ d ≡ a ++ (b ++ (c ++ d))
    regroup a b c d = simp append_assoc

-- no cycle
pub times_none : (from : ℕ) → [] ≡ joined (times from from)
times_none from = let none : from - from ≡ 0 = omega arith in ap (λ n. joined (map time_line (range_with_len (from + 1) n))) (sym none)

-- the cycles up to the last
pub times_end : (from to cycle : ℕ) → to ≤ cycle → (cycle ≡ from) ⊎ (cycle ≤ to) → joined (times from cycle) ≡ joined (times from to)
times_end from to cycle above (inl none) = let count : cycle - from ≡ to - from = omega arith in ap (λ n. joined (map time_line (range_with_len (from + 1) n))) count
times_end from to cycle above (inr below) = let same : cycle ≡ to = omega arith in ap (λ n. joined (times from n)) same

-- ---- as the parts of a wave are read

pub head_said : (name name' : List ℕ) (ports ports' : List Port) → name ≡ name' → ports ≡ ports'
    → timescale_line ++ codes "$scope module " ++ name ++ codes " $end\n" ++ joined (port_lines 0 ports) ++ upscope_line ++ definitions_line ≡ joined (head_lines name' ports')
head_said name name' ports ports' e f = head_is name ports ∙ ap (λ (n : List ℕ). joined (head_lines n ports)) e ∙ ap (λ (p : List Port). joined (head_lines name' p)) f

pub port_taken : (xs ports : List Port) (i : ℕ) (port : Port) → xs ≡ ports → i < length xs → port ≡ get_or xs i port
    → joined (port_lines 0 (take i ports)) ++ port_line i port ≡ joined (port_lines 0 (take (i + 1) ports))
port_taken xs ports i port e lt at =
    let within : i < length ports = subst (λ (ys : List Port). i < length ys) e lt in
    let there : port ≡ get_or ports i port = at ∙ ap (λ (ys : List Port). get_or ys i port) e in
    ports_more ports i port (take (i + 1) ports) (next_taken ports i port within there) (length-take-le i ports (omega arith))

pub change_text : (ports : List Port) (g : Change) (port : Port) → g.port < length ports → port ≡ get_or ports g.port port → value_line port g.port g.value ≡ change_line ports g
change_text ports g port lt at = ap (λ (o : Option Port). value_line_at o g.port g.value) (ap (λ (p : Port). Some p) at ∙ sym (slice_get-get_or ports g.port port lt))

pub change_taken : (ports : List Port) (gs : List Change) (i : ℕ) (d : Change) (cycle : ℕ) → i < length gs → cycle ≡ last_cycle 0 (take i gs)
    → joined (lines_to ports 0 (take i gs)) ++ joined (times cycle (get_or gs i d).cycle) ++ change_line ports (get_or gs i d) ≡ joined (lines_to ports 0 (take (i + 1) gs))
change_taken ports gs i d cycle lt e =
    ap (λ (c : ℕ). joined (lines_to ports 0 (take i gs)) ++ joined (times c (get_or gs i d).cycle) ++ change_line ports (get_or gs i d)) e
    ∙ changes_more ports (take i gs) (get_or gs i d) ∙ ap (λ (hs : List Change). joined (lines_to ports 0 hs)) (sym (take_more gs i d lt))

pub last_taken : (gs : List Change) (i : ℕ) (d : Change) → i < length gs → (get_or gs i d).cycle ≡ last_cycle 0 (take (i + 1) gs)
last_taken gs i d lt = sym (last_more 0 (take i gs) (get_or gs i d)) ∙ ap (λ (hs : List Change). last_cycle 0 hs) (sym (take_more gs i d lt))

pub text_said : (w : Recording) → IsWave w → (ports : List Port) (changes : List Change) (cycle cycles : ℕ) → ports ≡ w.ports → changes ≡ w.changes → cycle ≡ last_cycle 0 changes → cycles ≡ w.cycles
    → joined (head_lines w.name w.ports) ++ time_line 0 ++ joined (lines_to ports 0 changes) ++ joined (times cycle cycles) ≡ dump_text w
text_said w is ports changes cycle cycles e f last all =
    let front : List ℕ = joined (head_lines w.name w.ports) ++ time_line 0 in
    let at : cycle ≡ last_cycle 0 w.changes = last ∙ ap (λ (gs : List Change). last_cycle 0 gs) f in
    ap (λ (p : List Port). front ++ joined (lines_to p 0 changes) ++ joined (times cycle cycles)) e
    ∙ ap (λ (gs : List Change). front ++ joined (lines_to w.ports 0 gs) ++ joined (times cycle cycles)) f
    ∙ ap (λ (c : ℕ). front ++ joined (lines_to w.ports 0 w.changes) ++ joined (times c cycles)) at
    ∙ ap (λ (n : ℕ). front ++ joined (lines_to w.ports 0 w.changes) ++ joined (times (last_cycle 0 w.changes) n)) all
    ∙ text_is w is

pub ports_within : (w : Recording) → IsWave w → (ports : List Port) (changes : List Change) → ports ≡ w.ports → changes ≡ w.changes → All (λ g. g.port < length ports) changes
ports_within w is ports changes e f =
    subst (λ (gs : List Change). All (λ g. g.port < length ports) gs) (sym f)
    (λ k d lt. let of = is.changes k d lt in subst (λ (ps : List Port). (get_or w.changes k d).port < length ps) (sym e) (slice_get_within w.ports (get_or w.changes k d).port of.port of.at))

-- a page that was sent
pub all_added : {T E : Type 0} (r : Result T E) {sink sink' : SinkState} {a b : Draft} {t : List ℕ} → Puts sink sink' a b t → a ≡ record { waiting = []; failed = false }
    → OnOk r (b ≡ record { waiting = []; failed = false }) → OnOk r (Adds sink.held sink'.held t)
all_added (Ok x) p start sent = whole p start (ap (λ d. d.waiting) sent) (ap (λ d. d.failed) sent)
all_added (Err e) p start sent = tt
