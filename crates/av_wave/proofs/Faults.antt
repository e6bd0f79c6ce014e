-- A dump that is read, the first faulty line of bytes that are none, and the laws on both.
use Rattle.std.proofs.Common.{◌≡◌, ℕ, suc, ◌+◌, ◌<◌, ◌≤◌, inl, inr, List, [], ◌∷◌, ◌++◌, length, take, drop, refl, sym, ◌∙◌, ap, arith, subst, append_assoc}
use Rattle.std.specs.List.{AllByRecursion}
use Rattle.std.proofs.lemmas.Bool.{cases_lt}
use Rattle.std.proofs.lemmas.List.{append-nil, take_at, take_all, take-take, take-append-drop, length_push, length-append, drop_all}
use Rattle.std.proofs.lemmas.List.Elements.{recursion_from_All}
use Rattle.av_base.proofs.Lists.{each_append}
use Rattle.av_net.specs.declared.netlist.Port.{Port}
use Rattle.av_net.specs.Lexemes.{IsName}
use Rattle.av_net.specs.Names.{names_of}
use Rattle.av_wave.specs.declared.wave.Change.{Change}
use Rattle.av_wave.specs.declared.stage.Stage.{Stage}
use Rattle.av_wave.specs.declared.stage.Stage.TheVariants.{Timescale, Scope, Ports, Definitions, Start, Cycles}
use Rattle.av_wave.specs.Waves.{Recording, IsWave}
use Rattle.av_wave.specs.Dumps.{port_lines, upscope_line, definitions_line, time_line, head_lines, dump_lines, dump_text, joined}
use Rattle.av_wave.specs.Fronts.{whole_lines, Begin, IsWaveFault}
use Rattle.av_wave.specs.inner.Parts.{FitsPort}
use Rattle.av_wave.specs.inner.Stages.{Takes, EndsAs}
use Rattle.av_wave.proofs.OneForm.{timescale_whole, upscope_whole, definitions_whole, scope_whole, port_whole, time_whole, says_whole}
use Rattle.av_wave.proofs.Lines.{IsLine, lines_back, joined_back}
use Rattle.av_wave.proofs.Rests.{AreLeft, end_left, change_left, cycle_left, wave_rest, wave_left, dump_rest}
use Rattle.av_wave.proofs.Reached.{leads_reach, reached_begins, told_wave, told_lines}
use Rattle.av_wave.proofs.Runs.{Leads, leads_on, leads_apart, leads_once, dump_leads, lines_once, says_change, all_fit}

-- ---- the lines of a dump are those of its text

ports_whole : (n : ℕ) (ports : List Port) → AllByRecursion IsName (names_of ports) → AllByRecursion IsLine (port_lines n ports)
ports_whole n [] all = tt
ports_whole n (port ∷ ports) all = (port_whole n port all.0, ports_whole (n + 1) ports all.1)

left_whole : {ports : List Port} {m c : ℕ} {gs : List Change} {lines : List (List ℕ)} → AreLeft ports m c gs lines → c + m ≤ 4096
    → AllByRecursion (λ g. FitsPort ports g.port g.value) gs → AllByRecursion IsLine lines
left_whole end_left few fit = tt
left_whole {ports = ports} (change_left {g = g} here left) few fit = (says_whole (says_change ports g fit.0), left_whole left few fit.1)
left_whole (cycle_left {c = c} left) few fit = (time_whole (c + 1) (omega arith), left_whole left (omega arith) fit)

pub dump_whole : (w : Recording) → IsWave w → AllByRecursion IsLine (dump_lines w)
dump_whole w is =
    let most : w.cycles ≤ 4096 = is.most in
    let tail : AllByRecursion IsLine (upscope_line ∷ definitions_line ∷ []) = (upscope_whole, (definitions_whole, tt)) in
    let ports = each_append IsLine (port_lines 0 w.ports) (upscope_line ∷ definitions_line ∷ []) (ports_whole 0 w.ports (recursion_from_All IsName (names_of w.ports) is.ports_named)) tail in
    let head : AllByRecursion IsLine (head_lines w.name w.ports) = (timescale_whole, (scope_whole w.name is.named, ports)) in
    let rest = left_whole (wave_left w is) (omega arith) (all_fit w is) in
    subst (AllByRecursion IsLine) (sym (dump_rest w is)) (each_append IsLine (head_lines w.name w.ports) (time_line 0 ∷ wave_rest w) head (time_whole 0 (omega arith), rest))

pub text_lines : (w : Recording) → IsWave w → whole_lines (dump_text w) ≡ dump_lines w
text_lines w is = lines_back (dump_lines w) (dump_whole w is)

-- no text is the dump of two waves
pub texts_once : (v w : Recording) → IsWave v → IsWave w → dump_text v ≡ dump_text w → v ≡ w
texts_once v w one two e = lines_once v w one two (sym (text_lines v one) ∙ ap whole_lines e ∙ text_lines w two)

-- ---- lines that lead nowhere

-- behind lines that lead to a stage where this line may not stand, they begin no wave
pub begins_none : (s : Stage) (front : List (List ℕ)) (line : List ℕ) → Leads Timescale front s → ((t : Stage) → Takes s line t → ⊥) → Begin (front ++ line ∷ []) → ⊥
begins_none s front line goes none begin =
    let told = dump_leads begin.wave begin.is in
    let whole = subst (λ lines. Leads Timescale lines (Cycles told.last)) (sym begin.text) told.goes in
    let parts = leads_apart Timescale (Cycles told.last) (front ++ line ∷ []) begin.more whole in
    let two = leads_apart Timescale parts.0 front (line ∷ []) parts.1 in
    let same : two.0 ≡ s = leads_once Timescale two.0 s front two.1 goes in
    none two.2.0 (subst (λ a. Takes a line two.2.0) same two.2.1)

-- ---- what was read of some bytes

pub record IsRead (bytes : List ℕ) (at line : ℕ) (s : Stage) : Type 0 where
  pub front : List (List ℕ)
  pub whole : front ++ whole_lines (drop at bytes) ≡ whole_lines bytes
  pub goes : Leads Timescale front s
  pub count : line ≡ length front + 1
  pub few : length front ≤ at

pub nothing_read : (bytes : List ℕ) → IsRead bytes 0 1 Timescale
nothing_read bytes = record { front = []; whole = refl; goes = refl; count = refl; few = omega arith }

pub read_on : (bytes : List ℕ) (at line size : ℕ) (s t : Stage) (text : List ℕ) → IsRead bytes at line s → whole_lines (drop at bytes) ≡ text ∷ whole_lines (drop (at + size) bytes) → 0 < size
    → Takes s text t → IsRead bytes (at + size) (line + 1) t
read_on bytes at line size s t text read first some takes =
    let few : length read.front ≤ at = read.few in
    let count : line ≡ length read.front + 1 = read.count in
    let more : length (read.front ++ text ∷ []) ≡ length read.front + 1 = length_push read.front text in
    record {
      front = read.front ++ text ∷ [];
      whole = append_assoc read.front (text ∷ []) (whole_lines (drop (at + size) bytes)) ∙ ap (λ rest. read.front ++ rest) (sym first) ∙ read.whole;
      goes = leads_on Timescale s t read.front (text ∷ []) read.goes (t, takes, refl);
      count = omega arith;
      few = omega arith;
    }

-- a line that may not stand here is the faulty one
pub fault_here : (bytes : List ℕ) (at line : ℕ) (s : Stage) (text : List ℕ) (rest : List (List ℕ)) → IsRead bytes at line s → whole_lines (drop at bytes) ≡ text ∷ rest
    → ((t : Stage) → Takes s text t → ⊥) → IsWaveFault bytes line
fault_here bytes at line s text rest read first none =
    let all : whole_lines bytes ≡ read.front ++ text ∷ rest = sym read.whole ∙ ap (λ lines. read.front ++ lines) first in
    let before : take (length read.front) (whole_lines bytes) ≡ read.front = ap (take (length read.front)) all ∙ take_at read.front (text ∷ rest) (length read.front) refl in
    let split : whole_lines bytes ≡ (read.front ++ text ∷ []) ++ rest = all ∙ sym (append_assoc read.front (text ∷ []) rest) in
    let upto : take (length read.front + 1) (whole_lines bytes) ≡ read.front ++ text ∷ [] = ap (take (length read.front + 1)) split ∙ take_at (read.front ++ text ∷ []) rest (length read.front + 1) (length_push read.front text) in
    let size : length (whole_lines bytes) ≡ length read.front + suc (length rest) = ap length all ∙ length-append read.front (text ∷ rest) in
    let refused : Begin (read.front ++ text ∷ []) → ⊥ = begins_none s read.front text read.goes none in
    record {
      none = λ w is e. refused (record { wave = w; is = is; more = rest; text = sym split ∙ ap whole_lines e ∙ text_lines w is });
      before = length read.front;
      number_is = read.count;
      within = omega arith;
      begin = subst Begin (sym before) (reached_begins s read.front (leads_reach Timescale s [] read.front refl read.goes));
      ends = λ lt begin. refused (subst Begin upto begin);
    }

-- all lines were read
all_read : (bytes : List ℕ) (at line : ℕ) (s : Stage) → IsRead bytes at line s → length bytes ≤ at → Leads Timescale (whole_lines bytes) s
all_read bytes at line s read end =
    let none : whole_lines (drop at bytes) ≡ [] = ap whole_lines (drop_all at bytes end) in
    subst (λ lines. Leads Timescale lines s) (sym (append-nil read.front) ∙ ap (λ rest. read.front ++ rest) (sym none) ∙ read.whole) read.goes

pub fault_at_end : (bytes : List ℕ) (at line : ℕ) (s : Stage) → IsRead bytes at line s → length bytes ≤ at → ((w : Recording) → EndsAs s w → ⊥) → IsWaveFault bytes line
fault_at_end bytes at line s read end none =
    let goes = all_read bytes at line s read end in
    let rest : whole_lines (drop at bytes) ≡ [] = ap whole_lines (drop_all at bytes end) in
    let all : read.front ≡ whole_lines bytes = sym (append-nil read.front) ∙ ap (λ rest. read.front ++ rest) (sym rest) ∙ read.whole in
    let size : length read.front ≡ length (whole_lines bytes) = ap length all in
    record {
      none = λ w is e. ended w is (subst (λ lines. Leads Timescale lines s) (ap whole_lines e ∙ text_lines w is) goes);
      before = length (whole_lines bytes);
      number_is = read.count ∙ ap (λ n. n + 1) size;
      within = omega arith;
      begin = subst Begin (sym (take_all (length (whole_lines bytes)) (whole_lines bytes) (omega arith))) (reached_begins s (whole_lines bytes) (leads_reach Timescale s [] (whole_lines bytes) refl goes));
      ends = λ lt begin. absurd (omega arith);
    }
  where
    ended : (w : Recording) → IsWave w → Leads Timescale (dump_lines w) s → ⊥
    ended w is goes =
        let told = dump_leads w is in
        let same : Cycles told.last ≡ s = leads_once Timescale (Cycles told.last) s (dump_lines w) told.goes goes in
        none w (subst (λ a. EndsAs a w) same (told.open_is, sym told.wave_is))

pub read_is_wave : (bytes : List ℕ) (at line : ℕ) (s : Stage) (w : Recording) → IsRead bytes at line s → length bytes ≤ at → EndsAs s w → IsWave w
read_is_wave bytes at line Timescale w read end ends = absurd ends
read_is_wave bytes at line Scope w read end ends = absurd ends
read_is_wave bytes at line (Ports head) w read end ends = absurd ends
read_is_wave bytes at line (Definitions head) w read end ends = absurd ends
read_is_wave bytes at line (Start head) w read end ends = absurd ends
read_is_wave bytes at line (Cycles p) w read end (none, is) =
    let goes = all_read bytes at line (Cycles p) read end in
    let tells = leads_reach Timescale (Cycles p) [] (whole_lines bytes) refl goes in
    subst IsWave (sym is) (told_wave p (whole_lines bytes) tells none)

-- or are the text of a wave
pub read_whole : (bytes : List ℕ) (at line : ℕ) (s : Stage) (w : Recording) → IsRead bytes at line s → length bytes ≤ at → EndsAs s w → bytes ≡ dump_text w
read_whole bytes at line Timescale w read end ends = absurd ends
read_whole bytes at line Scope w read end ends = absurd ends
read_whole bytes at line (Ports head) w read end ends = absurd ends
read_whole bytes at line (Definitions head) w read end ends = absurd ends
read_whole bytes at line (Start head) w read end ends = absurd ends
read_whole bytes at line (Cycles p) w read end (none, is) =
    let goes = all_read bytes at line (Cycles p) read end in
    let tells = leads_reach Timescale (Cycles p) [] (whole_lines bytes) refl goes in
    sym (joined_back bytes) ∙ ap joined (told_lines p (whole_lines bytes) tells none) ∙ ap dump_text (sym is)

-- ---- laws on faults

begin_front : (m n : ℕ) (lines : List (List ℕ)) → m ≤ n → n ≤ length lines → Begin (take n lines) → Begin (take m lines)
begin_front m n lines le within begin =
    let front : take m (take n lines) ≡ take m lines = take-take m n lines le in
    let split : take m lines ++ drop m (take n lines) ≡ take n lines = ap (λ f. f ++ drop m (take n lines)) (sym front) ∙ take-append-drop m (take n lines) in
    record {
      wave = begin.wave;
      is = begin.is;
      more = drop m (take n lines) ++ begin.more;
      text = sym (append_assoc (take m lines) (drop m (take n lines)) begin.more) ∙ ap (λ f. f ++ begin.more) split ∙ begin.text;
    }

-- a fault is no later than another
no_later : (bytes : List ℕ) (m n : ℕ) (one : IsWaveFault bytes m) (two : IsWaveFault bytes n) → one.before < two.before → ⊥
no_later bytes m n one two lt =
    let within : two.before ≤ length (whole_lines bytes) = two.within in
    one.ends (omega arith) (begin_front (one.before + 1) two.before (whole_lines bytes) (omega arith) within two.begin)

pub fault_once : (bytes : List ℕ) (m n : ℕ) → IsWaveFault bytes m → IsWaveFault bytes n → m ≡ n
fault_once bytes m n one two = elim (cases_lt one.before two.before) [
  | inl lt ↦ absurd (no_later bytes m n one two lt)
  | inr ge ↦ elim (cases_lt two.before one.before) [
    | inl lt ↦ absurd (no_later bytes n m two one lt)
    | inr le ↦ omega (arith, one.number_is, two.number_is)
  ]
]

-- ---- answers

pub found_only : (bytes : List ℕ) (v w : Recording) → IsWave v → bytes ≡ dump_text v → IsWave w → bytes ≡ dump_text w → v ≡ w
found_only bytes v w one e two f = texts_once v w one two (sym e ∙ f)
