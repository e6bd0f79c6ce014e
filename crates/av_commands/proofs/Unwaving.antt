-- The values of a wave's ports, change by change and cycle by cycle.
use Rattle.std.proofs.Common.{◌≡◌, ◌≢◌, ℕ, zero, suc, ◌+◌, ◌<◌, ◌≤◌, List, [], ◌∷◌, ◌++◌, map, length, get_or, take, set, replicate, eqb, Option, append_assoc, add-one, true, false, refl, sym, ◌∙◌, ap, arith, subst, inl, inr}
use Rattle.std.specs.Prelude.{nat_le, All, AllPairs, slice_get, Some}
use Rattle.std.specs.List.{range_with_len}
use Rattle.std.proofs.lemmas.Bool.{eq-eqb, ne_eqb, le-leb, lt-leb, cases_eq, cases_lt}
use Rattle.std.proofs.lemmas.List.{take_more, length-map}
use Rattle.std.proofs.lemmas.List.FromFn.{length-range_with_len}
use Rattle.std.proofs.lemmas.Option.{slice_get-get_or, slice_get_within, get_or_from_slice_get}
use Rattle.av_wave.specs.declared.wave.Change.{Change}
use Rattle.av_wave.specs.Waves.{Recording, Values, zeros, changed, all_changed, changes_to, IsBefore, IsWave}
use Rattle.av_wave.proofs.Values.{changed_on}
use Rattle.av_wave.proofs.Written.{ports_within}
use Rattle.av_base.specs.Outside.{SinkState, Adds, AddsPrefix, HasRisen}
use Rattle.av_base.proofs.Moves.{Adds-more, Adds-none}
use Rattle.av_data.specs.Cycles.{cycle_line}
use Rattle.av_wave.specs.declared.fault.WaveFault.{WaveFault}
use Rattle.av_wave.specs.declared.fault.WaveFault.TheVariants as fault
use Rattle.av_wave.specs.Fronts.{IsWaveFault}
use Rattle.av_commands.specs.declared.status.Status.{Status}
use Rattle.av_commands.specs.declared.status.Status.TheVariants.{Refused, Memory as OutOfMemory}
use Rattle.av_commands.specs.Refusals.{refusal_line}
use Rattle.av_commands.specs.Waves.{port_values, wave_lines, wave_reason, RefusesUnwave, GivesUnwave}
use Rattle.av_commands.specs.Written.{IsPut, IsAnswered, refused, no_memory}
use Rattle.av_commands.specs.inner.Changing.{values_of, AreMade}
use Rattle.av_commands.proofs.Prefixes.{lines_split}
use Rattle.av_commands.proofs.Outputs.{front_more, front_after}

-- ---- one change

-- ports behind the one that changes keep their values
unchanged : (v : Values) (g : Change) (a n : ℕ) → g.port < a → map v (range_with_len a n) ≡ map (changed v g) (range_with_len a n)
unchanged v g a zero lt = refl
unchanged v g a (suc n) lt =
    let apart : eqb g.port a ≡ false = ne_eqb g.port a (λ e. absurd (omega arith)) in
    rw apart (ap (λ rest. v a ∷ rest) (unchanged v g (a + 1) n (omega arith)))

set_one : (v : Values) (g : Change) (a n p : ℕ) → g.port ≡ a + p → p < n → set (map v (range_with_len a n)) p g.value ≡ map (changed v g) (range_with_len a n)
set_one v g a zero p is lt = absurd (omega arith)
set_one v g a (suc n) zero is lt =
    let here : eqb g.port a ≡ true = eq-eqb g.port a (omega arith) in
    rw here (ap (λ rest. g.value ∷ rest) (unchanged v g (a + 1) n (omega arith)))
set_one v g a (suc n) (suc p) is lt =
    let apart : eqb g.port a ≡ false = ne_eqb g.port a (λ e. absurd (omega arith)) in
    rw apart (ap (λ rest. v a ∷ rest) (set_one v g (a + 1) n p (omega arith) (omega arith)))

pub change_made : (changes : List Change) (next n : ℕ) (words : List ℕ) (d : Change) → next < length changes → (get_or changes next d).port < n → words ≡ values_of n (take next changes)
    → set words (get_or changes next d).port (get_or changes next d).value ≡ values_of n (take (next + 1) changes)
change_made changes next n words d within lt is =
    let g = get_or changes next d in
    let all : all_changed zeros (take (next + 1) changes) ≡ changed (all_changed zeros (take next changes)) g = ap (λ (gs : List Change). all_changed zeros gs) (take_more changes next d within) ∙ changed_on zeros (take next changes) (g ∷ []) in
    ap (λ (ws : List ℕ). set ws g.port g.value) is
    ∙ set_one (all_changed zeros (take next changes)) g 0 n g.port (omega arith) lt
    ∙ ap (λ (v : Values). map v (range_with_len 0 n)) (sym all)

-- ---- one cycle

-- the changes before a place are in earlier cycles, and the others are not
pub record IsAt (changes : List Change) (cycle next : ℕ) : Type 0 where
  pub before : (k : ℕ) (g : Change) → k < next → slice_get changes k ≡ Some g → g.cycle < cycle
  pub behind : (k : ℕ) (g : Change) → next ≤ k → slice_get changes k ≡ Some g → cycle ≤ g.cycle

pub at_first : (changes : List Change) → IsAt changes 0 0
at_first changes = record { before = λ k g lt e. absurd (omega arith); behind = λ k g le e. omega arith }

at_place : (changes : List Change) (k : ℕ) (g : Change) → slice_get changes k ≡ Some g → (k < length changes) × (get_or changes k g ≡ g)
at_place changes k g e = (slice_get_within changes k g e, get_or_from_slice_get changes k g g e)

no_earlier : (g h : Change) → IsBefore g h → g.cycle ≤ h.cycle
no_earlier g h (inl lt) = omega arith
no_earlier g h (inr (e, lt)) = omega arith

pub at_next : (changes : List Change) (cycle first next : ℕ) → AllPairs IsBefore changes → IsAt changes cycle first → AreMade changes first cycle next → IsAt changes (cycle + 1) next
at_next changes cycle first next ascending at made = record {
  before = λ k g lt e. earlier k g lt e;
  behind = λ k g le e. later k g le e;
}
  where
    earlier : (k : ℕ) (g : Change) → k < next → slice_get changes k ≡ Some g → g.cycle < cycle + 1
    earlier k g lt e = elim (cases_lt k first) [
      | inl below ↦ (let early : g.cycle < cycle = at.before k g below e in omega arith)
      | inr from ↦ (let here : g.cycle ≡ cycle = made.here k g from lt e in omega arith)
    ]

    next_later : (g : Change) → slice_get changes next ≡ Some g → cycle + 1 ≤ g.cycle
    next_later g e =
        let onward : first ≤ next = made.onward in
        let late : cycle ≤ g.cycle = at.behind next g (omega arith) e in
        elim (cases_eq g.cycle cycle) [
          | inl same ↦ absurd (made.ends g e same)
          | inr other ↦ omega (arith, other)
        ]

    later : (k : ℕ) (g : Change) → next ≤ k → slice_get changes k ≡ Some g → cycle + 1 ≤ g.cycle
    later k g le e = elim (cases_eq next k) [
      | inl same ↦ next_later g (ap (slice_get changes) same ∙ e)
      | inr other ↦
          let there = at_place changes k g e in
          let h = get_or changes next g in
          let within : k < length changes = there.0 in
          let first_one : cycle + 1 ≤ h.cycle = next_later h (slice_get-get_or changes next g (omega (arith, other))) in
          let apart : IsBefore h g = subst (λ (x : Change). IsBefore h x) there.1 (ascending next k g (omega (arith, other)) within) in
          let order : h.cycle ≤ g.cycle = no_earlier h g apart in
          omega arith
    ]

-- the changes up to a cycle
up_to : (changes : List Change) (cycle next : ℕ) → IsAt changes (cycle + 1) next → changes_to cycle changes ≡ take next changes
up_to [] cycle zero at = refl
up_to [] cycle (suc next) at = refl
up_to (g ∷ changes) cycle zero at =
    let late : cycle + 1 ≤ g.cycle = at.behind 0 g (omega arith) refl in
    let apart : nat_le g.cycle cycle ≡ false = lt-leb g.cycle cycle (omega arith) in
    rw apart (up_to changes cycle 0 (record { before = λ k h lt e. absurd (omega arith); behind = λ k h le e. at.behind (suc k) h (omega arith) e }))
up_to (g ∷ changes) cycle (suc next) at =
    let early : g.cycle < cycle + 1 = at.before 0 g (omega arith) refl in
    let here : nat_le g.cycle cycle ≡ true = le-leb g.cycle cycle (omega arith) in
    rw here (ap (λ rest. g ∷ rest) (up_to changes cycle next (record { before = λ k h lt e. at.before (suc k) h (omega arith) e; behind = λ k h le e. at.behind (suc k) h (omega arith) e })))

pub values_at : (w : Recording) (cycle next n : ℕ) → n ≡ length w.ports → IsAt w.changes (cycle + 1) next → values_of n (take next w.changes) ≡ port_values w cycle
values_at w cycle next n is at =
    ap (λ (k : ℕ). values_of k (take next w.changes)) is ∙ ap (λ (gs : List Change). values_of (length w.ports) gs) (sym (up_to w.changes cycle next at))

-- ---- the changes of a cycle, one after another

-- from one place to another the changes are in this cycle
pub record AreMaking (changes : List Change) (first cycle next : ℕ) : Type 0 where
  pub onward : first ≤ next
  pub here : (k : ℕ) (g : Change) → first ≤ k → k < next → slice_get changes k ≡ Some g → g.cycle ≡ cycle

pub none_made : (changes : List Change) (first cycle : ℕ) → AreMaking changes first cycle first
none_made changes first cycle = record { onward = omega arith; here = λ k g le lt e. absurd (omega arith) }

pub one_made : (changes : List Change) (first cycle next : ℕ) (d : Change) → AreMaking changes first cycle next → next < length changes → (get_or changes next d).cycle ≡ cycle → AreMaking changes first cycle (next + 1)
one_made changes first cycle next d so_far within is = record {
  onward = let o : first ≤ next = so_far.onward in omega arith;
  here = λ k g le lt e. elim (cases_eq k next) [
    | inl last ↦
        let there : get_or changes next d ≡ g = get_or_from_slice_get changes next g d (ap (slice_get changes) (sym last) ∙ e) in
        ap (λ (h : Change). h.cycle) (sym there) ∙ is
    | inr before ↦ so_far.here k g le (omega (arith, before)) e
  ];
}

-- the next change is in a later cycle
pub some_made : (changes : List Change) (first cycle next : ℕ) (d : Change) → AreMaking changes first cycle next → ((get_or changes next d).cycle ≢ cycle) → AreMade changes first cycle next
some_made changes first cycle next d so_far other = record {
  onward = so_far.onward;
  here = so_far.here;
  ends = λ g e same. other (ap (λ (h : Change). h.cycle) (get_or_from_slice_get changes next g d e) ∙ same);
}

-- there is no next change
pub all_made : (changes : List Change) (first cycle next : ℕ) → AreMaking changes first cycle next → length changes ≤ next → AreMade changes first cycle next
all_made changes first cycle next so_far end = record {
  onward = so_far.onward;
  here = so_far.here;
  ends = λ g e same. let lt : next < length changes = slice_get_within changes next g e in omega arith;
}

-- ---- the lines

-- c cycles were written, and the words are the values of the last of them
pub record IsUnwaving (w : Recording) (c next : ℕ) (words : List ℕ) (sink sink' : SinkState) : Type 0 where
  pub at : IsAt w.changes c next
  pub within : next ≤ length w.changes
  pub words_are : words ≡ values_of (length w.ports) (take next w.changes)
  pub written : Adds sink.held sink'.held (wave_lines w c)
  pub later : sink.faults ≤ sink'.faults

no_values : (a n : ℕ) → replicate n 0 ≡ map zeros (range_with_len a n)
no_values a zero = refl
no_values a (suc n) = ap (λ rest. 0 ∷ rest) (no_values (a + 1) n)

pub starts_unwaving : (w : Recording) (words : List ℕ) (sink : SinkState) → words ≡ replicate (length w.ports) 0 → IsUnwaving w 0 0 words sink sink
starts_unwaving w words sink is = record {
  at = at_first w.changes;
  within = omega arith;
  words_are = is ∙ no_values 0 (length w.ports);
  written = Adds-none sink.held sink.held refl;
  later = omega arith;
}

values_long : (n : ℕ) (changes : List Change) → length (values_of n changes) ≡ n
values_long n changes = length-map (range_with_len 0 n) (all_changed zeros changes) ∙ length-range_with_len 0 n

pub words_long : {w : Recording} {c next : ℕ} {words : List ℕ} {sink sink' : SinkState} → IsUnwaving w c next words sink sink' → length words ≡ length w.ports
words_long {w = w} {next = next} so_far = ap length so_far.words_are ∙ values_long (length w.ports) (take next w.changes)

pub made_long : {w : Recording} {c next : ℕ} {words : List ℕ} {sink sink' : SinkState} (words' : List ℕ) (changes : List Change) → IsUnwaving w c next words sink sink' → words' ≡ values_of (length words) changes → length words' ≡ length w.ports
made_long {words = words} words' changes so_far is = ap length is ∙ values_long (length words) changes ∙ words_long so_far

-- what making the changes of a cycle asks for, with the changes as they are read
pub make_first : {w : Recording} {c next : ℕ} {words : List ℕ} {sink sink' : SinkState} (changes : List Change) → changes ≡ w.changes → IsUnwaving w c next words sink sink' → next ≤ length changes
make_first {next = next} changes e so_far = subst (λ (gs : List Change). next ≤ length gs) (sym e) so_far.within

pub make_ports : {w : Recording} {c next : ℕ} {words : List ℕ} {sink sink' : SinkState} (changes : List Change) → changes ≡ w.changes → IsWave w → IsUnwaving w c next words sink sink' → All (λ g. g.port < length words) changes
make_ports {w = w} changes e wave so_far =
    subst (λ (n : ℕ). All (λ g. g.port < n) changes) (sym (words_long so_far)) (ports_within w wave w.ports changes refl e)

pub make_words : {w : Recording} {c next : ℕ} {words : List ℕ} {sink sink' : SinkState} (changes : List Change) → changes ≡ w.changes → IsUnwaving w c next words sink sink' → words ≡ values_of (length words) (take next changes)
make_words {w = w} {next = next} {words = words} changes e so_far =
    so_far.words_are ∙ ap (λ (n : ℕ). values_of n (take next w.changes)) (sym (words_long so_far)) ∙ ap (λ (gs : List Change). values_of (length words) (take next gs)) (sym e)

-- the words once a cycle's changes have been made
pub words_made : {w : Recording} {c next : ℕ} {words : List ℕ} {sink sink' : SinkState} (next' : ℕ) (words' : List ℕ) → IsWave w → IsUnwaving w c next words sink sink' → words' ≡ values_of (length words) (take next' w.changes)
    → AreMade w.changes next c next' → words' ≡ port_values w c
words_made {w = w} {c = c} {next = next} {words = words} next' words' wave so_far is made =
    is ∙ values_at w c next' (length words) (words_long so_far) (at_next w.changes c next next' wave.ascending so_far.at made)

pub unwaves_on : {w : Recording} {c next : ℕ} {words : List ℕ} {sink sink' : SinkState} (next' : ℕ) (words' : List ℕ) (sink'' : SinkState) → IsWave w → IsUnwaving w c next words sink sink' → next' ≤ length w.changes
    → words' ≡ values_of (length words) (take next' w.changes) → AreMade w.changes next c next' → Adds sink'.held sink''.held (cycle_line c w.ports words') → sink'.faults ≤ sink''.faults
    → IsUnwaving w (c + 1) next' words' sink sink''
unwaves_on {w = w} {c = c} {next = next} {sink = sink} {sink' = sink'} next' words' sink'' wave so_far within is made adds later = record {
  at = at_next w.changes c next next' wave.ascending so_far.at made;
  within = within;
  words_are = is ∙ ap (λ (n : ℕ). values_of n (take next' w.changes)) (words_long so_far);
  written =
      rw add-one
      (subst (λ (ws : List ℕ). Adds sink.held sink''.held (wave_lines w c ++ cycle_line c w.ports ws)) (words_made next' words' wave so_far is made)
      (Adds-more sink.held sink'.held sink''.held (wave_lines w c) (cycle_line c w.ports words') so_far.written adds));
  later = let l : sink.faults ≤ sink'.faults = so_far.later in omega arith;
}

pub unwave_fails : {w : Recording} {c next : ℕ} {words : List ℕ} {sink sink' : SinkState} (next' : ℕ) (words' : List ℕ) (held'' : Option (List ℕ)) → IsWave w → IsUnwaving w c next words sink sink' → c < w.cycles
    → words' ≡ values_of (length words) (take next' w.changes) → AreMade w.changes next c next' → AddsPrefix sink'.held held'' (cycle_line c w.ports words') → AddsPrefix sink.held held'' (wave_lines w w.cycles)
unwave_fails {w = w} {c = c} {sink = sink} {sink' = sink'} next' words' held'' wave so_far lt is made front =
    let line = cycle_line c w.ports words' in
    let (rest, split) = lines_split (wave_lines w) (λ n. cycle_line n w.ports (port_values w n)) (λ n. refl) c w.cycles lt in
    let all : (wave_lines w c ++ line) ++ rest ≡ wave_lines w w.cycles =
    append_assoc (wave_lines w c) line rest ∙ ap (λ (ws : List ℕ). wave_lines w c ++ (cycle_line c w.ports ws ++ rest)) (words_made next' words' wave so_far is made) ∙ sym split in
    subst (AddsPrefix sink.held held'') all (front_more sink.held held'' (wave_lines w c ++ line) rest (front_after sink.held sink'.held held'' (wave_lines w c) line so_far.written front))

-- the fault of a later step is one since the start
pub risen_since : {w : Recording} {c next : ℕ} {words : List ℕ} {sink sink' : SinkState} (faults : ℕ) → IsUnwaving w c next words sink sink' → HasRisen sink'.faults faults → HasRisen sink.faults faults
risen_since faults so_far (inl lt) = inl (omega (arith, so_far.later, lt))
risen_since faults so_far (inr e) = inr e

-- ---- answers

pub wave_refused : (bytes : List ℕ) (Given : List ℕ → Type 0) (f : WaveFault) {sink sink' : SinkState} {status : Status} → ((line : ℕ) → f ≡ fault.WaveSyntax line → IsWaveFault bytes line)
    → (f ≡ fault.Memory → (status ≡ OutOfMemory) × (sink'.held ≡ sink.held)) → ((line : ℕ) → f ≡ fault.WaveSyntax line → IsPut sink sink' (refusal_line (wave_reason line)) Refused status)
    → IsAnswered (RefusesUnwave bytes) Given sink sink' status
wave_refused bytes Given (fault.WaveSyntax line) is none put = refused (record { line = line; fault = is line refl; told = refl }) (put line refl)
wave_refused bytes Given fault.Memory is none put = let (x, y) = none refl in no_memory x y

pub exclusive_unwave : (bytes reason out : List ℕ) → RefusesUnwave bytes reason → GivesUnwave bytes out → ⊥
exclusive_unwave bytes reason out r g = r.fault.none g.wave g.is g.text
