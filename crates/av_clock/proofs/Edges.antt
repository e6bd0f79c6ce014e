-- The words of registers at an edge, over words by place.
use Rattle.std.proofs.Common.{◌≡◌, ◌≢◌, ℕ, ◌+◌, ◌<◌, ◌≤◌, List, length, get_or, set, refl, sym, ◌∙◌, ap, subst, arith, inl, inr, Bool, true, false, if◌then◌else◌}
use Rattle.std.specs.Prelude.{Contains}
use Rattle.std.proofs.lemmas.Bool.{cases_lt}
use Rattle.std.proofs.lemmas.List.{get_or-map, length-map, get_or_default, get_or-set_same, get_or-set_other}
use Rattle.std.proofs.lemmas.Option.{slice_get_within, slice_get_cases}
use Rattle.av_base.specs.Words.{IsWord}
use Rattle.av_net.specs.declared.netlist.Step.{Step}
use Rattle.av_net.specs.declared.netlist.Module.{Module}
use Rattle.av_net.specs.Meaning.{Words, word_of, operand_width}
use Rattle.av_net.specs.Names.{AreDistinct, names_of, given_names, wire_names, all_names, targets_of, registers_of, width_of}
use Rattle.av_net.specs.Settled.{Agree}
use Rattle.av_net.specs.Sound.{IsSound}
use Rattle.av_net.proofs.Distinct.{apart, front_distinct, rest_distinct}
use Rattle.av_net.proofs.Cycles.{is_declared, register_contained}
use Rattle.av_net.proofs.Fits.{word_fits}
use Rattle.av_net.proofs.Once.{agree_by}
use Rattle.av_net.proofs.Settles.{with_word, with_word_same, with_word_other, names_distinct}
use Rattle.av_clock.specs.declared.gate.FlipFlop.{FlipFlop}
use Rattle.av_clock.specs.declared.gate.Reading.TheVariants.{At}
use Rattle.av_clock.specs.Named.{named, AllFit}
use Rattle.av_clock.specs.Gates.{reading_word, IsWithin, IsStepped, AreStepped, AreTaken, FitRegisters}
use Rattle.av_clock.proofs.Lookup.{look_set}
use Rattle.av_clock.proofs.Settling.{read_word, read_within, fit_with}

-- a flip-flop with its step
pub record IsFor (m : Module) (n : ℕ) (flip_flop : FlipFlop) : Type 0 where
  pub step : Step
  pub within : n < length m.steps
  pub at : step ≡ get_or m.steps n step
  pub stepped : IsStepped m step flip_flop

-- the n-th flip-flop is for the n-th step
pub is_for : (m : Module) (n : ℕ) (flip_flops : List FlipFlop) (flip_flop : FlipFlop) → AreStepped m (length m.steps) flip_flops → n < length flip_flops → flip_flop ≡ get_or flip_flops n flip_flop → IsFor m n flip_flop
is_for m n flip_flops flip_flop are lt at = elim (slice_get_cases m.steps n).1 [
  | inl (step, within, found, here) ↦ record {
    step = step;
    within = within;
    at = sym here;
    stepped = rw (here, sym at) at (are.each n step flip_flop within);
  }
  | inr (past, none) ↦ let count = are.count in absurd (omega arith)
]

-- what a flip-flop reads is there
pub next_within : (m : Module) (words : List ℕ) (n : ℕ) (flip_flop : FlipFlop) → length words ≡ length (all_names m) → IsFor m n flip_flop → IsWithin (length words) flip_flop.next
next_within m words n flip_flop same for = read_within (all_names m) words for.step.next flip_flop.next same for.stepped.next

-- and so is its register
pub register_within : (m : Module) (words : List ℕ) (n : ℕ) (flip_flop : FlipFlop) → length words ≡ length (all_names m) → IsFor m n flip_flop → flip_flop.register < length words
register_within m words n flip_flop same for = let lt : flip_flop.register < length (all_names m) = slice_get_within (all_names m) flip_flop.register for.step.register for.stepped.register in omega arith

-- one more word
taken_more : (m : Module) (reset : Bool) (old : Words) (n : ℕ) (next : List ℕ) (word : ℕ) (step : Step) → n < length next → n < length m.steps → step ≡ get_or m.steps n step
    → word ≡ (if reset then step.reset else word_of old step.next) → AreTaken m reset old n next → AreTaken m reset old (n + 1) (set next n word)
taken_more m reset old n next word step lt within at is so_far k below d = elim (cases_lt k n) [
  | inl before ↦ let other : k ≢ n = omega arith in get_or-set_other next n k word 0 other ∙ so_far k before d
  | inr now ↦
      let same : k ≡ n = omega arith in
      let here : get_or m.steps k d ≡ step = ap (λ i. get_or m.steps i d) same ∙ get_or_default m.steps n d step within ∙ sym at in
      rw here (ap (λ i. get_or (set next n word) i 0) same ∙ get_or-set_same next n word 0 lt ∙ is)
]

-- the word of an operand
pub next_more : (m : Module) (words next : List ℕ) (n : ℕ) (flip_flop : FlipFlop) (word : ℕ) → IsSound m → length words ≡ length (all_names m) → length next ≡ length m.steps → IsFor m n flip_flop
    → word ≡ reading_word words flip_flop.next → AreTaken m false (named m words) n next → AreTaken m false (named m words) (n + 1) (set next n word)
next_more m words next n flip_flop word sound same long for is so_far =
    let within : n < length m.steps = for.within in
    taken_more m false (named m words) n next word for.step (omega arith) within for.at
    (is ∙ read_word (all_names m) words for.step.next flip_flop.next (names_distinct m sound) same for.stepped.next) so_far

-- the literal of a reset
pub reset_more : (m : Module) (next : List ℕ) (n : ℕ) (flip_flop : FlipFlop) → length next ≡ length m.steps → IsFor m n flip_flop
    → ((old : Words) → AreTaken m true old n next) → (old : Words) → AreTaken m true old (n + 1) (set next n flip_flop.reset)
reset_more m next n flip_flop long for so_far old =
    let within : n < length m.steps = for.within in
    taken_more m true old n next flip_flop.reset for.step (omega arith) within for.at for.stepped.reset (so_far old)

-- after the last of them
pub taken_all : (m : Module) (reset : Bool) (old : Words) (n : ℕ) (next : List ℕ) → length m.steps ≤ n → AreTaken m reset old n next → AreTaken m reset old (length m.steps) next
taken_all m reset old n next past so_far k lt d = so_far k (omega arith) d

-- words of operands fit the registers
pub next_fits : (m : Module) (words next : List ℕ) → IsSound m → AllFit m words → AreTaken m false (named m words) (length m.steps) next → FitRegisters m next
next_fits m words next sound fit taken k lt d =
    let step = get_or m.steps k d in
    let word : IsWord (operand_width (width_of m) step.next) (word_of (named m words) step.next) = word_fits (width_of m) (all_names m) (named m words) step.next fit (sound.steps_read k d lt) (sound.steps_fit k d lt) in
    let wide : operand_width (width_of m) step.next ≡ width_of m step.register = sound.step_widths k d lt in
    let given : get_or next k 0 ≡ word_of (named m words) step.next = taken k lt d in
    rw given (rw wide at word)

-- and so do the literals of resets
pub reset_fits : (m : Module) (old : Words) (next : List ℕ) → IsSound m → AreTaken m true old (length m.steps) next → FitRegisters m next
reset_fits m old next sound taken k lt d =
    let given : get_or next k 0 ≡ (get_or m.steps k d).reset = taken k lt d in
    rw given (sound.resets_fit k d lt)

-- the first n registers have their new words, and no other name has another word
pub record Stores (m : Module) (before words next : List ℕ) (n : ℕ) : Type 0 where
  pub registers : (k : ℕ) → k < n → (d : Step) → named m words (get_or m.steps k d).register ≡ get_or next k 0
  pub others : (name : List ℕ) → (Contains (registers_of m.steps) name → ⊥) → named m words name ≡ named m before name
  pub fit : AllFit m words

-- two steps have two registers
pub registers_apart : (m : Module) (k n : ℕ) (d e : Step) → IsSound m → k < n → n < length m.steps → (get_or m.steps k d).register ≢ (get_or m.steps n e).register
registers_apart m k n d e sound lt within same =
    let names = registers_of m.steps in
    let register = (get_or m.steps n e).register in
    let count : length names ≡ length m.steps = length-map m.steps (λ (step : Step). step.register) in
    let distinct : AreDistinct names = rest_distinct (targets_of m.drives) names sound.driven_once in
    let first : get_or names k register ≡ (get_or m.steps k d).register = get_or-map (λ (step : Step). step.register) m.steps k d register (omega arith) in
    let second : get_or names n register ≡ register = get_or-map (λ (step : Step). step.register) m.steps n e register within in
    distinct k n register lt (omega arith) (first ∙ same ∙ sym second)

-- one register more
pub stores_more : (m : Module) (before words next : List ℕ) (n : ℕ) (flip_flop : FlipFlop) (word : ℕ) → IsSound m → length words ≡ length (all_names m) → IsFor m n flip_flop → word ≡ get_or next n 0 → FitRegisters m next
    → Stores m before words next n → Stores m before (set words flip_flop.register word) next (n + 1)
stores_more m before words next n flip_flop word sound same for is fits so_far =
    let step = for.step in
    let within : n < length m.steps = for.within in
    let at : step ≡ get_or m.steps n step = for.at in
    let wrote : named m (set words flip_flop.register word) ≡ with_word (named m words) step.register word = look_set (all_names m) words flip_flop.register word step.register (names_distinct m sound) same for.stepped.register in
    let fitting : IsWord (width_of m step.register) word = rw (is, at) (fits n within step) in
    record {
      registers = λ k lt d. elim (cases_lt k n) [
        | inl earlier ↦
            let differs : (get_or m.steps k d).register ≢ step.register = rw (sym at) at (registers_apart m k n d step sound earlier within) in
            rw wrote (with_word_other (named m words) step.register word (get_or m.steps k d).register differs ∙ so_far.registers k earlier d)
        | inr now ↦
            let e : k ≡ n = omega arith in
            let here : get_or m.steps k d ≡ step = ap (λ i. get_or m.steps i d) e ∙ get_or_default m.steps n d step within ∙ sym at in
            rw (here, wrote) (with_word_same (named m words) step.register word ∙ is ∙ ap (λ i. get_or next i 0) (sym e))
      ];
      others = λ name none.
          let contained : Contains (registers_of m.steps) step.register = rw (sym at) at (register_contained m n step within) in
          let differs : name ≢ step.register = λ e. none (subst (Contains (registers_of m.steps)) (sym e) contained) in
          rw wrote (with_word_other (named m words) step.register word name differs ∙ so_far.others name none);
      fit = rw wrote (fit_with (width_of m) (all_names m) (named m words) step.register word so_far.fit fitting);
    }

-- before the first
pub stores_none : (m : Module) (words next : List ℕ) → AllFit m words → Stores m words words next 0
stores_none m words next fit = record { registers = λ k lt d. absurd (omega arith); others = λ name none. refl; fit = fit }

-- the ports are no registers
pub ports_kept : (m : Module) (before words next : List ℕ) (n : ℕ) → IsSound m → Stores m before words next n → Agree (names_of m.inputs) (named m before) (named m words)
ports_kept m before words next n sound so_far =
    let given : AreDistinct (given_names m) = front_distinct (given_names m) (wire_names m) (names_distinct m sound) in
    agree_by (names_of m.inputs) (named m before) (named m words) (λ name at. sym (so_far.others name (λ stepped. apart (names_of m.inputs) (names_of m.registers) name given at (is_declared m sound name stepped))))

-- after the last
pub registers_stored : (m : Module) (before words next : List ℕ) (n : ℕ) → length m.steps ≤ n → Stores m before words next n → (k : ℕ) → k < length m.steps → (d : Step) → named m words (get_or m.steps k d).register ≡ get_or next k 0
registers_stored m before words next n past so_far k lt d = so_far.registers k (omega arith) d

-- the value of a flip-flop past the end of a list
abbrev pub no_flip_flop : FlipFlop
no_flip_flop = record { register = 0; reset = 0; next = At 0 }

-- a flip-flop that was read by its place
pub for_read : (m : Module) (flip_flops : List FlipFlop) (n : ℕ) → AreStepped m (length m.steps) flip_flops → n < length flip_flops → IsFor m n (get_or flip_flops n no_flip_flop)
for_read m flip_flops n are lt = is_for m n flip_flops (get_or flip_flops n no_flip_flop) are lt (get_or_default flip_flops n no_flip_flop (get_or flip_flops n no_flip_flop) lt)

-- each step is taken at its own place
pub taken_itself : (taken : List ℕ) (n : ℕ) → n < length taken → ((j : ℕ) → j < n → get_or taken j 0 ≡ j) → (j : ℕ) → j < n + 1 → get_or (set taken n n) j 0 ≡ j
taken_itself taken n lt so_far j below = elim (cases_lt j n) [
  | inl before ↦ let other : j ≢ n = omega arith in get_or-set_other taken n j n 0 other ∙ so_far j before
  | inr now ↦ let same : j ≡ n = omega arith in ap (λ i. get_or (set taken n n) i 0) same ∙ get_or-set_same taken n n 0 lt ∙ sym same
]
