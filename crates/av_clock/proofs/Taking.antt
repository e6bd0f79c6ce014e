-- Steps that are taken at an edge, and the words that their registers get.
use Rattle.std.proofs.Common.{◌≡◌, ◌≢◌, ◌⊎◌, ℕ, ◌+◌, ◌<◌, ◌≤◌, List, length, get_or, set, slice_get, Some, replicate, refl, sym, ◌∙◌, ap, subst, arith, Bool, true, false, inl, inr}
use Rattle.std.specs.Prelude.{Contains}
use Rattle.std.proofs.Math.ListN.{length-set}
use Rattle.std.proofs.lemmas.Bool.{cases_eq, cases_lt}
use Rattle.std.proofs.lemmas.List.{get_or_default, get_or-set_same, get_or-set_other}
use Rattle.std.proofs.lemmas.List.Elements.{Contains-append_right}
use Rattle.av_base.specs.Words.{IsWord}
use Rattle.av_net.specs.declared.netlist.Drive.{Drive}
use Rattle.av_net.specs.declared.netlist.Step.{Step}
use Rattle.av_net.specs.declared.netlist.Module.{Module}
use Rattle.av_net.specs.Meaning.{Words, word_of, operand_width}
use Rattle.av_net.specs.Names.{AreDistinct, names_of, given_names, wire_names, all_names, registers_of, width_of}
use Rattle.av_net.specs.Settled.{Holds, Agree}
use Rattle.av_net.specs.Clocked.{Edge}
use Rattle.av_net.specs.Sound.{IsSound}
use Rattle.av_net.proofs.Cycles.{is_declared, register_contained}
use Rattle.av_net.proofs.Distinct.{apart, front_distinct}
use Rattle.av_net.proofs.Fits.{word_fits}
use Rattle.av_net.proofs.Once.{agree_by}
use Rattle.av_net.proofs.Settles.{with_word, with_word_same, with_word_other, names_distinct}
use Rattle.av_clock.specs.declared.gate.FlipFlop.{FlipFlop}
use Rattle.av_clock.specs.Named.{named, AllFit}
use Rattle.av_clock.specs.Gates.{reading_word, AreTaken}
use Rattle.av_clock.specs.Marked.{IsClear, AreHeld}
use Rattle.av_clock.specs.Marking.{IsSet, ReadTheSame, AreDue}
use Rattle.av_clock.proofs.Edges.{IsFor, registers_apart}
use Rattle.av_clock.proofs.Held.{read_after, same_read, given_apart}
use Rattle.av_clock.proofs.Lookup.{look_set}
use Rattle.av_clock.proofs.Marking.{cleared, clear_after, none_clear}
use Rattle.av_clock.proofs.Settling.{read_word, fit_with}

-- the marked steps before this one are taken
pub record Takes (m : Module) (words : List ℕ) (before due : List Bool) (taken next : List ℕ) (count step : ℕ) : Type 0 where
  pub size : length due ≡ length before
  pub room : (length taken ≡ length m.steps) × (length next ≡ length m.steps)
  pub few : count ≤ step
  pub within : step ≤ length m.steps
  pub marked : step < length m.steps → IsSet due step
  pub places : (j : ℕ) → j < count → get_or taken j 0 < length m.steps
  pub gives : (j : ℕ) (d : Step) → j < count → get_or next j 0 ≡ word_of (named m words) (get_or m.steps (get_or taken j 0) d).next
  pub others : (i : ℕ) (d : Step) → i < step → ((j : ℕ) × (j < count) × (get_or taken j 0 ≡ i)) ⊎ (named m words (get_or m.steps i d).register ≡ word_of (named m words) (get_or m.steps i d).next)
  pub clear : (k : ℕ) → k < step → IsClear due k
  pub ahead : (k : ℕ) → step ≤ k → IsClear due k → IsClear before k

-- every step that is not marked has its operand's word in its register
abbrev pub HaveTaken : Module → List ℕ → List Bool → Type 0
HaveTaken m words due = (k : ℕ) (d : Step) → k < length m.steps → IsClear due k → named m words (get_or m.steps k d).register ≡ word_of (named m words) (get_or m.steps k d).next

-- before the first
pub takes_none : (m : Module) (words : List ℕ) (due : List Bool) (taken next : List ℕ) (step : ℕ) → HaveTaken m words due → length taken ≡ length m.steps → length next ≡ length m.steps → length due ≡ length m.steps
    → step ≤ length due → ((k : ℕ) → 0 ≤ k → k < step → IsClear due k) → (step < length due → IsSet due step) → Takes m words due due taken next 0 step
takes_none m words due taken next step held room room' size within clear marked = record {
  size = refl;
  room = (room, room');
  few = omega arith;
  within = rw (sym size) within;
  marked = λ lt. marked (omega arith);
  places = λ j lt. absurd (omega arith);
  gives = λ j d lt. absurd (omega arith);
  others = λ i d lt. inr (held i d (omega arith) (clear i (omega arith) lt));
  clear = λ k lt. clear k (omega arith) lt;
  ahead = λ k le is. is;
}

-- one more
pub takes_more : (m : Module) (words : List ℕ) (before due lent : List Bool) (taken next : List ℕ) (count step word then : ℕ) (flip_flop : FlipFlop)
    → IsSound m → length words ≡ length (all_names m) → HaveTaken m words before → length before ≡ length m.steps → step < length m.steps → IsFor m step flip_flop → word ≡ reading_word words flip_flop.next → lent ≡ set due step false
    → then ≤ length lent → ((k : ℕ) → step + 1 ≤ k → k < then → IsClear lent k) → (then < length lent → IsSet lent then) → step + 1 ≤ then
    → Takes m words before due taken next count step → Takes m words before lent (set taken count step) (set next count word) (count + 1) then
takes_more m words before due lent taken next count step word then flip_flop sound same held size lt for is wrote within clear marked later so_far =
    let long : length lent ≡ length m.steps = ap length wrote ∙ length-set due step false ∙ so_far.size ∙ size in
    let room : count < length taken = let a = so_far.room.0 in let b = so_far.few in omega arith in
    let room' : count < length next = let a = so_far.room.1 in let b = so_far.few in omega arith in
    let here : get_or (set taken count step) count 0 ≡ step = get_or-set_same taken count step 0 room in
    let given : word ≡ word_of (named m words) for.step.next = is ∙ read_word (all_names m) words for.step.next flip_flop.next (names_distinct m sound) same for.stepped.next in
    let there : (j : ℕ) → j < count → get_or (set taken count step) j 0 ≡ get_or taken j 0 = λ j below. get_or-set_other taken count j step 0 (λ e. absurd (omega arith)) in
    let few : count ≤ step = so_far.few in
    record {
      size = long ∙ sym size;
      room = (length-set taken count step ∙ so_far.room.0, length-set next count word ∙ so_far.room.1);
      few = omega arith;
      within = omega arith;
      marked = λ below. marked (omega arith);
      places = λ j below. elim (cases_lt j count) [
        | inl earlier ↦ rw (there j earlier) (so_far.places j earlier)
        | inr now ↦ let e : j ≡ count = omega arith in rw (e, here) lt
      ];
      gives = λ j d below. elim (cases_lt j count) [
        | inl earlier ↦ rw (there j earlier) (get_or-set_other next count j word 0 (λ e. absurd (omega arith)) ∙ so_far.gives j d earlier)
        | inr now ↦
            let e : j ≡ count = omega arith in
            let at : get_or m.steps step d ≡ for.step = get_or_default m.steps step d for.step for.within ∙ sym for.at in
            rw (e, here, at) (get_or-set_same next count word 0 room' ∙ given)
      ];
      others = λ i d below. elim (cases_lt i step) [
        | inl earlier ↦ elim (so_far.others i d earlier) [
          | inl (j, less, is') ↦ inl (j, omega arith, there j less ∙ is')
          | inr holds ↦ inr holds
        ]
        | inr past ↦ elim (cases_eq i step) [
          | inl e ↦ inl (count, omega arith, here ∙ sym e)
          | inr ne ↦
              let unmarked : IsClear due i = sym (get_or-set_other due step i false true ne) ∙ subst (λ marks. IsClear marks i) wrote (clear i (omega arith) below) in
              inr (held i d (omega arith) (so_far.ahead i past unmarked))
        ]
      ];
      clear = λ k below. elim (cases_lt k step) [
        | inl earlier ↦ subst (λ marks. IsClear marks k) (sym wrote) (clear_after due step k false (λ e. absurd (omega arith)) (so_far.clear k earlier))
        | inr past ↦ elim (cases_eq k step) [
          | inl e ↦ subst (λ marks. IsClear marks k) (sym wrote) (subst (IsClear (set due step false)) (sym e) (cleared due step (let a = so_far.size in omega arith)))
          | inr ne ↦ clear k (omega arith) below
        ]
      ];
      ahead = λ k le unmarked.
          let other : k ≢ step = λ e. absurd (omega arith) in
          so_far.ahead k (omega arith) (sym (get_or-set_other due step k false true other) ∙ subst (λ marks. IsClear marks k) wrote unmarked);
    }

-- after the last
pub all_taken : (m : Module) (words : List ℕ) (before due : List Bool) (taken next : List ℕ) (count step : ℕ) (d : Step) → length m.steps ≤ step → Takes m words before due taken next count step
    → AreDue m (named m words) (λ i. word_of (named m words) (get_or m.steps i d).next) taken next count
all_taken m words before due taken next count step d past so_far = record {
  words = λ j lt. so_far.gives j d lt;
  others = λ i e lt. elim (so_far.others i e (omega arith)) [
    | inl due' ↦ inl due'
    | inr holds ↦ inr (holds ∙ ap (λ (step : Step). word_of (named m words) step.next) (get_or_default m.steps i e d lt))
  ];
}

-- the registers of the first n taken steps have their new words
pub record Gives (m : Module) (words words' : List ℕ) (stale stale' due due' : List Bool) (taken next : List ℕ) (count n : ℕ) : Type 0 where
  pub drive_marks : length stale' ≡ length stale
  pub step_marks : length due' ≡ length due
  pub fit : AllFit m words'
  pub same : ReadTheSame m words words' stale stale' due due'
  pub registers : (word : ℕ → ℕ) → AreDue m (named m words) word taken next count → (i : ℕ) (d : Step) → i < length m.steps
      → (named m words' (get_or m.steps i d).register ≡ word i) ⊎ ((j : ℕ) × (n ≤ j) × (j < count) × (get_or taken j 0 ≡ i))
  pub others : (name : List ℕ) → (Contains (registers_of m.steps) name → ⊥) → named m words' name ≡ named m words name

-- before the first
pub gives_none : (m : Module) (words : List ℕ) (stale due : List Bool) (taken next : List ℕ) (count : ℕ) → AllFit m words → Gives m words words stale stale due due taken next count 0
gives_none m words stale due taken next count fit = record {
  drive_marks = refl;
  step_marks = refl;
  fit = fit;
  same = same_read m words stale due;
  registers = λ word are i d lt. elim (are.others i d lt) [
    | inl (j, below, is) ↦ inr (j, omega arith, below, is)
    | inr has ↦ inl has
  ];
  others = λ name none. refl;
}

-- two steps have two registers
two_registers : (m : Module) (i k : ℕ) (d step : Step) → IsSound m → i < length m.steps → k < length m.steps → step ≡ get_or m.steps k step → i ≢ k → (get_or m.steps i d).register ≢ step.register
two_registers m i k d step sound li lk at ne same = elim (cases_lt i k) [
  | inl before ↦ registers_apart m i k d step sound before lk (same ∙ ap (λ (s : Step). s.register) at)
  | inr after ↦ registers_apart m k i step d sound (omega arith) li (ap (λ (s : Step). s.register) (sym at) ∙ sym same)
]

-- another place of the list is behind
behind : (taken : List ℕ) (n j i : ℕ) → n ≤ j → get_or taken j 0 ≡ i → i ≢ get_or taken n 0 → n + 1 ≤ j
behind taken n j i le is ne = elim (cases_eq j n) [
  | inl e ↦ absurd (ne (sym is ∙ ap (λ j. get_or taken j 0) e))
  | inr other ↦ omega arith
]

-- the next word of a taken step fits the register
pub taken_fits : (m : Module) (taken next : List ℕ) (count n : ℕ) (flip_flop : FlipFlop) → n < count → IsFor m (get_or taken n 0) flip_flop
    → ((j : ℕ) (d : Step) → j < count → IsWord (width_of m (get_or m.steps (get_or taken j 0) d).register) (get_or next j 0))
    → (name : List ℕ) → slice_get (all_names m) flip_flop.register ≡ Some name → IsWord (width_of m name) (get_or next n 0)
taken_fits m taken next count n flip_flop lt for fits name at =
    let same : for.step.register ≡ name = let e = sym for.stepped.register ∙ at in cc in
    let here : get_or m.steps (get_or taken n 0) for.step ≡ for.step = sym for.at in
    let fitting : IsWord (width_of m for.step.register) (get_or next n 0) = rw here at (fits n for.step lt) in
    subst (λ (other : List ℕ). IsWord (width_of m other) (get_or next n 0)) same fitting

-- one more
pub gives_more : (m : Module) (words words' words'' : List ℕ) (stale stale' stale'' due due' due'' : List Bool) (taken next : List ℕ) (count n : ℕ) (flip_flop : FlipFlop)
    → IsSound m → length words' ≡ length (all_names m) → n < count → IsFor m (get_or taken n 0) flip_flop
    → ((j : ℕ) (d : Step) → j < count → IsWord (width_of m (get_or m.steps (get_or taken j 0) d).register) (get_or next j 0))
    → words'' ≡ set words' flip_flop.register (get_or next n 0) → ReadTheSame m words' words'' stale' stale'' due' due'' → length stale'' ≡ length stale' → length due'' ≡ length due'
    → Gives m words words' stale stale' due due' taken next count n → Gives m words words'' stale stale'' due due'' taken next count (n + 1)
gives_more m words words' words'' stale stale' stale'' due due' due'' taken next count n flip_flop sound same lt for fits wrote' reads size size' so_far =
    let step = for.step in
    let k = get_or taken n 0 in
    let word = get_or next n 0 in
    let v = named m words' in
    let wrote : named m words'' ≡ with_word v step.register word = ap (named m) wrote' ∙ look_set (all_names m) words' flip_flop.register word step.register (names_distinct m sound) same for.stepped.register in
    let at : get_or m.steps k step ≡ step = sym for.at in
    let fitting : IsWord (width_of m step.register) word = taken_fits m taken next count n flip_flop lt for fits step.register for.stepped.register in
    record {
      drive_marks = size ∙ so_far.drive_marks;
      step_marks = size' ∙ so_far.step_marks;
      fit = rw wrote (fit_with (width_of m) (all_names m) v step.register word so_far.fit fitting);
      same = read_after m words words' words'' stale stale' stale'' due due' due'' so_far.same reads;
      registers = λ value are i d below. elim (cases_eq i k) [
        | inl e ↦
            let here : get_or m.steps i d ≡ step = ap (λ i. get_or m.steps i d) e ∙ get_or_default m.steps k d step for.within ∙ at in
            inl (rw (here, wrote) (with_word_same v step.register word ∙ are.words n lt ∙ ap value (sym e)))
        | inr ne ↦
            let kept : named m words'' (get_or m.steps i d).register ≡ v (get_or m.steps i d).register = rw wrote (with_word_other v step.register word (get_or m.steps i d).register (two_registers m i k d step sound below for.within for.at ne)) in
            elim (so_far.registers value are i d below) [
              | inl has ↦ inl (kept ∙ has)
              | inr (j, le, less, is) ↦ inr (j, behind taken n j i le is ne, less, is)
            ]
      ];
      others = λ name none.
          let contained : Contains (registers_of m.steps) step.register = subst (λ (s : Step). Contains (registers_of m.steps) s.register) at (register_contained m k step for.within) in
          let differs : name ≢ step.register = λ e. none (subst (Contains (registers_of m.steps)) (sym e) contained) in
          rw wrote (with_word_other v step.register word name differs) ∙ so_far.others name none;
    }

-- words of operands fit the registers
pub due_fit : (m : Module) (words taken next : List ℕ) (count : ℕ) → IsSound m → AllFit m words → ((j : ℕ) → j < count → get_or taken j 0 < length m.steps)
    → ((d : Step) → AreDue m (named m words) (λ i. word_of (named m words) (get_or m.steps i d).next) taken next count)
    → (j : ℕ) (d : Step) → j < count → IsWord (width_of m (get_or m.steps (get_or taken j 0) d).register) (get_or next j 0)
due_fit m words taken next count sound fit within due j d lt =
    let k = get_or taken j 0 in
    let step = get_or m.steps k d in
    let below : k < length m.steps = within j lt in
    let word : IsWord (operand_width (width_of m) step.next) (word_of (named m words) step.next) = word_fits (width_of m) (all_names m) (named m words) step.next fit (sound.steps_read k d below) (sound.steps_fit k d below) in
    let wide : operand_width (width_of m) step.next ≡ width_of m step.register = sound.step_widths k d below in
    let given : get_or next j 0 ≡ word_of (named m words) step.next = (due d).words j lt in
    rw given (rw wide at word)

-- all steps, with their literals
pub reset_due : (m : Module) (v : Words) (taken next : List ℕ) (d : Step) → ((j : ℕ) → j < length m.steps → get_or taken j 0 ≡ j) → ((old : Words) → AreTaken m true old (length m.steps) next)
    → AreDue m v (λ i. (get_or m.steps i d).reset) taken next (length m.steps)
reset_due m v taken next d places words = record {
  words = λ j lt. words v j lt d ∙ ap (λ i. (get_or m.steps i d).reset) (sym (places j lt));
  others = λ i e lt. inl (i, lt, places i lt);
}

-- and these fit
pub reset_due_fit : (m : Module) (v : Words) (taken next : List ℕ) → IsSound m → ((j : ℕ) → j < length m.steps → get_or taken j 0 ≡ j) → ((old : Words) → AreTaken m true old (length m.steps) next)
    → (j : ℕ) (d : Step) → j < length m.steps → IsWord (width_of m (get_or m.steps (get_or taken j 0) d).register) (get_or next j 0)
reset_due_fit m v taken next sound places words j d lt =
    let place : get_or taken j 0 ≡ j = places j lt in
    let given : get_or next j 0 ≡ (get_or m.steps j d).reset = words v j lt d in
    rw (place, given) (sound.resets_fit j d lt)

-- and are there
pub reset_within : (m : Module) (taken : List ℕ) → ((j : ℕ) → j < length m.steps → get_or taken j 0 ≡ j) → (j : ℕ) → j < length m.steps → get_or taken j 0 < length m.steps
reset_within m taken places j lt = let place : get_or taken j 0 ≡ j = places j lt in rw place lt

-- the ports are no registers
pub ports_same : (m : Module) (v w : Words) → IsSound m → ((name : List ℕ) → (Contains (registers_of m.steps) name → ⊥) → w name ≡ v name) → Agree (names_of m.inputs) v w
ports_same m v w sound others =
    let given : AreDistinct (given_names m) = front_distinct (given_names m) (wire_names m) (names_distinct m sound) in
    agree_by (names_of m.inputs) v w (λ name at. sym (others name (λ stepped. apart (names_of m.inputs) (names_of m.registers) name given at (is_declared m sound name stepped))))

-- and no drive drives one
pub drives_same : (m : Module) (v w : Words) → IsSound m → ((name : List ℕ) → (Contains (registers_of m.steps) name → ⊥) → w name ≡ v name) → (k : ℕ) (d : Drive) → k < length m.drives → w (get_or m.drives k d).target ≡ v (get_or m.drives k d).target
drives_same m v w sound others k d lt =
    let target = (get_or m.drives k d).target in
    others target (λ stepped. given_apart m k d target sound lt (Contains-append_right (names_of m.inputs) (names_of m.registers) target (is_declared m sound target stepped)) refl)

-- drives that are not marked hold after others did, where they read the same
pub still_held : (m : Module) (words words' : List ℕ) (stale stale' due due' before : List Bool) → IsSound m → AreHeld m words stale before → ReadTheSame m words words' stale stale' due due'
    → ((name : List ℕ) → (Contains (registers_of m.steps) name → ⊥) → named m words' name ≡ named m words name)
    → (k : ℕ) (d : Drive) → k < length m.drives → IsClear stale' k → Holds (width_of m) (named m words') (get_or m.drives k d)
still_held m words words' stale stale' due due' before sound held same others k d lt clear =
    let both = same.drives k d lt clear in
    drives_same m (named m words) (named m words') sound others k d lt ∙ held.drives k d lt both.0 ∙ sym both.1

-- after an edge without reset
pub tick_held : (m : Module) (words words' : List ℕ) (stale stale' before due due' : List Bool) → IsSound m → AreHeld m words stale before → ReadTheSame m words words' stale stale' due due'
    → ((name : List ℕ) → (Contains (registers_of m.steps) name → ⊥) → named m words' name ≡ named m words name) → Edge m false (named m words) (named m words') → AreHeld m words' stale' due'
tick_held m words words' stale stale' before due due' sound held same others edge = record {
  drives = still_held m words words' stale stale' due due' before sound held same others;
  steps = λ k d lt clear. let both = same.steps k d lt clear in edge k d lt ∙ sym both.1;
}

-- after one with reset, where all steps are marked
pub reset_held : (m : Module) (words words' : List ℕ) (stale stale' due due' marks : List Bool) (n : ℕ) → IsSound m → ReadTheSame m words words' stale stale' due due'
    → ((name : List ℕ) → (Contains (registers_of m.steps) name → ⊥) → named m words' name ≡ named m words name) → marks ≡ replicate n true → AreHeld m words stale due → AreHeld m words' stale' marks
reset_held m words words' stale stale' due due' marks n sound same others filled held = record {
  drives = still_held m words words' stale stale' due due' due sound held same others;
  steps = λ k d lt clear. absurd (none_clear n k (subst (λ ms. IsClear ms k) filled clear));
}

-- after the last taken step
pub all_given : (m : Module) (words words' : List ℕ) (stale stale' due due' : List Bool) (taken next : List ℕ) (count n : ℕ) → count ≤ n → Gives m words words' stale stale' due due' taken next count n
    → (word : ℕ → ℕ) → AreDue m (named m words) word taken next count → (i : ℕ) (d : Step) → i < length m.steps → named m words' (get_or m.steps i d).register ≡ word i
all_given m words words' stale stale' due due' taken next count n past so_far word are i d lt = elim (so_far.registers word are i d lt) [
  | inl has ↦ has
  | inr (j, le, less, is) ↦ absurd (omega arith)
]
