-- Steps in an order in which each register may take its word at once: how the order is tested, and what holds after one step more.
use Rattle.std.proofs.Common.{◌≡◌, ◌≢◌, ℕ, zero, suc, ◌+◌, ◌<◌, ◌≤◌, List, length, map, take, get_or, set, replicate, slice_get, Some, refl, sym, ◌∙◌, ap, subst, arith, inl, inr, Bool, true, false}
use Rattle.std.specs.Prelude.{Contains}
use Rattle.std.proofs.Math.ListN.{length-set}
use Rattle.std.proofs.lemmas.Bool.{cases_lt}
use Rattle.std.proofs.lemmas.List.{get_or_default, get_or-set_same, get_or-set_other, get_or-map, get_or-take, length-map, length-replicate, length-take-le, take_all}
use Rattle.std.proofs.lemmas.Option.{slice_get_within}
use Rattle.av_base.specs.Words.{IsWord}
use Rattle.av_net.specs.declared.operation.Operand.{Operand}
use Rattle.av_net.specs.declared.operation.Operand.TheVariants.{Name, Literal}
use Rattle.av_net.specs.declared.netlist.Step.{Step}
use Rattle.av_net.specs.declared.netlist.Module.{Module}
use Rattle.av_net.specs.Meaning.{Words, word_of, operand_width}
use Rattle.av_net.specs.Names.{all_names, registers_of, width_of}
use Rattle.av_net.specs.Settled.{FitAt}
use Rattle.av_net.specs.Clocked.{Edge}
use Rattle.av_net.specs.Sound.{IsSound}
use Rattle.av_net.proofs.Cycles.{register_contained}
use Rattle.av_net.proofs.Fits.{word_fits}
use Rattle.av_net.proofs.Settles.{with_word, with_word_same, with_word_other, names_distinct}
use Rattle.av_clock.specs.declared.gate.Reading.{Reading}
use Rattle.av_clock.specs.declared.gate.Reading.TheVariants.{At, Constant}
use Rattle.av_clock.specs.declared.gate.FlipFlop.{FlipFlop}
use Rattle.av_clock.specs.Gates.{reading_word, IsWithin, IsRead, AreStepped}
use Rattle.av_clock.specs.Marked.{IsClear}
use Rattle.av_clock.specs.Marking.{IsSet}
use Rattle.av_clock.specs.Named.{named, AllFit}
use Rattle.av_clock.specs.Readers.{IsOther}
use Rattle.av_clock.proofs.Edges.{IsFor, is_for, no_flip_flop, registers_apart}
use Rattle.av_clock.proofs.Lookup.{look_set, same_or_not}
use Rattle.av_clock.proofs.Readings.{one_place}
use Rattle.av_clock.proofs.Settling.{read_word, reading_within, fit_with}
use Rattle.av_lanes.specs.declared.order.Transfer.{Transfer}
use Rattle.av_lanes.specs.inner.Order.{step_at, IsOrder, AreMoves, AreTransfers, HaveMoved, IsUnread, AreMarked}

-- ---- flip-flops

-- what a flip-flop reads is there
pub next_within : (m : Module) (size n : ℕ) (flip_flop : FlipFlop) → size ≡ length (all_names m) → IsFor m n flip_flop → IsWithin size flip_flop.next
next_within m size n flip_flop long for = reading_within (all_names m) size for.step.next flip_flop.next long for.stepped.next

-- and so is its register
pub register_within : (m : Module) (size n : ℕ) (flip_flop : FlipFlop) → size ≡ length (all_names m) → IsFor m n flip_flop → flip_flop.register < size
register_within m size n flip_flop long for =
    let lt : flip_flop.register < length (all_names m) = slice_get_within (all_names m) flip_flop.register for.step.register for.stepped.register in
    omega (arith, lt, long)

-- the flip-flop of a step
pub for_step : (m : Module) (n : ℕ) (flip_flops : List FlipFlop) → AreStepped m (length m.steps) flip_flops → n < length flip_flops → IsFor m n (get_or flip_flops n no_flip_flop)
for_step m n flip_flops are lt = is_for m n flip_flops (get_or flip_flops n no_flip_flop) are lt (get_or_default flip_flops n no_flip_flop (get_or flip_flops n no_flip_flop) lt)

-- its step, with any default
step_is : (m : Module) (n : ℕ) (flip_flop : FlipFlop) (for : IsFor m n flip_flop) (d : Step) → get_or m.steps n d ≡ for.step
step_is m n flip_flop for d = get_or_default m.steps n d for.step for.within ∙ sym for.at

-- two steps with one register are one
same_step : (m : Module) (i n : ℕ) (d e : Step) → IsSound m → i < length m.steps → n < length m.steps → (get_or m.steps i d).register ≡ (get_or m.steps n e).register → i ≡ n
same_step m i n d e sound li ln same = elim (cases_lt i n) [
  | inl before ↦ absurd (registers_apart m i n d e sound before ln same)
  | inr after ↦ elim (cases_lt n i) [
    | inl behind ↦ absurd (registers_apart m n i e d sound behind li (sym same))
    | inr neither ↦ omega arith
  ]
]

-- ---- the test of an order

-- after the first n steps of the order: each is a step, none reads the register of an earlier one, and their registers are marked
pub record Tests (m : Module) (order : List ℕ) (stored : List Bool) (n : ℕ) : Type 0 where
  pub size : length stored ≡ length (all_names m)
  pub within : (j : ℕ) → j < n → get_or order j 0 < length m.steps
  pub unread : (j l : ℕ) (d e : Step) → l < j → j < n → IsOther (step_at m order l d).register (step_at m order j e).next
  pub marked : (l place : ℕ) (d : Step) → l < n → slice_get (all_names m) place ≡ Some (step_at m order l d).register → IsSet stored place
  pub only : (place : ℕ) (name : List ℕ) → slice_get (all_names m) place ≡ Some name → IsSet stored place → (l : ℕ) × (l < n) × ((d : Step) → (step_at m order l d).register ≡ name)

never : {X : Type 0} → true ≡ false → X
never e = absurd (let f : true ≡ false = e in cc)

-- a mark of a list of none is clear
none_set : (n place : ℕ) → get_or (replicate n false) place false ≡ true → ⊥
none_set zero place e = never (sym e)
none_set (suc n) zero e = never (sym e)
none_set (suc n) (suc place) e = none_set n place e

-- before the first
pub tests_none : (m : Module) (order : List ℕ) (stored : List Bool) → stored ≡ replicate (length (all_names m)) false → Tests m order stored 0
tests_none m order stored is = record {
  size = ap length is ∙ length-replicate (length (all_names m)) false;
  within = λ j lt. absurd (omega arith);
  unread = λ j l d e before lt. absurd (omega arith);
  marked = λ l place d lt at. absurd (omega arith);
  only = λ place name at set. absurd (none_set (length (all_names m)) place (subst (λ marks. IsSet marks place) is set));
}

-- a mark is not set and clear
set_or_clear : (marks : List Bool) (place : ℕ) → place < length marks → IsSet marks place → IsClear marks place → ⊥
set_or_clear marks place lt set clear = never (sym set ∙ get_or_default marks place false true lt ∙ clear)

-- a place that is marked, and which are marked then
set_same : (marks : List Bool) (place : ℕ) → place < length marks → IsSet (set marks place true) place
set_same marks place lt = get_or-set_same marks place true false lt

set_more : (marks : List Bool) (place other : ℕ) → place < length marks → IsSet marks other → IsSet (set marks place true) other
set_more marks place other lt is = elim (cases_lt other place) [
  | inl before ↦ let differs : other ≢ place = omega arith in get_or-set_other marks place other true false differs ∙ is
  | inr after ↦ elim (cases_lt place other) [
    | inl behind ↦ let differs : other ≢ place = omega arith in get_or-set_other marks place other true false differs ∙ is
    | inr neither ↦ let same : other ≡ place = omega arith in ap (λ i. get_or (set marks place true) i false) same ∙ set_same marks place lt
  ]
]

set_before : (marks : List Bool) (place other : ℕ) → other ≢ place → IsSet (set marks place true) other → IsSet marks other
set_before marks place other differs is = sym (get_or-set_other marks place other true false differs) ∙ is

-- a step that reads no marked place reads no marked register
unread_other : (names : List (List ℕ)) (stored : List Bool) (operand : Operand) (reading : Reading) (register : List ℕ) → length stored ≡ length names → IsRead names operand reading → IsUnread stored reading
    → ((place : ℕ) → slice_get names place ≡ Some register → IsSet stored place) → IsOther register operand
unread_other names stored (Name name) (At place) register size is clear marked = λ same.
    let lt = slice_get_within names place name is in
    set_or_clear stored place (omega (arith, lt, size)) (marked place (is ∙ ap Some same)) clear
unread_other names stored (Literal width value) (Constant word) register size is clear marked = tt
unread_other names stored (Name name) (Constant word) register size is clear marked = absurd is
unread_other names stored (Literal width value) (At place) register size is clear marked = absurd is

-- one more
pub tests_more : (m : Module) (order : List ℕ) (stored : List Bool) (n : ℕ) (flip_flop : FlipFlop) → IsSound m → IsFor m (get_or order n 0) flip_flop → IsUnread stored flip_flop.next → Tests m order stored n → Tests m order (set stored flip_flop.register true) (n + 1)
tests_more m order stored n flip_flop sound for clear so_far =
    let names = all_names m in
    let place = flip_flop.register in
    let inside : place < length stored = register_within m (length stored) (get_or order n 0) flip_flop so_far.size for in
    let here : (d : Step) → step_at m order n d ≡ for.step = step_is m (get_or order n 0) flip_flop for in
    record {
      size = length-set stored place true ∙ so_far.size;
      within = λ j lt. elim (cases_lt j n) [
        | inl before ↦ so_far.within j before
        | inr after ↦ let same : j ≡ n = omega arith in subst (λ i. get_or order i 0 < length m.steps) (sym same) for.within
      ];
      unread = λ j l d e before lt. elim (cases_lt j n) [
        | inl earlier ↦ so_far.unread j l d e before earlier
        | inr now ↦
            let same : j ≡ n = omega arith in
            let next : (step_at m order j e) ≡ for.step = ap (λ i. step_at m order i e) same ∙ here e in
            let below : l < n = omega arith in
            subst (λ (step : Step). IsOther (step_at m order l d).register step.next) (sym next)
            (unread_other names stored for.step.next flip_flop.next (step_at m order l d).register so_far.size for.stepped.next clear (λ place at. so_far.marked l place d below at))
      ];
      marked = λ l other d lt at. elim (cases_lt l n) [
        | inl before ↦ set_more stored place other inside (so_far.marked l other d before at)
        | inr after ↦
            let same : l ≡ n = omega arith in
            let step : step_at m order l d ≡ for.step = ap (λ i. step_at m order i d) same ∙ here d in
            let one : other ≡ place = one_place names other place for.step.register (names_distinct m sound) (at ∙ ap (λ (s : Step). Some s.register) step) for.stepped.register in
            subst (λ i. IsSet (set stored place true) i) (sym one) (set_same stored place inside)
      ];
      only = λ other name at is. elim (cases_lt other place) [
        | inl before ↦
            let differs : other ≢ place = omega arith in
            let (l, lt, found) = so_far.only other name at (set_before stored place other differs is) in
            (l, omega (arith, lt), found)
        | inr after ↦ elim (cases_lt place other) [
          | inl behind ↦
              let differs : other ≢ place = omega arith in
              let (l, lt, found) = so_far.only other name at (set_before stored place other differs is) in
              (l, omega (arith, lt), found)
          | inr neither ↦
              let same : other ≡ place = omega arith in
              let both : Some for.step.register ≡ Some name = sym for.stepped.register ∙ ap (slice_get names) (sym same) ∙ at in
              let register : for.step.register ≡ name = cc in
              (n, omega arith, λ d. ap (λ (s : Step). s.register) (here d) ∙ register)
        ]
      ];
    }

-- after the last, where all registers are marked
pub is_order : (m : Module) (order : List ℕ) (stored : List Bool) (flip_flops : List FlipFlop) (n : ℕ) → IsSound m → AreStepped m (length m.steps) flip_flops → length order ≤ n → n ≤ length order → AreMarked m stored → Tests m order stored n → IsOrder m order
is_order m order stored flip_flops n sound are past most marked so_far = record {
  within = λ j lt. so_far.within j (omega (arith, lt, past));
  unread = λ j l d e before lt. so_far.unread j l d e before (omega (arith, lt, past));
  whole = λ i lt.
      let count = are.count in
      let for = for_step m i flip_flops are (omega (arith, lt, count)) in
      let place = (get_or flip_flops i no_flip_flop).register in
      let at : slice_get (all_names m) place ≡ Some for.step.register = for.stepped.register in
      let mark : IsSet stored place = marked i place for.step lt (at ∙ ap (λ (s : Step). Some s.register) for.at) in
      let (l, below, found) = so_far.only place for.step.register at mark in
      let own : for.step ≡ get_or m.steps i for.step = for.at in
      let same : (step_at m order l for.step).register ≡ (get_or m.steps i for.step).register = found for.step ∙ ap (λ (s : Step). s.register) own in
      (l, omega (arith, below, most), same_step m (get_or order l 0) i for.step for.step sound (so_far.within l below) lt same);
}

-- the flip-flops of one more step
pub marks_more : (m : Module) (flip_flops : List FlipFlop) (stored : List Bool) (n : ℕ) → IsSound m → IsFor m n (get_or flip_flops n no_flip_flop) → get_or stored (get_or flip_flops n no_flip_flop).register false ≡ true
    → ((i place : ℕ) (d : Step) → i < n → slice_get (all_names m) place ≡ Some (get_or m.steps i d).register → IsSet stored place)
    → (i place : ℕ) (d : Step) → i < n + 1 → slice_get (all_names m) place ≡ Some (get_or m.steps i d).register → IsSet stored place
marks_more m flip_flops stored n sound for is so_far i place d lt at = elim (cases_lt i n) [
  | inl before ↦ so_far i place d before at
  | inr after ↦
      let flip_flop = get_or flip_flops n no_flip_flop in
      let same : i ≡ n = omega arith in
      let step : get_or m.steps i d ≡ for.step = ap (λ i. get_or m.steps i d) same ∙ step_is m n flip_flop for d in
      let one : place ≡ flip_flop.register = one_place (all_names m) place flip_flop.register for.step.register (names_distinct m sound) (at ∙ ap (λ (s : Step). Some s.register) step) for.stepped.register in
      subst (λ i. IsSet stored i) (sym one) is
]

-- ---- the edge

-- the flip-flop that stands at a place of the order
pub for_move : (m : Module) (moves : List FlipFlop) (are : AreMoves m moves) (n : ℕ) → n < length moves → IsFor m (get_or are.order n 0) (get_or moves n no_flip_flop)
for_move m moves are n lt =
    let long = are.count in
    let inside : n < length are.order = omega (arith, lt, long) in
    let step = are.ordered.within n inside in
    let count = are.stepped.count in
    subst (IsFor m (get_or are.order n 0)) (sym (are.each n no_flip_flop no_flip_flop inside)) (for_step m (get_or are.order n 0) are.flip_flops are.stepped (omega (arith, step, count)))

-- the flip-flops of all steps of an order
pub are_moves : (m : Module) (order : List ℕ) (flip_flops moves : List FlipFlop) (n : ℕ) → AreStepped m (length m.steps) flip_flops → IsOrder m order → length order ≤ n → moves ≡ map (λ k. get_or flip_flops k no_flip_flop) (take n order) → AreMoves m moves
are_moves m order flip_flops moves n are ordered past is =
    let at : ℕ → FlipFlop = λ k. get_or flip_flops k no_flip_flop in
    let whole : moves ≡ map at order = is ∙ ap (map at) (take_all n order past) in
    let long : length moves ≡ length order = ap length whole ∙ length-map order at in
    record {
      order = order;
      flip_flops = flip_flops;
      stepped = are;
      count = long;
      each = λ j d e lt.
          let step = ordered.within j lt in
          let count = are.count in
          ap (λ fs. get_or fs j d) whole ∙ get_or-map at order j 0 d lt ∙ get_or_default flip_flops (get_or order j 0) no_flip_flop e (omega (arith, step, count));
      ordered = ordered;
    }

-- one of the first moves has the register and the place of its transfer
pub transfer_at : (moves : List FlipFlop) (transfers : List Transfer) (n : ℕ) (d : Transfer) (e : FlipFlop) → AreTransfers moves transfers → n < length transfers
    → ((get_or moves n e).register ≡ (get_or transfers n d).register) × ((get_or moves n e).next ≡ At (get_or transfers n d).source)
transfer_at moves transfers n d e are lt =
    let count = length transfers in
    let few = are.few in
    let inside : n < length moves = omega (arith, lt, few) in
    let within : n < length (take count moves) = omega (arith, lt, length-take-le count moves few) in
    let here : get_or (take count moves) n e ≡ get_or moves n e = get_or-take count moves n e lt in
    let register : (get_or moves n e).register ≡ (get_or transfers n d).register =
    ap (λ (f : FlipFlop). f.register) (sym here) ∙ sym (get_or-map (λ (f : FlipFlop). f.register) (take count moves) n e 0 within)
    ∙ ap (λ xs. get_or xs n 0) (sym are.registers) ∙ get_or-map (λ (t : Transfer). t.register) transfers n d 0 lt in
    let source : (get_or moves n e).next ≡ At (get_or transfers n d).source =
    ap (λ (f : FlipFlop). f.next) (sym here) ∙ sym (get_or-map (λ (f : FlipFlop). f.next) (take count moves) n e (At 0) within)
    ∙ ap (λ xs. get_or xs n (At 0)) (sym are.sources) ∙ get_or-map (λ (t : Transfer). At t.source) transfers n d (At 0) lt in
    (register, source)

abbrev pub no_transfer : Transfer
no_transfer = record { register = 0; source = 0 }

-- what a transfer reads is there
pub source_within : (m : Module) (size : ℕ) (moves : List FlipFlop) (transfers : List Transfer) (n : ℕ) → AreMoves m moves → AreTransfers moves transfers → size ≡ length (all_names m) → n < length transfers → (get_or transfers n no_transfer).source < size
source_within m size moves transfers n are first long lt =
    let few = first.few in
    subst (IsWithin size) (transfer_at moves transfers n no_transfer no_flip_flop first lt).1
    (next_within m size (get_or are.order n 0) (get_or moves n no_flip_flop) long (for_move m moves are n (omega (arith, lt, few))))

-- and so is its register
pub target_within : (m : Module) (size : ℕ) (moves : List FlipFlop) (transfers : List Transfer) (n : ℕ) → AreMoves m moves → AreTransfers moves transfers → size ≡ length (all_names m) → n < length transfers → (get_or transfers n no_transfer).register < size
target_within m size moves transfers n are first long lt =
    let few = first.few in
    subst (λ place. place < size) (transfer_at moves transfers n no_transfer no_flip_flop first lt).0
    (register_within m size (get_or are.order n 0) (get_or moves n no_flip_flop) long (for_move m moves are n (omega (arith, lt, few))))

-- before the first
pub moves_none : (m : Module) (order words : List ℕ) → AllFit m words → HaveMoved m order words words 0
moves_none m order words fit = record { moved = λ j d lt. absurd (omega arith); others = λ name none. refl; fit = fit }

-- an operand that names none of the registers that have new words has its old word
old_word : (m : Module) (before words : List ℕ) (operand : Operand) → ((name : List ℕ) → operand ≡ Name name → named m words name ≡ named m before name) → word_of (named m words) operand ≡ word_of (named m before) operand
old_word m before words (Name name) same = same name refl
old_word m before words (Literal width value) same = refl

other_name : (register name : List ℕ) (operand : Operand) → IsOther register operand → operand ≡ Name name → register ≢ name
other_name register name operand other is = λ same. (subst (IsOther register) is other) (sym same)

-- one more
pub moves_more : (m : Module) (order before words : List ℕ) (n : ℕ) (flip_flop : FlipFlop) (word : ℕ) → IsSound m → IsOrder m order → length words ≡ length (all_names m) → n < length order → IsFor m (get_or order n 0) flip_flop
    → word ≡ reading_word words flip_flop.next → HaveMoved m order before words n → HaveMoved m order before (set words flip_flop.register word) (n + 1)
moves_more m order before words n flip_flop word sound ordered long lt for is so_far =
    let step = for.step in
    let i = get_or order n 0 in
    let inside : i < length m.steps = for.within in
    let here : (d : Step) → step_at m order n d ≡ step = step_is m i flip_flop for in
    let wrote : named m (set words flip_flop.register word) ≡ with_word (named m words) step.register word = look_set (all_names m) words flip_flop.register word step.register (names_distinct m sound) long for.stepped.register in
    let read : word ≡ word_of (named m words) step.next = is ∙ read_word (all_names m) words step.next flip_flop.next (names_distinct m sound) long for.stepped.next in
    let old : word ≡ word_of (named m before) step.next = read ∙ old_word m before words step.next (λ name e. so_far.others name (λ j d below.
    other_name (step_at m order j d).register name step.next (subst (λ (s : Step). IsOther (step_at m order j d).register s.next) (here step) (ordered.unread n j d step below lt)) e)) in
    let wide : operand_width (width_of m) step.next ≡ width_of m step.register = subst (λ (s : Step). operand_width (width_of m) s.next ≡ width_of m s.register) (here step) (sound.step_widths i step inside) in
    let fits : IsWord (operand_width (width_of m) step.next) (word_of (named m words) step.next) = subst (λ (s : Step). IsWord (operand_width (width_of m) s.next) (word_of (named m words) s.next)) (here step)
    (word_fits (width_of m) (all_names m) (named m words) (step_at m order n step).next so_far.fit (sound.steps_read i step inside) (sound.steps_fit i step inside)) in
    let fitting : IsWord (width_of m step.register) word = subst (IsWord (width_of m step.register)) (sym read) (subst (λ w. IsWord w (word_of (named m words) step.next)) wide fits) in
    record {
      moved = λ j d below. elim (same_or_not (step_at m order j d).register step.register) [
        | inl same ↦
            let within : get_or order j 0 < length m.steps = ordered.within j (omega (arith, below, lt)) in
            let one : get_or order j 0 ≡ i = same_step m (get_or order j 0) i d step sound within inside (same ∙ ap (λ (s : Step). s.register) (sym (here step))) in
            let its : step_at m order j d ≡ step = ap (λ k. get_or m.steps k d) one ∙ here d in
            subst (λ (s : Step). named m (set words flip_flop.register word) s.register ≡ word_of (named m before) s.next) (sym its)
            (ap (λ (v : Words). v step.register) wrote ∙ with_word_same (named m words) step.register word ∙ old)
        | inr differs ↦ ap (λ (v : Words). v (step_at m order j d).register) wrote ∙ with_word_other (named m words) step.register word (step_at m order j d).register differs ∙ elim (cases_lt j n) [
          | inl earlier ↦ so_far.moved j d earlier
          | inr now ↦ let same : j ≡ n = omega arith in absurd (differs (ap (λ k. (step_at m order k d).register) same ∙ ap (λ (s : Step). s.register) (here d)))
        ]
      ];
      others = λ name none.
          let differs : name ≢ step.register = λ e. none n step (omega arith) (ap (λ (s : Step). s.register) (here step) ∙ sym e) in
          ap (λ (v : Words). v name) wrote ∙ with_word_other (named m words) step.register word name differs ∙ so_far.others name (λ j d below. none j d (omega (arith, below)));
      fit = subst (λ (v : Words). FitAt (width_of m) (all_names m) v) (sym wrote) (fit_with (width_of m) (all_names m) (named m words) step.register word so_far.fit fitting);
    }

-- after the last it is the edge
pub moves_edge : (m : Module) (order before words : List ℕ) (n : ℕ) → IsOrder m order → length order ≤ n → HaveMoved m order before words n → Edge m false (named m before) (named m words)
moves_edge m order before words n ordered past so_far i d lt =
    let (j, below, is) = ordered.whole i lt in
    subst (λ k. named m words (get_or m.steps k d).register ≡ word_of (named m before) (get_or m.steps k d).next) is (so_far.moved j d (omega (arith, below, past)))

-- and no name but the registers has another word
pub moves_others : (m : Module) (order before words : List ℕ) (n : ℕ) → IsOrder m order → n ≤ length order → HaveMoved m order before words n → (name : List ℕ) → (Contains (registers_of m.steps) name → ⊥) → named m words name ≡ named m before name
moves_others m order before words n ordered most so_far name none =
    so_far.others name (λ j d below same. none (subst (Contains (registers_of m.steps)) same (register_contained m (get_or order j 0) d (ordered.within j (omega (arith, below, most))))))
