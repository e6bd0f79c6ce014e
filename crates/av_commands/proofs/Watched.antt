-- Wires that are watched while a module is clocked.
use Rattle.std.proofs.Common.{◌≡◌, ℕ, zero, suc, ◌+◌, ◌<◌, ◌≤◌, Bool, true, false, List, [], ◌∷◌, ◌++◌, length, get_or, take, map, Some, slice_get, option_map, refl, sym, ap, ◌∙◌, subst, arith, inl, inr, add-one, take-suc, length-append}
use Rattle.std.specs.Prelude.{if◌then◌else◌, nat_eq, nat_lt, slice_index, slice_set, All, Contains}
use Rattle.std.proofs.lemmas.Bool.{cases_lt, eqb-true, eq-eqb, ltb-true, ltb-false, lt-ltb}
use Rattle.std.proofs.lemmas.List.{map-set, length-map, get_or_append_left, get_or-append-add, take_all}
use Rattle.std.proofs.lemmas.List.Elements.{All-append, All-contains, All-cons, All-nil, All-head, All-tail, All-weaker, Contains-append_right}
use Rattle.std.proofs.lemmas.Option.{slice_get-get_or, slice_get_within, get_or_from_slice_get}
use Rattle.av_base.specs.declared.word.Word.{Word}
use Rattle.av_net.specs.declared.netlist.Drive.{Drive}
use Rattle.av_net.specs.declared.netlist.Module.{Module}
use Rattle.av_net.specs.declared.design.Entry.{Entry}
use Rattle.av_net.specs.Meaning.{Words}
use Rattle.av_net.specs.Names.{given_names, wire_names, all_names, targets_of}
use Rattle.av_net.specs.Settled.{Agree}
use Rattle.av_net.specs.Sound.{IsSound}
use Rattle.av_commands.specs.Shown.{word_on}
use Rattle.av_commands.specs.inner.Watching.{bits_of, AreTaps, noted, watched}
use Rattle.av_commands.proofs.Fed.{at_index}
use Rattle.av_wave.proofs.Presenting.{drive_there}
use Rattle.av_base.proofs.Lists.{all_at}
use Rattle.av_data.proofs.Lined.{one_some}

-- ---- places

-- the place of a wire more
pub taps_more : (m : Module) (lines : List Entry) (n : ℕ) (taps taps' : List ℕ) (place : ℕ) (line : Entry) → AreTaps m lines n taps → slice_get lines n ≡ Some line → slice_get (targets_of m.drives) place ≡ Some line.wire → taps' ≡ taps ++ place ∷ []
    → AreTaps m lines (n + 1) taps'
taps_more m lines n taps taps' place line are there here is = subst (AreTaps m lines (n + 1)) (sym is) (record {
  count = (let c = are.count in omega (arith, c, length-append taps (place ∷ [])));
  drives = λ k l lt e. elim (cases_lt k n) [
    | inl before ↦ subst (λ w. slice_get (targets_of m.drives) w ≡ Some l.wire) (sym (get_or_append_left taps (place ∷ []) 0 k (let c = are.count in omega (arith, c, before)))) (are.drives k l before e)
    | inr now ↦
        let last : length taps + 0 ≡ k = (let c = are.count in omega (arith, c, now, lt)) in
        let value : slice_index (taps ++ place ∷ []) k ≡ place = ap (slice_index (taps ++ place ∷ [])) (sym last) ∙ get_or-append-add taps (place ∷ []) 0 0 in
        let same : n ≡ k = omega (arith, now, lt) in
        let one : Some line ≡ Some l = sym there ∙ ap (slice_get lines) same ∙ e in
        ap (slice_get (targets_of m.drives)) value ∙ here ∙ ap (option_map (λ (q : Entry). q.wire)) one
  ];
})

-- a place is one of a drive, of the line's wire
pub tap_within : (m : Module) (lines : List Entry) (taps : List ℕ) (k : ℕ) (line : Entry) → AreTaps m lines (length lines) taps → slice_get lines k ≡ Some line → slice_index taps k < length m.drives
tap_within m lines taps k line are e =
    omega (arith, slice_get_within (targets_of m.drives) (slice_index taps k) line.wire (are.drives k line (slice_get_within lines k line e) e), length-map m.drives (λ (d : Drive). d.target))

pub tap_word : (m : Module) (lines : List Entry) (taps : List ℕ) (k word : ℕ) (line : Entry) (v : Words) → AreTaps m lines (length lines) taps → slice_get lines k ≡ Some line
    → ((d : Drive) → word ≡ v (get_or m.drives (slice_index taps k) d).target) → word ≡ v line.wire
tap_word m lines taps k word line v are e is =
    let (drive, here, target) = drive_there m.drives (slice_index taps k) line.wire (are.drives k line (slice_get_within lines k line e) e) in
    is drive ∙ ap (λ (x : Drive). v x.target) (get_or_from_slice_get m.drives (slice_index taps k) drive drive here) ∙ ap v target

-- a wire that has a place is one of the module
pub tap_named : (m : Module) (lines : List Entry) (taps : List ℕ) → IsSound m → AreTaps m lines (length lines) taps → All (λ line. Contains (all_names m) line.wire) lines
tap_named m lines taps sound are = λ k d lt.
    let line = get_or lines k d in
    let at = are.drives k line lt (slice_get-get_or lines k d lt) in
    Contains-append_right (given_names m) (wire_names m) line.wire (all_at (Contains (wire_names m)) (targets_of m.drives) (slice_index taps k) line.wire sound.drives_wires at)

-- ---- one cycle

-- the first k of the lines are noted, and the others not yet
abbrev pub mixed : Words → ℕ → ℕ → List Entry → List ℕ → List ℕ
mixed v cycle zero lines words = words
mixed v cycle (suc k) [] words = words
mixed v cycle (suc k) (line ∷ lines) [] = []
mixed v cycle (suc k) (line ∷ lines) (word ∷ words) = (if nat_eq line.cycle cycle then v line.wire else word) ∷ mixed v cycle k lines words

pub mixed_all : (v : Words) (cycle k : ℕ) (lines : List Entry) (words : List ℕ) → length lines ≤ k → length words ≡ length lines → mixed v cycle k lines words ≡ noted v cycle lines words
mixed_all v cycle zero [] words le long = refl
mixed_all v cycle zero (line ∷ lines) words le long = absurd (omega arith)
mixed_all v cycle (suc k) [] words le long = refl
mixed_all v cycle (suc k) (line ∷ lines) [] le long = refl
mixed_all v cycle (suc k) (line ∷ lines) (word ∷ words) le long = ap (λ (z : List ℕ). (if nat_eq line.cycle cycle then v line.wire else word) ∷ z) (mixed_all v cycle k lines words (omega arith) (omega (arith, long)))

-- one line more is of the cycle, or it is not
pub mixed_noted : (v : Words) (cycle k : ℕ) (lines : List Entry) (words : List ℕ) (line : Entry) → slice_get lines k ≡ Some line → length words ≡ length lines → nat_eq line.cycle cycle ≡ true
    → mixed v cycle (suc k) lines words ≡ slice_set (mixed v cycle k lines words) k (v line.wire)
mixed_noted v cycle k [] words line e long is = absurd cc
mixed_noted v cycle k (l ∷ lines) [] line e long is = absurd (omega (arith, long))
mixed_noted v cycle zero (l ∷ lines) (word ∷ words) line e long is = let same : l ≡ line = one_some e in rw (ap (λ (x : Entry). x.cycle) same, is) (ap (λ (x : Entry). v x.wire ∷ words) same)
mixed_noted v cycle (suc k) (l ∷ lines) (word ∷ words) line e long is = ap (λ (z : List ℕ). (if nat_eq l.cycle cycle then v l.wire else word) ∷ z) (mixed_noted v cycle k lines words line e (omega (arith, long)) is)

pub mixed_passed : (v : Words) (cycle k : ℕ) (lines : List Entry) (words : List ℕ) (line : Entry) → slice_get lines k ≡ Some line → length words ≡ length lines → nat_eq line.cycle cycle ≡ false
    → mixed v cycle (suc k) lines words ≡ mixed v cycle k lines words
mixed_passed v cycle k [] words line e long is = absurd cc
mixed_passed v cycle k (l ∷ lines) [] line e long is = absurd (omega (arith, long))
mixed_passed v cycle zero (l ∷ lines) (word ∷ words) line e long is = let same : l ≡ line = one_some e in rw (ap (λ (x : Entry). x.cycle) same, is) refl
mixed_passed v cycle (suc k) (l ∷ lines) (word ∷ words) line e long is = ap (λ (z : List ℕ). (if nat_eq l.cycle cycle then v l.wire else word) ∷ z) (mixed_passed v cycle k lines words line e (omega (arith, long)) is)

-- a line more is looked at
pub note_taken : (m : Module) (lines : List Entry) (taps : List ℕ) (v : Words) (cycle k bits : ℕ) (line : Entry) (start words words' : List Word) → AreTaps m lines (length lines) taps → k < length lines → line ≡ get_or lines k line
    → length start ≡ length lines → bits_of words ≡ mixed v cycle k lines (bits_of start) → line.cycle ≡ cycle → ((d : Drive) → bits ≡ v (get_or m.drives (slice_index taps k) d).target)
    → words' ≡ slice_set words k (record { bits = bits }) → bits_of words' ≡ mixed v cycle (k + 1) lines (bits_of start)
note_taken m lines taps v cycle k bits line start words words' are lt is long so here value e =
    let there = at_index lines k line lt is in
    ap bits_of e ∙ map-set (λ (w : Word). w.bits) words k (record { bits = bits }) ∙ ap (λ (z : List ℕ). slice_set z k bits) so
    ∙ ap (slice_set (mixed v cycle k lines (bits_of start)) k) (tap_word m lines taps k bits line v are there value)
    ∙ sym (mixed_noted v cycle k lines (bits_of start) line there (length-map start (λ (w : Word). w.bits) ∙ long) (eq-eqb line.cycle cycle here))
    ∙ ap (λ n. mixed v cycle n lines (bits_of start)) next
  where
    next : suc k ≡ k + 1
    next = omega arith

pub note_passed : (lines : List Entry) (v : Words) (cycle k : ℕ) (line : Entry) (start words words' : List Word) → k < length lines → line ≡ get_or lines k line
    → length start ≡ length lines → bits_of words ≡ mixed v cycle k lines (bits_of start) → (line.cycle ≡ cycle → ⊥) → words' ≡ words → bits_of words' ≡ mixed v cycle (k + 1) lines (bits_of start)
note_passed lines v cycle k line start words words' lt is long so other e =
    let there = at_index lines k line lt is in
    ap bits_of e ∙ so ∙ sym (mixed_passed v cycle k lines (bits_of start) line there (length-map start (λ (w : Word). w.bits) ∙ long) (differ (nat_eq line.cycle cycle) refl))
    ∙ ap (λ n. mixed v cycle n lines (bits_of start)) next
  where
    next : suc k ≡ k + 1
    next = omega arith

    differ : (t : Bool) → nat_eq line.cycle cycle ≡ t → nat_eq line.cycle cycle ≡ false
    differ true f = absurd (other (eqb-true line.cycle cycle f))
    differ false f = f

pub bits_set : (words : List Word) (k bits : ℕ) → bits_of (slice_set words k (record { bits = bits })) ≡ slice_set (bits_of words) k bits
bits_set words k bits = map-set (λ (w : Word). w.bits) words k (record { bits = bits })

-- ---- all cycles

-- nothing is watched before the first cycle
pub watched_none : (in_cycle : ℕ → Words) (lines : List Entry) (words : List Word) → length words ≡ length lines → All (λ (w : Word). w.bits ≡ 0) words → bits_of words ≡ watched in_cycle 0 lines
watched_none in_cycle [] [] long zeros = refl
watched_none in_cycle [] (w ∷ words) long zeros = absurd (omega (arith, long))
watched_none in_cycle (line ∷ lines) [] long zeros = absurd (omega (arith, long))
watched_none in_cycle (line ∷ lines) (w ∷ words) long zeros =
    ap (λ (z : ℕ). z ∷ bits_of words) (zeros 0 w (omega arith)) ∙ ap (λ (z : List ℕ). 0 ∷ z) (watched_none in_cycle lines words (omega (arith, long)) (All-tail (λ (w : Word). w.bits ≡ 0) w words zeros))
    ∙ ap (λ (t : Bool). (if t then in_cycle line.cycle line.wire else 0) ∷ watched in_cycle 0 lines) (sym (never (nat_lt line.cycle 0) refl))
  where
    never : (t : Bool) → nat_lt line.cycle 0 ≡ t → nat_lt line.cycle 0 ≡ false
    never true e = absurd (let lt = ltb-true line.cycle 0 e in omega (arith, lt))
    never false e = e

pub watched_more : (in_cycle : ℕ → Words) (v : Words) (cycle : ℕ) (lines : List Entry) → All (λ line. v line.wire ≡ in_cycle cycle line.wire) lines → noted v cycle lines (watched in_cycle cycle lines) ≡ watched in_cycle (cycle + 1) lines
watched_more in_cycle v cycle [] agree = refl
watched_more in_cycle v cycle (line ∷ lines) agree =
    let first = by (nat_eq line.cycle cycle) (nat_lt line.cycle cycle) (nat_lt line.cycle (cycle + 1)) refl refl refl in
    let rest = watched_more in_cycle v cycle lines (All-tail (λ (l : Entry). v l.wire ≡ in_cycle cycle l.wire) line lines agree) in
    ap (λ (z : ℕ). z ∷ noted v cycle lines (watched in_cycle cycle lines)) first ∙ ap (λ (z : List ℕ). (if nat_lt line.cycle (cycle + 1) then in_cycle line.cycle line.wire else 0) ∷ z) rest
  where
    by : (t u w : Bool) → nat_eq line.cycle cycle ≡ t → nat_lt line.cycle cycle ≡ u → nat_lt line.cycle (cycle + 1) ≡ w
        → (if t then v line.wire else (if u then in_cycle line.cycle line.wire else 0)) ≡ (if w then in_cycle line.cycle line.wire else 0)
    by true u true e f g = All-head (λ (l : Entry). v l.wire ≡ in_cycle cycle l.wire) line lines agree ∙ ap (λ n. in_cycle n line.wire) (sym (eqb-true line.cycle cycle e))
    by true u false e f g = absurd (omega (arith, eqb-true line.cycle cycle e, ltb-false line.cycle (cycle + 1) g))
    by false true true e f g = refl
    by false true false e f g = absurd (omega (arith, ltb-true line.cycle cycle f, ltb-false line.cycle (cycle + 1) g))
    by false false true e f g = absurd (differ e (omega (arith, ltb-false line.cycle cycle f, ltb-true line.cycle (cycle + 1) g)))
      where
        differ : nat_eq line.cycle cycle ≡ false → line.cycle ≡ cycle → ⊥
        differ e same = absurd (let k = sym e ∙ eq-eqb line.cycle cycle same in cc)
    by false false false e f g = refl

pub agree_on : (m : Module) (v w : Words) (lines : List Entry) → Agree (all_names m) v w → All (λ line. Contains (all_names m) line.wire) lines → All (λ line. v line.wire ≡ w line.wire) lines
agree_on m v w lines agree named = λ k d lt. let line = get_or lines k d in All-contains (λ name. v name ≡ w name) (all_names m) line.wire agree (named k d lt)

-- where all lines are reached, their words are watched
pub watched_all : (in_cycle : ℕ → Words) (cycles : ℕ) (lines : List Entry) → All (λ line. line.cycle < cycles) lines → watched in_cycle cycles lines ≡ map (word_on in_cycle) lines
watched_all in_cycle cycles [] reached = refl
watched_all in_cycle cycles (line ∷ lines) reached =
    let here : nat_lt line.cycle cycles ≡ true = lt-ltb line.cycle cycles (All-head (λ (l : Entry). l.cycle < cycles) line lines reached) in
    ap (λ (t : Bool). (if t then in_cycle line.cycle line.wire else 0) ∷ watched in_cycle cycles lines) here
    ∙ ap (λ (z : List ℕ). in_cycle line.cycle line.wire ∷ z) (watched_all in_cycle cycles lines (All-tail (λ (l : Entry). l.cycle < cycles) line lines reached))

-- ---- the greatest cycle

-- all of the lines so far, and the next one, are in earlier cycles
pub earlier_more : (lines : List Entry) (n cycles cycles' : ℕ) (line : Entry) → All (λ line. line.cycle < cycles) (take n lines) → n < length lines → line ≡ get_or lines n line → cycles ≤ cycles' → line.cycle < cycles'
    → All (λ line. line.cycle < cycles') (take (n + 1) lines)
earlier_more lines n cycles cycles' line all lt is le here =
    let next : take (n + 1) lines ≡ take n lines ++ line ∷ [] = rw add-one (take-suc lines n line lt ∙ ap (λ (l : Entry). take n lines ++ l ∷ []) (sym is)) in
    subst (All (λ (l : Entry). l.cycle < cycles')) (sym next)
    (All-append (λ (l : Entry). l.cycle < cycles') (take n lines) (line ∷ []) (All-weaker (λ (l : Entry). l.cycle < cycles) (λ (l : Entry). l.cycle < cycles') (λ l less. omega (arith, less, le)) (take n lines) all)
    (All-cons (λ (l : Entry). l.cycle < cycles') line [] here (All-nil (λ (l : Entry). l.cycle < cycles'))))

pub earlier_all : (lines : List Entry) (n cycles : ℕ) → length lines ≤ n → All (λ line. line.cycle < cycles) (take n lines) → All (λ line. line.cycle < cycles) lines
earlier_all lines n cycles le all = subst (All (λ (l : Entry). l.cycle < cycles)) (take_all n lines le) all

-- as many words are noted as there were
pub noted_length : (v : Words) (cycle : ℕ) (lines : List Entry) (words words' : List Word) → length words ≡ length lines → bits_of words' ≡ noted v cycle lines (bits_of words) → length words' ≡ length words
noted_length v cycle lines words words' long is =
    sym (length-map words' (λ (w : Word). w.bits)) ∙ ap length is ∙ same lines (bits_of words) (length-map words (λ (w : Word). w.bits) ∙ long) ∙ length-map words (λ (w : Word). w.bits)
  where
    same : (ls : List Entry) (ws : List ℕ) → length ws ≡ length ls → length (noted v cycle ls ws) ≡ length ws
    same [] ws e = refl
    same (l ∷ ls) [] e = refl
    same (l ∷ ls) (w ∷ ws) e = ap suc (same ls ws (omega (arith, e)))
