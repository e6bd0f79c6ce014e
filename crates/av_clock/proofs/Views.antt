-- From the fields of a clock to what is seen of it.
use Rattle.std.proofs.Common.{◌≡◌, ◌≢◌, ℕ, zero, suc, ◌+◌, ◌-◌, ◌^◌, ◌<◌, ◌≤◌, min, List, ◌++◌, length, get_or, set, slice_get, Option, Some, None, refl, sym, ◌∙◌, ap, subst, arith, Bool, true, false, Vec, inl, inr, replicate, length-append}
use Rattle.std.specs.Prelude.{Contains, IfSome, IsTrue, if◌then◌else◌}
use Rattle.std.specs.Option.{ForSome}
use Rattle.std.specs.declared.alloc.Global.{Global}
use Rattle.std.specs.Vec.{with_items}
use Rattle.std.proofs.Math.ListN.{get_or-append}
use Rattle.std.proofs.lemmas.Bool.{cases_lt}
use Rattle.std.proofs.lemmas.Nat.{pow_pos}
use Rattle.std.proofs.lemmas.Grind.{get_or_default_zero}
use Rattle.std.proofs.lemmas.List.{with_items_is, get_or-map, length-map, get_or-replicate, length-replicate, get_or_past}
use Rattle.std.proofs.lemmas.List.Elements.{All-contains, Contains-append_left}
use Rattle.std.proofs.lemmas.Option.{slice_get-get_or, slice_get_within, slice_get_cases, get_or_from_slice_get}
use Rattle.av_base.specs.Words.{IsWord}
use Rattle.av_net.specs.declared.netlist.Port.{Port}
use Rattle.av_net.specs.declared.netlist.Drive.{Drive}
use Rattle.av_net.specs.declared.netlist.Module.{Module}
use Rattle.av_net.specs.Meaning.{Words}
use Rattle.av_net.specs.Names.{AreDistinct, names_of, given_names, wire_names, all_names, width_of}
use Rattle.av_net.specs.Settled.{Settled, Holds}
use Rattle.av_net.specs.Sound.{IsSound}
use Rattle.av_net.proofs.Cycles.{is_declared, register_contained}
use Rattle.av_net.proofs.Declared.{declared_width, input_declared}
use Rattle.av_net.proofs.Distinct.{apart, front_distinct}
use Rattle.av_net.proofs.Settles.{with_word, with_word_same, with_word_other, names_distinct}
use Rattle.av_clock.specs.Named.{named, AllFit}
use Rattle.av_clock.specs.Seen.{Seen, carried}
use Rattle.av_clock.specs.Marked.{IsClear, AreHeld, touched}
use Rattle.av_clock.specs.inner.Engine.{IsWhole}
use Rattle.av_clock.specs.Kept.{AreZero}
use Rattle.av_clock.specs.Marking.{ReadTheSame}
use Rattle.av_clock.proofs.Held.{given_apart, written_fit}
use Rattle.av_clock.proofs.Marking.{none_clear}
use Rattle.av_clock.proofs.Touched.{all_touched}
use Rattle.av_clock.proofs.Lookup.{look_at, look_set, look_zero, contains_at}

-- the words of a clock that was just made
pub zeros_fit : (m : Module) (n : ℕ) → AllFit m (replicate n 0)
zeros_fit m n k d lt =
    let name = get_or (all_names m) k d in
    let word : named m (replicate n 0) name ≡ 0 = look_zero (all_names m) (replicate n 0) name (λ i. elim (cases_lt i n) [
      | inl within ↦ get_or-replicate n i 0 0 within
      | inr past ↦ get_or_past (replicate n 0) i 0 (rw length-replicate past)
    ]) in
    rw word (pow_pos (width_of m name))

-- the words after a call that was lent them as a slice
pub new_items : (v : Vec ℕ Global) (before new : List ℕ) → length new ≡ length before → before ≡ v.items → (with_items v new).items ≡ new
new_items v before new same is = with_items_is v new (same ∙ ap length is ∙ sym v.ok.0)

-- there are as many
pub size_call : (v : Vec ℕ Global) (before new : List ℕ) → length new ≡ length before → before ≡ v.items → length (with_items v new).items ≡ length v.items
size_call v before new same is = ap length (new_items v before new same is) ∙ same ∙ ap length is

-- a port's place among all names
pub port_at : (m : Module) (k : ℕ) (port : Port) → slice_get m.inputs k ≡ Some port → slice_get (all_names m) k ≡ Some port.name
port_at m k port at =
    let lt : k < length m.inputs = slice_get_within m.inputs k port at in
    let inputs = names_of m.inputs in
    let registers = names_of m.registers in
    let count : length inputs ≡ length m.inputs = length-map m.inputs (λ (port : Port). port.name) in
    let lt' : k < length (inputs ++ registers) = omega (arith, length-append inputs registers) in
    let lt'' : k < length (all_names m) = omega (arith, length-append (inputs ++ registers) (wire_names m)) in
    let here : get_or inputs k port.name ≡ (get_or m.inputs k port).name = get_or-map (λ (port : Port). port.name) m.inputs k port port.name lt in
    let name : (get_or m.inputs k port).name ≡ port.name = ap (λ (port : Port). port.name) (get_or_from_slice_get m.inputs k port port at) in
    slice_get-get_or (all_names m) k port.name lt''
    ∙ ap Some (get_or-append (inputs ++ registers) (wire_names m) port.name k lt' ∙ get_or-append inputs registers port.name k (omega arith) ∙ here ∙ name)

-- and among the names of the inputs
pub input_at : (m : Module) (k : ℕ) (port : Port) → slice_get m.inputs k ≡ Some port → slice_get (names_of m.inputs) k ≡ Some port.name
input_at m k port at =
    let lt : k < length m.inputs = slice_get_within m.inputs k port at in
    let inputs = names_of m.inputs in
    let count : length inputs ≡ length m.inputs = length-map m.inputs (λ (port : Port). port.name) in
    let here : get_or inputs k port.name ≡ (get_or m.inputs k port).name = get_or-map (λ (port : Port). port.name) m.inputs k port port.name lt in
    let name : (get_or m.inputs k port).name ≡ port.name = ap (λ (port : Port). port.name) (get_or_from_slice_get m.inputs k port port at) in
    slice_get-get_or inputs k port.name (omega arith) ∙ ap Some (here ∙ name)

-- a word at a port
pub port_set : (m : Module) (words : List ℕ) (k value : ℕ) (port : Port) → IsSound m → length words ≡ length (all_names m) → slice_get m.inputs k ≡ Some port → named m (set words k value) ≡ with_word (named m words) port.name value
port_set m words k value port sound same at = look_set (all_names m) words k value port.name (names_distinct m sound) same (port_at m k port at)

-- a word at a port fits
pub port_fits : (m : Module) (k value : ℕ) → IsSound m → k < length m.inputs → ForSome (slice_get m.inputs k) (λ port. IsWord port.width.bits value) → (name : List ℕ) → slice_get (all_names m) k ≡ Some name → IsWord (width_of m name) value
port_fits m k value sound lt fits name at = elim (slice_get_cases m.inputs k).1 [
  | inl (port, within, found, here) ↦
      let same : port.name ≡ name = let e = sym (port_at m k port found) ∙ at in cc in
      let wide : width_of m port.name ≡ port.width.bits = declared_width m sound port (input_declared m port (k, lt, here)) in
      subst (λ (other : List ℕ). IsWord (width_of m other) value) same (rw wide (fits port found))
  | inr (past, none) ↦ absurd (omega arith)
]

-- and is there
pub port_within : (m : Module) (words : List ℕ) (k : ℕ) → length words ≡ length (all_names m) → k < length m.inputs → k < length words
port_within m words k same lt = elim (slice_get_cases m.inputs k).1 [
  | inl (port, within, found, here) ↦ let there : k < length (all_names m) = slice_get_within (all_names m) k port.name (port_at m k port found) in omega arith
  | inr (past, none) ↦ absurd (omega arith)
]

pub set_fits : (m : Module) (words : List ℕ) (k value : ℕ) → IsSound m → length words ≡ length (all_names m) → k < length m.inputs → ForSome (slice_get m.inputs k) (λ port. IsWord port.width.bits value) → AllFit m words → AllFit m (set words k value)
set_fits m words k value sound same lt fits fit = written_fit m words k value sound same (port_within m words k same lt) (port_fits m k value sound lt fits) fit

-- from each value that an option may hold
if_some : {X : Type 0} (o : Option X) (P : X → Type 0) → ((x : X) → o ≡ Some x → P x) → IfSome o P
if_some None P h = tt
if_some (Some x) P h = h x refl

-- the port has the word
pub set_port : {ms : List Bool} (s : Seen) (m : Module) (words : List ℕ) (b : Bool) (w : ℕ) (k value : ℕ) → record { of = m; words = words; settled = b; work = w; marked = ms } ≡ s → IsSound m → length words ≡ length (all_names m) → IfSome (slice_get s.of.inputs k) (λ port. named m (set words k value) port.name ≡ value)
set_port s m words b w k value view sound same =
    let of : m ≡ s.of = ap (λ (s : Seen). s.of) view in
    if_some (slice_get s.of.inputs k) (λ port. named m (set words k value) port.name ≡ value) (λ port at.
    let wrote = port_set m words k value port sound same (rw of at) in
    rw wrote (with_word_same (named m words) port.name value))

-- and every other name its own
pub set_others : {ms : List Bool} (s : Seen) (m : Module) (words : List ℕ) (b : Bool) (w : ℕ) (k value : ℕ) → record { of = m; words = words; settled = b; work = w; marked = ms } ≡ s → IsSound m → length words ≡ length (all_names m)
    → IfSome (slice_get s.of.inputs k) (λ port. (name : List ℕ) → name ≢ port.name → named m (set words k value) name ≡ carried s name)
set_others s m words b w k value view sound same =
    let of : m ≡ s.of = ap (λ (s : Seen). s.of) view in
    if_some (slice_get s.of.inputs k) (λ port. (name : List ℕ) → name ≢ port.name → named m (set words k value) name ≡ carried s name) (λ port at name other.
    let wrote = port_set m words k value port sound same (rw of at) in
    rw wrote (with_word_other (named m words) port.name value name other ∙ ap (λ (s : Seen). carried s name) view))

-- a clock that says so is settled
pub value_settled : {ms : List Bool} (s : Seen) (m : Module) (items : List ℕ) (b : Bool) (w : ℕ) → record { of = m; words = items; settled = b; work = w; marked = ms } ≡ s → (IsTrue b → Settled m (named m items)) → IsTrue s.settled → Settled s.of (carried s)
value_settled s m items b w view settled flag =
    let P : Seen → Type 0 = λ t. Settled t.of (carried t) in
    subst P view (settled (ap (λ (t : Seen). t.settled) view ∙ flag))

-- the place of a drive, as it is seen
pub drive_seen : {ms : List Bool} (s : Seen) (m : Module) (items : List ℕ) (b : Bool) (w : ℕ) (k : ℕ) → record { of = m; words = items; settled = b; work = w; marked = ms } ≡ s → k < length s.of.drives → k < length m.drives
drive_seen s m items b w k view lt = let P : Seen → Type 0 = λ t. k < length t.of.drives in subst P (sym view) lt

-- the place of a port, as it is seen
pub port_seen : {ms : List Bool} (s : Seen) (m : Module) (items : List ℕ) (b : Bool) (w : ℕ) (k : ℕ) → record { of = m; words = items; settled = b; work = w; marked = ms } ≡ s → k < length s.of.inputs → k < length m.inputs
port_seen s m items b w k view lt = let P : Seen → Type 0 = λ t. k < length t.of.inputs in subst P (sym view) lt

-- and that a value fits it
pub fits_seen : {ms : List Bool} (s : Seen) (m : Module) (items : List ℕ) (b : Bool) (w : ℕ) (k value : ℕ) → record { of = m; words = items; settled = b; work = w; marked = ms } ≡ s → ForSome (slice_get s.of.inputs k) (λ port. IsWord port.width.bits value) → ForSome (slice_get m.inputs k) (λ port. IsWord port.width.bits value)
fits_seen s m items b w k value view fits = let P : Seen → Type 0 = λ t. ForSome (slice_get t.of.inputs k) (λ port. IsWord port.width.bits value) in subst P (sym view) fits

-- what is seen after a word was set
pub set_seen : {ms ms' : List Bool} (s : Seen) (m m' : Module) (words words' : List ℕ) (b : Bool) (w : ℕ) (k value : ℕ) → record { of = m; words = words; settled = b; work = w; marked = ms } ≡ s → m' ≡ m → words' ≡ set words k value
    → record { of = m'; words = words'; settled = false; work = w; marked = ms' } ≡ record s { words = set s.words k value; settled = false; marked = ms' }
set_seen {ms' = ms'} s m m' words words' b w k value view same wrote =
    let P : Seen → Type 0 = λ t. record { of = m'; words = words'; settled = false; work = w; marked = ms' } ≡ record t { words = set t.words k value; settled = false; marked = ms' } in
    let F : Module → List ℕ → Seen = λ n ws. record { of = n; words = ws; settled = false; work = w; marked = ms' } in
    subst P view (ap (λ (n : Module). F n words') same ∙ ap (F m) wrote)

-- what is not marked holds after it was
pub set_held : (m : Module) (words : List ℕ) (k value : ℕ) (stale stale' due due' : List Bool) → IsSound m → length words ≡ length (all_names m) → k < length m.inputs
    → ReadTheSame m words (set words k value) stale stale' due due' → AreHeld m words stale due → AreHeld m (set words k value) stale' due'
set_held m words k value stale stale' due due' sound size lt reads held = elim (slice_get_cases m.inputs k).1 [
  | inl (port, within, found, here) ↦
      let wrote = port_set m words k value port sound size found in
      let at : Contains (names_of m.inputs) port.name = contains_at (names_of m.inputs) k port.name (input_at m k port found) in
      let given : AreDistinct (given_names m) = front_distinct (given_names m) (wire_names m) (names_distinct m sound) in
      let same : (name : List ℕ) → name ≢ port.name → named m (set words k value) name ≡ named m words name = λ name other. rw wrote (with_word_other (named m words) port.name value name other) in
      record {
        drives = λ i d below clear.
            let both = reads.drives i d below clear in
            same (get_or m.drives i d).target (given_apart m i d port.name sound below (Contains-append_left (names_of m.inputs) (names_of m.registers) port.name at)) ∙ held.drives i d below both.0 ∙ sym both.1;
        steps = λ i d below clear.
            let both = reads.steps i d below clear in
            let register = (get_or m.steps i d).register in
            same register (λ e. apart (names_of m.inputs) (names_of m.registers) port.name given at (subst (Contains (names_of m.registers)) e (is_declared m sound register (register_contained m i d below)))) ∙ held.steps i d below both.0 ∙ sym both.1;
      }
  | inr (past, none) ↦ absurd (omega arith)
]

-- all holds of settled words where all steps are marked
pub settled_held : (m : Module) (words : List ℕ) (stale due : List Bool) (n : ℕ) → due ≡ replicate n true → Settled m (named m words) → AreHeld m words stale due
settled_held m words stale due n filled settled = record {
  drives = λ k d lt clear. settled k d lt;
  steps = λ k d lt clear. absurd (none_clear n k (subst (λ ms. IsClear ms k) filled clear));
}

-- marks that were made anew where a clock was dense
pub anew_held : (m : Module) (words : List ℕ) (dense : Bool) (stale stale' due due' : List Bool) → (IsTrue dense → (stale' ≡ replicate (length stale) false) × (due' ≡ replicate (length due) true))
    → (dense ≡ false → (stale' ≡ stale) × (due' ≡ due)) → (dense ≡ false → AreHeld m words stale due) → Settled m (named m words) → AreHeld m words stale' due'
anew_held m words true stale stale' due due' new kept held settled = settled_held m words stale' due' (length due) (new refl).1 settled
anew_held m words false stale stale' due due' new kept held settled = let k = kept refl in rw (k.0, k.1) (held refl)

-- and they are as many
pub anew_size : (dense mark : Bool) (marks marks' : List Bool) → (IsTrue dense → marks' ≡ replicate (length marks) mark) → (dense ≡ false → marks' ≡ marks) → length marks' ≡ length marks
anew_size true mark marks marks' new kept = ap length (new refl) ∙ length-replicate (length marks) mark
anew_size false mark marks marks' new kept = ap length (kept refl)

-- a count that is added to none
pub first_count : (old count new : ℕ) → new ≡ min (old + count) (2 ^ 64 - 1) → new ≡ 0 → count ≡ 0
first_count old count new is zero' = omega arith

-- none is counted before
pub first_none : (old count new : ℕ) → new ≡ min (old + count) (2 ^ 64 - 1) → new ≡ 0 → old ≡ 0
first_none old count new is zero' = omega arith

-- nor where there is none to count
pub first_empty : (old count new n : ℕ) → new ≡ min (old + count) (2 ^ 64 - 1) → count ≤ n → old ≡ 0 → n ≡ 0 → new ≡ n
first_empty old count new n is few zero' none = omega arith

-- ---- marks

-- each drive that is not marked holds, of what is seen
pub unmarked_hold : (s : Seen) (m : Module) (words : List ℕ) (b dense : Bool) (w : ℕ) (stale due : List Bool)
    → record { of = m; words = words; settled = b; work = w; marked = if dense then replicate (length m.drives) true else stale } ≡ s → (dense ≡ false → AreHeld m words stale due)
    → (k : ℕ) (d : Drive) → k < length s.of.drives → IsClear s.marked k → Holds (width_of s.of) (carried s) (get_or s.of.drives k d)
unmarked_hold s m words b dense w stale due view held =
    let P : Seen → Type 0 = λ t. (k : ℕ) (d : Drive) → k < length t.of.drives → IsClear t.marked k → Holds (width_of t.of) (carried t) (get_or t.of.drives k d) in
    subst P view (λ k d lt clear. by dense k d lt clear held)
  where
    by : (t : Bool) (k : ℕ) (d : Drive) → k < length m.drives → IsClear (if t then replicate (length m.drives) true else stale) k → (t ≡ false → AreHeld m words stale due)
        → Holds (width_of m) (named m words) (get_or m.drives k d)
    by true k d lt clear h = absurd (none_clear (length m.drives) k clear)
    by false k d lt clear h = (h refl).drives k d lt clear

-- those of a clock that is not dense, and of one that is
pub own_marks : (s : Seen) (m : Module) (words : List ℕ) (b dense : Bool) (w : ℕ) (stale : List Bool)
    → record { of = m; words = words; settled = b; work = w; marked = if dense then replicate (length m.drives) true else stale } ≡ s → dense ≡ false → s.marked ≡ stale
own_marks s m words b dense w stale view e = sym (ap (λ (t : Seen). t.marked) view) ∙ ap (λ (t : Bool). if t then replicate (length m.drives) true else stale) e

pub all_marked : (s : Seen) (m : Module) (words : List ℕ) (b dense : Bool) (w : ℕ) (stale : List Bool)
    → record { of = m; words = words; settled = b; work = w; marked = if dense then replicate (length m.drives) true else stale } ≡ s → dense ≡ true → s.marked ≡ replicate (length s.of.drives) true
all_marked s m words b dense w stale view e =
    sym (ap (λ (t : Seen). t.marked) view) ∙ ap (λ (t : Bool). if t then replicate (length m.drives) true else stale) e ∙ ap (λ (t : Seen). replicate (length t.of.drives) true) view

-- where all are marked, none stands before the first
pub all_computed : (old count new n k : ℕ) (marks : List Bool) → new ≡ min (old + count) (2 ^ 64 - 1) → count ≡ n → marks ≡ replicate n true → k ≤ n → ((j : ℕ) → j < k → IsClear marks j) → new + k ≤ old + n
all_computed old count new n zero marks is all filled few clear = omega (arith, is, all)
all_computed old count new n (suc k) marks is all filled few clear =
    absurd (none_clear n 0 (subst (λ (ms : List Bool). IsClear ms 0) filled (clear 0 (omega arith))))

pub few_computed : (old count new n k : ℕ) → new ≡ min (old + count) (2 ^ 64 - 1) → count + k ≤ n → new + k ≤ old + n
few_computed old count new n k is few = omega (arith, is, few)

-- what a settle computes is touched, of what is seen
pub touched_seen : (s : Seen) (m : Module) (words : List ℕ) (v : Words) (b dense : Bool) (w : ℕ) (stale : List Bool) (count next : ℕ)
    → record { of = m; words = words; settled = b; work = w; marked = if dense then replicate (length m.drives) true else stale } ≡ s → dense ≡ false
    → next ≡ min (w + count) (2 ^ 64 - 1) → count ≤ touched (named m words) v m.drives stale → next ≤ s.work + touched (carried s) v s.of.drives s.marked
touched_seen s m words v b dense w stale count next view e sum few =
    let P : Seen → Type 0 = λ t. next ≤ t.work + touched (carried t) v t.of.drives t.marked in
    let Q : List Bool → Type 0 = λ ms. next ≤ w + touched (named m words) v m.drives ms in
    let own = ap (λ (t : Bool). if t then replicate (length m.drives) true else stale) e in
    subst P view (subst Q (sym own) (omega (arith, sum, few)))

-- and all are, where all are marked
pub all_count : (s : Seen) (v : Words) (old count next : ℕ) → next ≡ min (old + count) (2 ^ 64 - 1) → old ≡ s.work → count ≡ length s.of.drives → s.marked ≡ replicate (length s.of.drives) true
    → next ≤ s.work + touched (carried s) v s.of.drives s.marked
all_count s v old count next sum work all filled =
    subst (λ (ms : List Bool). next ≤ s.work + touched (carried s) v s.of.drives ms) (sym filled)
    (let e = all_touched (carried s) v s.of.drives in omega (arith, sum, work, all, e))

-- ---- words of the constant 0

-- and of those after a word was set at a port
pub set_zero : (m : Module) (words : List ℕ) (k value : ℕ) → IsSound m → length words ≡ length (all_names m) → k < length m.inputs → AreZero m words → AreZero m (set words k value)
set_zero m words k value sound size lt zeros = elim (slice_get_cases m.inputs k).1 [
  | inl (port, within, found, here) ↦
      let set' = port_set m words k value port sound size found in
      let given : Contains (given_names m) port.name =
      Contains-append_left (names_of m.inputs) (names_of m.registers) port.name (contains_at (names_of m.inputs) k port.name (input_at m k port found)) in
      (λ i d below zero'.
      ap (λ (w : Words). w (get_or m.drives i d).target) set'
      ∙ with_word_other (named m words) port.name value (get_or m.drives i d).target (given_apart m i d port.name sound below given)
      ∙ zeros i d below zero')
  | inr (past, none) ↦ absurd (omega arith)
]

-- ---- a word that is read

-- its place is there
pub word_within : {ms : List Bool} (s : Seen) (m : Module) (v : Vec ℕ Global) (b : Bool) (w : ℕ) (place : ℕ) → record { of = m; words = v.items; settled = b; work = w; marked = ms } ≡ s → length v.items ≡ length (all_names m) → place < length (all_names s.of) → place < v.len
word_within s m v b w place view size lt =
    let lt' : place < length (all_names m) = subst (λ (t : Seen). place < length (all_names t.of)) (sym view) lt in
    let long : v.len ≡ length v.items = v.ok.0 in
    omega arith

-- it is the one that is seen
pub word_seen : {ms : List Bool} (s : Seen) (m : Module) (v : Vec ℕ Global) (b : Bool) (w : ℕ) (place word : ℕ) → record { of = m; words = v.items; settled = b; work = w; marked = ms } ≡ s → length v.items ≡ length (all_names m) → place < length (all_names s.of)
    → word ≡ get_or v.items place word → word ≡ get_or s.words place 0
word_seen s m v b w place word view size lt is =
    let lt' : place < length (all_names m) = subst (λ (t : Seen). place < length (all_names t.of)) (sym view) lt in
    subst (λ (t : Seen). word ≡ get_or t.words place 0) view (is ∙ get_or_default_zero v.items place word (rw size lt'))

-- and fits
pub word_fits_seen : {ms : List Bool} (s : Seen) (m : Module) (v : Vec ℕ Global) (b : Bool) (w : ℕ) (place word : ℕ) → record { of = m; words = v.items; settled = b; work = w; marked = ms } ≡ s → IsSound m → length v.items ≡ length (all_names m) → AllFit m v.items
    → place < length (all_names s.of) → word ≡ get_or v.items place word → (name : List ℕ) → slice_get (all_names s.of) place ≡ Some name → IsWord (width_of s.of name) word
word_fits_seen s m v b w place word view sound size fit lt is name at =
    let lt' : place < length (all_names m) = subst (λ (t : Seen). place < length (all_names t.of)) (sym view) lt in
    let at' : slice_get (all_names m) place ≡ Some name = subst (λ (t : Seen). slice_get (all_names t.of) place ≡ Some name) (sym view) at in
    let here : word ≡ named m v.items name = is ∙ get_or_default_zero v.items place word (rw size lt') ∙ sym (look_at (all_names m) v.items place name (names_distinct m sound) size at') in
    subst (λ (t : Seen). IsWord (width_of t.of name) word) view
    (subst (IsWord (width_of m name)) (sym here) (All-contains (λ n. IsWord (width_of m n) (named m v.items n)) (all_names m) name fit (contains_at (all_names m) place name at')))

-- there is a word for each name, and a mark for each drive
pub whole_seen : (s : Seen) (m : Module) (words : List ℕ) (b dense : Bool) (w : ℕ) (stale : List Bool) → record { of = m; words = words; settled = b; work = w; marked = if dense then replicate (length m.drives) true else stale } ≡ s
    → length words ≡ length (all_names m) → length stale ≡ length m.drives → IsWhole s
whole_seen s m words b dense w stale view size marks = subst IsWhole view (record { size = size; marks = by dense })
  where
    by : (t : Bool) → length (if t then replicate (length m.drives) true else stale) ≡ length m.drives
    by true = length-replicate (length m.drives) true
    by false = marks

-- what is driven stands at its place
pub target_seen : {ms : List Bool} (s : Seen) (m : Module) (items : List ℕ) (b : Bool) (w : ℕ) (k place : ℕ) → record { of = m; words = items; settled = b; work = w; marked = ms } ≡ s
    → ((d : Drive) → slice_get (all_names m) place ≡ Some (get_or m.drives k d).target) → (d : Drive) → slice_get (all_names s.of) place ≡ Some (get_or s.of.drives k d).target
target_seen s m items b w k place view at d = subst (λ (t : Seen). slice_get (all_names t.of) place ≡ Some (get_or t.of.drives k d).target) view (at d)
