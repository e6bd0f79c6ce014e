-- What is seen of a clock whose engine clocks the merged module: each word is read at its source.
use Rattle.std.proofs.Common.{◌≡◌, ◌≢◌, ℕ, zero, suc, ◌+◌, ◌<◌, ◌≤◌, List, [], ◌∷◌, map, length, get_or, set, replicate, slice_get, Some, refl, sym, ◌∙◌, ap, subst, arith, inl, inr, Bool, true, false, not, ◌||◌, if◌then◌else◌, Vec}
use Rattle.std.specs.Prelude.{Contains, IsTrue, IfSome}
use Rattle.std.specs.Option.{ForSome}
use Rattle.std.specs.declared.alloc.Global.{Global}
use Rattle.std.specs.Str.{bytes_eq}
use Rattle.std.proofs.Math.ListN.{length-set}
use Rattle.std.proofs.lemmas.Bool.{cases_eq, eq-eqb}
use Rattle.std.proofs.lemmas.List.{ext_get_or, get_or-map, get_or-replicate, get_or-set_same, get_or-set_other, get_or_default, length-map, length-replicate}
use Rattle.std.proofs.lemmas.List.Elements.{Contains-append_left}
use Rattle.std.proofs.lemmas.Option.{slice_get_within, slice_get_cases, get_or_from_slice_get}
use Rattle.std.proofs.lemmas.Slice.Eq.{bytes_eq-Decides}
use Rattle.av_base.specs.Words.{IsWord}
use Rattle.av_net.specs.declared.operation.Operand.{Operand}
use Rattle.av_net.specs.declared.operation.Operand.TheVariants.{Name}
use Rattle.av_net.specs.declared.operation.Operation.{Operation}
use Rattle.av_net.specs.declared.operation.Operation.TheVariants.{Plain, Binary, Signed, Choose, Part, Widen}
use Rattle.av_net.specs.declared.netlist.Drive.{Drive}
use Rattle.av_net.specs.declared.netlist.Step.{Step}
use Rattle.av_net.specs.declared.netlist.Module.{Module}
use Rattle.av_net.specs.Meaning.{word_of, EachOperand}
use Rattle.av_net.specs.Names.{AreDistinct, IsAmong, names_of, given_names, wire_names, all_names, targets_of, registers_of, width_of}
use Rattle.av_net.specs.Settled.{Settled, Agree, Holds}
use Rattle.av_net.specs.Clocked.{Edge}
use Rattle.av_net.specs.Sound.{IsSound}
use Rattle.av_net.proofs.Distinct.{apart, front_distinct, rest_distinct}
use Rattle.av_net.proofs.Once.{agree_at, agree_by}
use Rattle.av_net.proofs.Settles.{names_distinct, not_equal}
use Rattle.av_clock.specs.Named.{named}
use Rattle.av_clock.specs.Seen.{Seen, carried}
use Rattle.av_clock.specs.Marked.{IsClear, has_kept, reads_same, touched}
use Rattle.av_clock.specs.inner.Engine.{IsWhole}
use Rattle.av_clock.specs.Marking.{KeepsWord}
use Rattle.av_clock.specs.Merged.{source_of, sourced, sourced_operation, merged_drive, merged_step, merged, AreMerged, resolved}
use Rattle.av_clock.specs.inner.Sourced.{mark_of, marks_of, seen_of, IsEngine}
use Rattle.av_clock.proofs.Held.{register_given}
use Rattle.av_clock.proofs.Lookup.{look_at, contains_at}
use Rattle.av_clock.proofs.Marking.{never}
use Rattle.av_clock.proofs.MergedModules.{source_at, source_found, resolved_at, resolved_size, source_word, sourced_word, sourced_result, of_merged, merged_at, target_zero}
use Rattle.av_clock.proofs.Readings.{name_at, one_place}
use Rattle.av_clock.proofs.Resolved.{target_declared}
use Rattle.av_clock.proofs.Touched.{each_kept, same_read}
use Rattle.av_clock.proofs.Views.{port_at, input_at, set_port, set_others}

-- ---- the engine

-- it has a word for each name
pub words_size : (m : Module) (sources : List ℕ) (e : Seen) → IsEngine m sources e → length e.words ≡ length (all_names m)
words_size m sources e is = subst (λ (n : Module). length e.words ≡ length (all_names n)) is.of is.whole.size

-- and a mark for each drive
pub marks_size : (m : Module) (sources : List ℕ) (e : Seen) → IsEngine m sources e → length e.marked ≡ length m.drives
marks_size m sources e is = subst (λ (n : Module). length e.marked ≡ length n.drives) is.of is.whole.marks ∙ length-map m.drives (merged_drive m sources)

-- after a call
pub engine_call : (m : Module) (sources : List ℕ) (e e' : Seen) → IsEngine m sources e → e'.of ≡ e.of → IsWhole e' → IsEngine m sources e'
engine_call m sources e e' is same whole = record { of = same ∙ is.of; whole = whole }

-- ---- words

-- a drive holds of what is seen where each merged drive does that gives its word
pub source_holds : (m : Module) (sources words : List ℕ) (k : ℕ) (d : Drive) → IsSound m → AreMerged m sources → length words ≡ length (all_names m) → k < length m.drives
    → ((j : ℕ) (e : Drive) → j < length m.drives → (get_or m.drives j e).target ≡ source_of m sources (get_or m.drives k d).target → Holds (width_of m) (named m words) (merged_drive m sources (get_or m.drives j e)))
    → Holds (width_of m) (named m (resolved sources words)) (get_or m.drives k d)
source_holds m sources words k d sound are long lt each =
    let drive = get_or m.drives k d in
    let at : drive ≡ get_or m.drives k drive = get_or_default m.drives k d drive lt in
    source_word m sources words drive.target sound are long (target_declared m k drive sound lt at)
    ∙ are.drives k d lt words long each
    ∙ sym (sourced_result m sources words drive.operation sound are long (sound.drives_read k d lt))

-- so what is seen is settled where the merged module is
pub seen_settled : (m : Module) (sources : List ℕ) (e : Seen) → IsSound m → AreMerged m sources → IsEngine m sources e → Settled e.of (carried e) → Settled m (named m (resolved sources e.words))
seen_settled m sources e sound are is settled k d lt =
    let settled' : Settled (merged m sources) (named m e.words) = subst (λ (n : Module). Settled n (named n e.words)) is.of settled in
    source_holds m sources e.words k d sound are (words_size m sources e is) lt (λ j f below same.
    subst (Holds (width_of m) (named m e.words)) (merged_at m sources j f f below) (settled' j f (subst (λ n. j < n) (sym (length-map m.drives (merged_drive m sources))) below)))

-- a given name has its own word
given_word : (m : Module) (sources words : List ℕ) (name : List ℕ) → IsSound m → AreMerged m sources → length words ≡ length (all_names m) → Contains (given_names m) name → named m (resolved sources words) name ≡ named m words name
given_word m sources words name sound are long given =
    source_word m sources words name sound are long (Contains-append_left (given_names m) (wire_names m) name given) ∙ ap (named m words) (are.given name given)

agree_given : (m : Module) (sources : List ℕ) (e e' : Seen) (names : List (List ℕ)) → IsSound m → AreMerged m sources → IsEngine m sources e → IsEngine m sources e' → ((name : List ℕ) → Contains names name → Contains (given_names m) name)
    → Agree names (named m e.words) (named m e'.words) → Agree names (named m (resolved sources e.words)) (named m (resolved sources e'.words))
agree_given m sources e e' names sound are is is' given agree = agree_by names (named m (resolved sources e.words)) (named m (resolved sources e'.words)) (λ name at.
    given_word m sources e.words name sound are (words_size m sources e is) (given name at)
    ∙ agree_at names (named m e.words) (named m e'.words) name agree at
    ∙ sym (given_word m sources e'.words name sound are (words_size m sources e' is') (given name at)))

-- input ports and registers agree where they do in the engine
pub seen_given : (s : Seen) (m : Module) (sources : List ℕ) (e e' : Seen) → seen_of m sources e ≡ s → IsSound m → AreMerged m sources → IsEngine m sources e → IsEngine m sources e'
    → Agree (given_names e'.of) (carried e) (carried e') → Agree (given_names m) (carried s) (named m (resolved sources e'.words))
seen_given s m sources e e' view sound are is is' agree =
    let agree' : Agree (given_names m) (named m e.words) (named m e'.words) =
    subst (λ (n : Module). Agree (given_names m) (named n e.words) (named m e'.words)) is.of (subst (λ (n : Module). Agree (given_names n) (carried e) (named n e'.words)) is'.of agree) in
    subst (λ (t : Seen). Agree (given_names m) (carried t) (named m (resolved sources e'.words))) view (agree_given m sources e e' (given_names m) sound are is is' (λ name at. at) agree')

-- and so do input ports alone
pub seen_ports : (s : Seen) (m : Module) (sources : List ℕ) (e e' : Seen) → seen_of m sources e ≡ s → IsSound m → AreMerged m sources → IsEngine m sources e → IsEngine m sources e'
    → Agree (names_of e'.of.inputs) (carried e) (carried e') → Agree (names_of m.inputs) (carried s) (named m (resolved sources e'.words))
seen_ports s m sources e e' view sound are is is' agree =
    let agree' : Agree (names_of m.inputs) (named m e.words) (named m e'.words) =
    subst (λ (n : Module). Agree (names_of m.inputs) (named n e.words) (named m e'.words)) is.of (subst (λ (n : Module). Agree (names_of n.inputs) (carried e) (named n e'.words)) is'.of agree) in
    subst (λ (t : Seen). Agree (names_of m.inputs) (carried t) (named m (resolved sources e'.words))) view
    (agree_given m sources e e' (names_of m.inputs) sound are is is' (Contains-append_left (names_of m.inputs) (names_of m.registers)) agree')

-- an edge of the engine is one of what is seen
pub seen_edge : (s : Seen) (m : Module) (sources : List ℕ) (e e' : Seen) (reset : Bool) → seen_of m sources e ≡ s → IsSound m → AreMerged m sources → IsEngine m sources e → IsEngine m sources e'
    → Edge e'.of reset (carried e) (carried e') → Edge m reset (carried s) (named m (resolved sources e'.words))
seen_edge s m sources e e' reset view sound are is is' edge =
    let edge' : Edge (merged m sources) reset (named m e.words) (named m e'.words) =
    subst (λ (n : Module). Edge (merged m sources) reset (named n e.words) (named m e'.words)) is.of (subst (λ (n : Module). Edge n reset (carried e) (named n e'.words)) is'.of edge) in
    subst (λ (t : Seen). Edge m reset (carried t) (named m (resolved sources e'.words))) view (λ k d lt.
    let step = get_or m.steps k d in
    let here : get_or (merged m sources).steps k d ≡ merged_step m sources step = get_or-map (merged_step m sources) m.steps k d d lt in
    let taken : named m e'.words step.register ≡ (if reset then step.reset else word_of (named m e.words) (sourced m sources step.next)) =
    subst (λ (x : Step). named m e'.words x.register ≡ (if reset then x.reset else word_of (named m e.words) x.next)) here (edge' k d (subst (λ n. k < n) (sym (length-map m.steps (merged_step m sources))) lt)) in
    given_word m sources e'.words step.register sound are (words_size m sources e' is') (register_given m k d sound lt)
    ∙ taken
    ∙ ap (λ w. if reset then step.reset else w) (sym (sourced_word m sources e.words step.next sound are (words_size m sources e is) (sound.steps_read k d lt))))

-- a word that is set at a port
own_place : (m : Module) (sources : List ℕ) (place : ℕ) (name : List ℕ) → IsSound m → AreMerged m sources → slice_get (all_names m) place ≡ Some name → source_of m sources name ≡ name → get_or sources place 0 ≡ place
own_place m sources place name sound are at own =
    let distinct = names_distinct m sound in
    let found = source_found m sources place name distinct are.size at (are.within place (slice_get_within (all_names m) place name at)) in
    one_place (all_names m) (get_or sources place 0) place name distinct (found ∙ ap Some own) at

pub set_resolved : (m : Module) (sources words : List ℕ) (k value : ℕ) → IsSound m → AreMerged m sources → length words ≡ length (all_names m) → k < length m.inputs → resolved sources (set words k value) ≡ set (resolved sources words) k value
set_resolved m sources words k value sound are long lt = elim (slice_get_cases m.inputs k).1 [
  | inl (port, within, found, here) ↦
      let at : slice_get (all_names m) k ≡ Some port.name = port_at m k port found in
      let input : Contains (names_of m.inputs) port.name = contains_at (names_of m.inputs) k port.name (input_at m k port found) in
      let own : get_or sources k 0 ≡ k = own_place m sources k port.name sound are at (are.given port.name (Contains-append_left (names_of m.inputs) (names_of m.registers) port.name input)) in
      let inside : k < length (all_names m) = slice_get_within (all_names m) k port.name at in
      let size : length (resolved sources (set words k value)) ≡ length sources = resolved_size sources (set words k value) in
      let size' : length (resolved sources words) ≡ length sources = resolved_size sources words in
      ext_get_or 0 (resolved sources (set words k value)) (set (resolved sources words) k value) (size ∙ sym size' ∙ sym (length-set (resolved sources words) k value)) (λ i below.
      let below' : i < length sources = subst (λ n. i < n) size below in
      resolved_at sources (set words k value) i below' ∙ elim (cases_eq i k) [
        | inl e ↦
            let there : get_or sources i 0 ≡ k = ap (λ j. get_or sources j 0) e ∙ own in
            ap (λ j. get_or (set words k value) j 0) there
            ∙ get_or-set_same words k value 0 (rw long inside)
            ∙ sym (ap (λ j. get_or (set (resolved sources words) k value) j 0) e ∙ get_or-set_same (resolved sources words) k value 0 (rw (size', are.size) inside))
        | inr ne ↦
            let (name, named') = name_at (all_names m) i (rw (sym are.size) below') in
            let other : get_or sources i 0 ≢ k = λ e.
            let source : source_of m sources name ≡ port.name =
            source_at m sources i name (names_distinct m sound) are.size named' ∙ ap (λ j. get_or (all_names m) j name) e ∙ get_or_from_slice_get (all_names m) k port.name name at in
            let same : source_of m sources name ≡ name = are.ports name (contains_at (all_names m) i name named') (subst (Contains (names_of m.inputs)) (sym source) input) in
            ne (sym (own_place m sources i name sound are named' same) ∙ e) in
            get_or-set_other words k (get_or sources i 0) value 0 other
            ∙ sym (get_or-set_other (resolved sources words) k i value 0 ne ∙ resolved_at sources words i below')
      ])
  | inr (past, none) ↦ absurd (omega arith)
]

-- what is seen after a word was set
pub seen_set : (s : Seen) (m : Module) (sources : List ℕ) (e e' : Seen) (ms : List Bool) (k value : ℕ) → seen_of m sources e ≡ s → IsSound m → AreMerged m sources → IsEngine m sources e → k < length s.of.inputs
    → e' ≡ record e { words = set e.words k value; settled = false; marked = e'.marked }
    → record (seen_of m sources e') { marked = ms } ≡ record s { words = set s.words k value; settled = false; marked = ms }
seen_set s m sources e e' ms k value view sound are is lt set' =
    let lt' : k < length m.inputs = subst (λ (t : Seen). k < length t.of.inputs) (sym view) lt in
    let words : resolved sources e'.words ≡ set (resolved sources e.words) k value = ap (λ (x : Seen). resolved sources x.words) set' ∙ set_resolved m sources e.words k value sound are (words_size m sources e is) lt' in
    let F : List ℕ → Bool → ℕ → Seen = λ ws b w. record { of = m; words = ws; settled = b; work = w; marked = ms } in
    let settled : e'.settled ≡ false = ap (λ (x : Seen). x.settled) set' in
    let work : e'.work ≡ e.work = ap (λ (x : Seen). x.work) set' in
    let flat : record (seen_of m sources e') { marked = ms } ≡ F (set (resolved sources e.words) k value) false e.work =
    ap (λ ws. F ws e'.settled e'.work) words ∙ ap (λ b. F (set (resolved sources e.words) k value) b e'.work) settled ∙ ap (F (set (resolved sources e.words) k value) false) work in
    flat ∙ ap (λ (t : Seen). record t { words = set t.words k value; settled = false; marked = ms }) view

-- a port is one of the engine
pub set_inputs : (s : Seen) (m : Module) (sources : List ℕ) (e : Seen) (k : ℕ) → seen_of m sources e ≡ s → IsEngine m sources e → k < length s.of.inputs → k < length e.of.inputs
set_inputs s m sources e k view is lt = subst (λ (n : Module). k < length n.inputs) (sym is.of) (subst (λ (t : Seen). k < length t.of.inputs) (sym view) lt)

pub set_value : (s : Seen) (m : Module) (sources : List ℕ) (e : Seen) (k value : ℕ) → seen_of m sources e ≡ s → IsEngine m sources e → ForSome (slice_get s.of.inputs k) (λ port. IsWord port.width.bits value) → ForSome (slice_get e.of.inputs k) (λ port. IsWord port.width.bits value)
set_value s m sources e k value view is fits =
    subst (λ (n : Module). ForSome (slice_get n.inputs k) (λ port. IsWord port.width.bits value)) (sym is.of) (subst (λ (t : Seen). ForSome (slice_get t.of.inputs k) (λ port. IsWord port.width.bits value)) (sym view) fits)

-- the words after it
set_words : (s : Seen) (m : Module) (sources : List ℕ) (e e' : Seen) (k value : ℕ) → seen_of m sources e ≡ s → IsSound m → AreMerged m sources → IsEngine m sources e → k < length s.of.inputs
    → e' ≡ record e { words = set e.words k value; settled = false; marked = e'.marked } → resolved sources e'.words ≡ set (resolved sources e.words) k value
set_words s m sources e e' k value view sound are is lt set' =
    ap (λ (x : Seen). resolved sources x.words) set' ∙ set_resolved m sources e.words k value sound are (words_size m sources e is) (subst (λ (t : Seen). k < length t.of.inputs) (sym view) lt)

pub seen_set_port : (s : Seen) (m : Module) (sources : List ℕ) (e e' : Seen) (k value : ℕ) → seen_of m sources e ≡ s → IsSound m → AreMerged m sources → IsEngine m sources e → k < length s.of.inputs
    → e' ≡ record e { words = set e.words k value; settled = false; marked = e'.marked } → IfSome (slice_get s.of.inputs k) (λ port. named m (resolved sources e'.words) port.name ≡ value)
seen_set_port s m sources e e' k value view sound are is lt set' =
    subst (λ ws. IfSome (slice_get s.of.inputs k) (λ port. named m ws port.name ≡ value)) (sym (set_words s m sources e e' k value view sound are is lt set'))
    (set_port s m (resolved sources e.words) e.settled e.work k value view sound (resolved_size sources e.words ∙ are.size))

pub seen_set_others : (s : Seen) (m : Module) (sources : List ℕ) (e e' : Seen) (k value : ℕ) → seen_of m sources e ≡ s → IsSound m → AreMerged m sources → IsEngine m sources e → k < length s.of.inputs
    → e' ≡ record e { words = set e.words k value; settled = false; marked = e'.marked }
    → IfSome (slice_get s.of.inputs k) (λ port. (name : List ℕ) → name ≢ port.name → named m (resolved sources e'.words) name ≡ carried s name)
seen_set_others s m sources e e' k value view sound are is lt set' =
    subst (λ ws. IfSome (slice_get s.of.inputs k) (λ port. (name : List ℕ) → name ≢ port.name → named m ws name ≡ carried s name)) (sym (set_words s m sources e e' k value view sound are is lt set'))
    (set_others s m (resolved sources e.words) e.settled e.work k value view sound (resolved_size sources e.words ∙ are.size))

-- ---- marks

-- a mark that is clear is so in the engine
pub mark_clear : (m : Module) (sources : List ℕ) (all : List Bool) (drives : List Drive) (marks : List Bool) (k : ℕ) → IsClear (marks_of m sources all drives marks) k → IsClear marks k
mark_clear m sources all [] marks k clear = absurd (never clear)
mark_clear m sources all (drive ∷ drives) [] k clear = absurd (never clear)
mark_clear m sources all (drive ∷ drives) (mark ∷ marks) zero clear = first mark (mark_of m.drives all (source_of m sources drive.target)) clear
  where
    first : (a b : Bool) → (a || b) ≡ false → a ≡ false
    first true b e = absurd (never e)
    first false b e = refl
mark_clear m sources all (drive ∷ drives) (mark ∷ marks) (suc k) clear = mark_clear m sources all drives marks k clear

-- and the mark of the drive that gives its target's word
source_clear : (m : Module) (sources : List ℕ) (all : List Bool) (drives : List Drive) (marks : List Bool) (k : ℕ) (d : Drive) → IsClear (marks_of m sources all drives marks) k
    → mark_of m.drives all (source_of m sources (get_or drives k d).target) ≡ false
source_clear m sources all [] marks k d clear = absurd (never clear)
source_clear m sources all (drive ∷ drives) [] k d clear = absurd (never clear)
source_clear m sources all (drive ∷ drives) (mark ∷ marks) zero d clear = second mark (mark_of m.drives all (source_of m sources drive.target)) clear
  where
    second : (a b : Bool) → (a || b) ≡ false → b ≡ false
    second true b e = absurd (never e)
    second false b e = e
source_clear m sources all (drive ∷ drives) (mark ∷ marks) (suc k) d clear = source_clear m sources all drives marks k d clear

-- the mark of the drive of a name is the one at its place
mark_at : (drives : List Drive) (marks : List Bool) (name : List ℕ) (j : ℕ) (d : Drive) → AreDistinct (targets_of drives) → length marks ≡ length drives → j < length drives → (get_or drives j d).target ≡ name → mark_of drives marks name ≡ false → IsClear marks j
mark_at [] marks name j d distinct same lt is clear = absurd (omega arith)
mark_at (drive ∷ drives) [] name j d distinct same lt is clear = absurd (omega arith)
mark_at (drive ∷ drives) (mark ∷ marks) name zero d distinct same lt is clear =
    let e : bytes_eq drive.target name ≡ true = (bytes_eq-Decides drive.target name).1 is in
    sym (ap (λ (test : Bool). if test then mark else mark_of drives marks name) e) ∙ clear
mark_at (drive ∷ drives) (mark ∷ marks) name (suc j) d distinct same lt is clear =
    let target = (get_or drives j d).target in
    let count : length (targets_of drives) ≡ length drives = length-map drives (λ (x : Drive). x.target) in
    let there : get_or (targets_of drives) j target ≡ target = get_or-map (λ (x : Drive). x.target) drives j d target (omega arith) in
    let differs : drive.target ≢ name = λ e. apart (drive.target ∷ []) (targets_of drives) target distinct (0, omega arith, e ∙ sym is) (j, omega arith, there) in
    let e : bytes_eq drive.target name ≡ false = not_equal drive.target name differs in
    mark_at drives marks name j d (rest_distinct (drive.target ∷ []) (targets_of drives) distinct) (omega arith) (omega arith) is
    (sym (ap (λ (test : Bool). if test then mark else mark_of drives marks name) e) ∙ clear)

-- each drive that is not marked holds, of what is seen
pub seen_unmarked : (s : Seen) (m : Module) (sources : List ℕ) (e : Seen) → seen_of m sources e ≡ s → IsSound m → AreMerged m sources → IsEngine m sources e
    → ((k : ℕ) (d : Drive) → k < length e.of.drives → IsClear e.marked k → Holds (width_of e.of) (carried e) (get_or e.of.drives k d))
    → (k : ℕ) (d : Drive) → k < length s.of.drives → IsClear s.marked k → Holds (width_of s.of) (carried s) (get_or s.of.drives k d)
seen_unmarked s m sources e view sound are is law =
    let law' : (k : ℕ) (d : Drive) → k < length (merged m sources).drives → IsClear e.marked k → Holds (width_of m) (named m e.words) (get_or (merged m sources).drives k d) =
    subst (λ (n : Module). (k : ℕ) (d : Drive) → k < length n.drives → IsClear e.marked k → Holds (width_of n) (named n e.words) (get_or n.drives k d)) is.of law in
    let distinct : AreDistinct (targets_of m.drives) = front_distinct (targets_of m.drives) (registers_of m.steps) sound.driven_once in
    subst (λ (t : Seen). (k : ℕ) (d : Drive) → k < length t.of.drives → IsClear t.marked k → Holds (width_of t.of) (carried t) (get_or t.of.drives k d)) view (λ k d lt clear.
    source_holds m sources e.words k d sound are (words_size m sources e is) lt (λ j f below same.
    let clear' : IsClear e.marked j =
    mark_at m.drives e.marked (source_of m sources (get_or m.drives k d).target) j f distinct (marks_size m sources e is) below same (source_clear m sources e.marked m.drives e.marked k d clear) in
    subst (Holds (width_of m) (named m e.words)) (merged_at m sources j f f below) (law' j f (subst (λ n. j < n) (sym (length-map m.drives (merged_drive m sources))) below) clear')))

-- where all are marked
pub all_marks : (m : Module) (sources : List ℕ) (all : List Bool) (drives : List Drive) → marks_of m sources all drives (replicate (length drives) true) ≡ replicate (length drives) true
all_marks m sources all [] = refl
all_marks m sources all (drive ∷ drives) = ap (λ (marks : List Bool). true ∷ marks) (all_marks m sources all drives)

-- ---- what is touched

-- operands whose words at their sources are the same
kept_at_source : (m : Module) (sources words words' : List ℕ) (a : Operand) → IsSound m → AreMerged m sources → length words ≡ length (all_names m) → length words' ≡ length (all_names m) → IsAmong (all_names m) a
    → KeepsWord (named m (resolved sources words)) (named m (resolved sources words')) a → KeepsWord (named m words) (named m words') (sourced m sources a)
kept_at_source m sources words words' a sound are long long' among kept = sym (sourced_word m sources words a sound are long among) ∙ kept ∙ sourced_word m sources words' a sound are long' among

kept_at_sources : (m : Module) (sources words words' : List ℕ) (operation : Operation) → IsSound m → AreMerged m sources → length words ≡ length (all_names m) → length words' ≡ length (all_names m) → EachOperand (IsAmong (all_names m)) operation
    → EachOperand (KeepsWord (named m (resolved sources words)) (named m (resolved sources words'))) operation → EachOperand (KeepsWord (named m words) (named m words')) (sourced_operation m sources operation)
kept_at_sources m sources words words' (Plain a) sound are long long' among kept = kept_at_source m sources words words' a sound are long long' among kept
kept_at_sources m sources words words' (Binary a symbol b) sound are long long' among kept =
    (kept_at_source m sources words words' a sound are long long' among.0 kept.0, kept_at_source m sources words words' b sound are long long' among.1 kept.1)
kept_at_sources m sources words words' (Signed a symbol b) sound are long long' among kept =
    (kept_at_source m sources words words' a sound are long long' among.0 kept.0, kept_at_source m sources words words' b sound are long long' among.1 kept.1)
kept_at_sources m sources words words' (Choose c a b) sound are long long' among kept = (
  kept_at_source m sources words words' c sound are long long' among.0 kept.0,
  kept_at_source m sources words words' a sound are long long' among.1 kept.1,
  kept_at_source m sources words words' b sound are long long' among.2 kept.2,
)
kept_at_sources m sources words words' (Part name high low) sound are long long' among kept = kept_at_source m sources words words' (Name name) sound are long long' among kept
kept_at_sources m sources words words' (Widen name by) sound are long long' among kept = kept_at_source m sources words words' (Name name) sound are long long' among kept

-- a merged drive reads the same where its drive does
merged_same : (m : Module) (sources words words' : List ℕ) (k : ℕ) (drive : Drive) → IsSound m → AreMerged m sources → length words ≡ length (all_names m) → length words' ≡ length (all_names m) → k < length m.drives → drive ≡ get_or m.drives k drive
    → reads_same (named m (resolved sources words)) (named m (resolved sources words')) drive.operation ≡ true → reads_same (named m words) (named m words') (merged_drive m sources drive).operation ≡ true
merged_same m sources words words' k drive sound are long long' lt at same =
    let (w, gives, wide) = target_zero m k drive sound lt at in
    of_merged m sources drive (λ operation. reads_same (named m words) (named m words') operation ≡ true)
    (λ own. same_read (named m words) (named m words') (sourced_operation m sources drive.operation)
    (kept_at_sources m sources words words' drive.operation sound are long long' (subst (λ (x : Drive). EachOperand (IsAmong (all_names m)) x.operation) (sym at) (sound.drives_read k drive lt))
    (each_kept (named m (resolved sources words)) (named m (resolved sources words')) drive.operation same)))
    (λ other. subst (λ operand. has_kept (named m words) (named m words') operand ≡ true) (sym gives) (eq-eqb 0 0 refl))

one_larger : (mark other a b : Bool) → (b ≡ true → a ≡ true) → (if mark || not a then 1 else 0) ≤ (if (mark || other) || not b then 1 else 0)
one_larger true other a b h = omega arith
one_larger false true true b h = omega arith
one_larger false true false b h = omega arith
one_larger false false true b h = omega arith
one_larger false false false true h = absurd (never (sym (h refl)))
one_larger false false false false h = omega arith

-- of some drives no more are touched in the engine
touched_from : (m : Module) (sources words words' : List ℕ) (all : List Bool) (drives : List Drive) (marks : List Bool)
    → ((k : ℕ) (drive : Drive) → k < length drives → drive ≡ get_or drives k drive
    → reads_same (named m (resolved sources words)) (named m (resolved sources words')) drive.operation ≡ true → reads_same (named m words) (named m words') (merged_drive m sources drive).operation ≡ true)
    → touched (named m words) (named m words') (map (merged_drive m sources) drives) marks ≤ touched (named m (resolved sources words)) (named m (resolved sources words')) drives (marks_of m sources all drives marks)
touched_from m sources words words' all [] marks same = omega arith
touched_from m sources words words' all (drive ∷ drives) [] same = omega arith
touched_from m sources words words' all (drive ∷ drives) (mark ∷ marks) same =
    let rest = touched_from m sources words words' all drives marks (λ k other lt at. same (suc k) other (omega arith) at) in
    let here = one_larger mark (mark_of m.drives all (source_of m sources drive.target)) (reads_same (named m words) (named m words') (merged_drive m sources drive).operation)
    (reads_same (named m (resolved sources words)) (named m (resolved sources words')) drive.operation) (same 0 drive (omega arith) refl) in
    omega (arith, rest, here)

-- what a settle computes is touched, of what is seen
pub seen_touched : (s : Seen) (m : Module) (sources : List ℕ) (e e' : Seen) → seen_of m sources e ≡ s → IsSound m → AreMerged m sources → IsEngine m sources e → IsEngine m sources e'
    → e'.work ≤ e.work + touched (carried e) (carried e') e.of.drives e.marked → e'.work ≤ s.work + touched (carried s) (named m (resolved sources e'.words)) s.of.drives s.marked
seen_touched s m sources e e' view sound are is is' few =
    let few' : e'.work ≤ e.work + touched (named m e.words) (named m e'.words) (merged m sources).drives e.marked =
    subst (λ (n : Module). e'.work ≤ e.work + touched (named n e.words) (named m e'.words) n.drives e.marked) is.of
    (subst (λ (n : Module). e'.work ≤ e.work + touched (carried e) (named n e'.words) e.of.drives e.marked) is'.of few) in
    let more : touched (named m e.words) (named m e'.words) (merged m sources).drives e.marked ≤ touched (named m (resolved sources e.words)) (named m (resolved sources e'.words)) m.drives (marks_of m sources e.marked m.drives e.marked) =
    touched_from m sources e.words e'.words e.marked m.drives e.marked
    (λ k drive lt at. merged_same m sources e.words e'.words k drive sound are (words_size m sources e is) (words_size m sources e' is') lt at) in
    subst (λ (t : Seen). e'.work ≤ t.work + touched (carried t) (named m (resolved sources e'.words)) t.of.drives t.marked) view (omega (arith, few', more))

-- and no fewer drives are left where the first are clear
pub seen_alone : (s : Seen) (m : Module) (sources : List ℕ) (e : Seen) (work : ℕ) → seen_of m sources e ≡ s → IsEngine m sources e
    → ((k : ℕ) → k ≤ length e.of.drives → ((j : ℕ) → j < k → IsClear e.marked j) → work + k ≤ e.work + length e.of.drives)
    → (k : ℕ) → k ≤ length s.of.drives → ((j : ℕ) → j < k → IsClear s.marked j) → work + k ≤ s.work + length s.of.drives
seen_alone s m sources e work view is law =
    let count : length e.of.drives ≡ length m.drives = ap (λ (n : Module). length n.drives) is.of ∙ length-map m.drives (merged_drive m sources) in
    let law' : (k : ℕ) → k ≤ length m.drives → ((j : ℕ) → j < k → IsClear e.marked j) → work + k ≤ e.work + length m.drives =
    subst (λ n. (k : ℕ) → k ≤ n → ((j : ℕ) → j < k → IsClear e.marked j) → work + k ≤ e.work + n) count law in
    subst (λ (t : Seen). (k : ℕ) → k ≤ length t.of.drives → ((j : ℕ) → j < k → IsClear t.marked j) → work + k ≤ t.work + length t.of.drives) view
    (λ k few clear. law' k few (λ j lt. mark_clear m sources e.marked m.drives e.marked j (clear j lt)))

-- as many as there are drives
pub seen_most : (s : Seen) (m : Module) (sources : List ℕ) (e e' : Seen) → seen_of m sources e ≡ s → IsEngine m sources e → IsEngine m sources e' → e'.work ≤ e.work + length e'.of.drives → e'.work ≤ s.work + length m.drives
seen_most s m sources e e' view is is' most =
    let count : length e'.of.drives ≡ length m.drives = ap (λ (n : Module). length n.drives) is'.of ∙ length-map m.drives (merged_drive m sources) in
    let work : e.work ≡ s.work = ap (λ (t : Seen). t.work) view in
    omega (arith, most, count, work)

pub seen_first : (s : Seen) (m : Module) (sources : List ℕ) (e e' : Seen) → seen_of m sources e ≡ s → IsEngine m sources e' → (e.work ≡ 0 → e'.work ≡ length e'.of.drives) → s.work ≡ 0 → e'.work ≡ length m.drives
seen_first s m sources e e' view is' first none =
    first (ap (λ (t : Seen). t.work) view ∙ none) ∙ ap (λ (n : Module). length n.drives) is'.of ∙ length-map m.drives (merged_drive m sources)

pub seen_work : (s : Seen) (m : Module) (sources : List ℕ) (e e' : Seen) → seen_of m sources e ≡ s → e.work ≤ e'.work → s.work ≤ e'.work
seen_work s m sources e e' view le = subst (λ (t : Seen). t.work ≤ e'.work) view le

-- ---- a word that is read

-- the place of a drive's target, and of its word
pub target_at : (s : Seen) (m : Module) (sources : List ℕ) (e : Seen) (wire place : ℕ) → seen_of m sources e ≡ s → IsEngine m sources e → wire < length s.of.drives
    → ((d : Drive) → slice_get (all_names e.of) place ≡ Some (get_or e.of.drives wire d).target) → (d : Drive) → slice_get (all_names m) place ≡ Some (get_or m.drives wire d).target
target_at s m sources e wire place view is lt found d =
    let lt' : wire < length m.drives = subst (λ (t : Seen). wire < length t.of.drives) (sym view) lt in
    subst (λ (n : Module). slice_get (all_names n) place ≡ Some (get_or n.drives wire d).target) is.of (found d) ∙ ap (λ (x : Drive). Some x.target) (merged_at m sources wire d d lt')

pub wire_lt : (s : Seen) (m : Module) (sources : List ℕ) (e : Seen) (wire : ℕ) → seen_of m sources e ≡ s → IsEngine m sources e → wire < length s.of.drives → wire < length e.of.drives
wire_lt s m sources e wire view is lt =
    let lt' : wire < length m.drives = subst (λ (t : Seen). wire < length t.of.drives) (sym view) lt in
    subst (λ (n : Module). wire < length n.drives) (sym is.of) (subst (λ n. wire < n) (sym (length-map m.drives (merged_drive m sources))) lt')

-- a target's place is there
target_in : (s : Seen) (m : Module) (sources : List ℕ) (e : Seen) (wire place : ℕ) → seen_of m sources e ≡ s → IsEngine m sources e → wire < length s.of.drives
    → ((d : Drive) → slice_get (all_names e.of) place ≡ Some (get_or e.of.drives wire d).target) → place < length (all_names m)
target_in s m sources e wire place view is lt found =
    let lt' : wire < length m.drives = subst (λ (t : Seen). wire < length t.of.drives) (sym view) lt in
    elim (slice_get_cases m.drives wire).1 [
      | inl (drive, within, there, here) ↦ slice_get_within (all_names m) place (get_or m.drives wire drive).target (target_at s m sources e wire place view is lt found drive)
      | inr (past, none) ↦ absurd (omega arith)
    ]

pub source_in : (s : Seen) (m : Module) (v : Vec ℕ Global) (e : Seen) (wire place : ℕ) → seen_of m v.items e ≡ s → AreMerged m v.items → IsEngine m v.items e → wire < length s.of.drives
    → ((d : Drive) → slice_get (all_names e.of) place ≡ Some (get_or e.of.drives wire d).target) → place < v.len
source_in s m v e wire place view are is lt found =
    let inside = target_in s m v.items e wire place view is lt found in
    let long : v.len ≡ length v.items = v.ok.0 in
    let size = are.size in
    omega arith

-- and its source's
pub place_in : (s : Seen) (m : Module) (sources : List ℕ) (e : Seen) (wire place source : ℕ) → seen_of m sources e ≡ s → AreMerged m sources → IsEngine m sources e → wire < length s.of.drives
    → ((d : Drive) → slice_get (all_names e.of) place ≡ Some (get_or e.of.drives wire d).target) → source ≡ get_or sources place source → source < length (all_names e.of)
place_in s m sources e wire place source view are is lt found read =
    let inside = target_in s m sources e wire place view is lt found in
    let source' : source ≡ get_or sources place 0 = read ∙ get_or_default sources place source 0 (rw are.size inside) in
    subst (λ (n : Module). source < length (all_names n)) (sym is.of) (subst (λ i. i < length (all_names m)) (sym source') (are.within place inside))

-- the word at the source of a name is the one that is seen
pub seen_word : (s : Seen) (m : Module) (sources : List ℕ) (e : Seen) (wire place source word : ℕ) → seen_of m sources e ≡ s → IsSound m → AreMerged m sources → IsEngine m sources e
    → ((d : Drive) → slice_get (all_names m) place ≡ Some (get_or m.drives wire d).target) → source ≡ get_or sources place source → word ≡ get_or e.words source 0 → (d : Drive) → word ≡ carried s (get_or s.of.drives wire d).target
seen_word s m sources e wire place source word view sound are is at read here d =
    let target = (get_or m.drives wire d).target in
    let inside : place < length sources = rw are.size (slice_get_within (all_names m) place target (at d)) in
    let source' : source ≡ get_or sources place 0 = read ∙ get_or_default sources place source 0 inside in
    subst (λ (t : Seen). word ≡ carried t (get_or t.of.drives wire d).target) view
    (here ∙ ap (λ i. get_or e.words i 0) source' ∙ sym (resolved_at sources e.words place inside) ∙ sym (look_at (all_names m) (resolved sources e.words) place target (names_distinct m sound) (resolved_size sources e.words ∙ are.size) (at d)))

-- and fits
pub seen_fits : (s : Seen) (m : Module) (sources : List ℕ) (e : Seen) (wire place source word : ℕ) → seen_of m sources e ≡ s → IsSound m → AreMerged m sources → IsEngine m sources e
    → ((d : Drive) → slice_get (all_names m) place ≡ Some (get_or m.drives wire d).target)
    → source ≡ get_or sources place source → ((name : List ℕ) → slice_get (all_names e.of) source ≡ Some name → IsWord (width_of e.of name) word) → (d : Drive) → IsWord (width_of s.of (get_or s.of.drives wire d).target) word
seen_fits s m sources e wire place source word view sound are is at read fits d =
    let target = (get_or m.drives wire d).target in
    let inside : place < length (all_names m) = slice_get_within (all_names m) place target (at d) in
    let source' : source ≡ get_or sources place 0 = read ∙ get_or_default sources place source 0 (rw are.size inside) in
    let fits' : (name : List ℕ) → slice_get (all_names m) (get_or sources place 0) ≡ Some name → IsWord (width_of m name) word =
    subst (λ i. (name : List ℕ) → slice_get (all_names m) i ≡ Some name → IsWord (width_of m name) word) source'
    (subst (λ (n : Module). (name : List ℕ) → slice_get (all_names n) source ≡ Some name → IsWord (width_of n name) word) is.of fits) in
    let found = source_found m sources place target (names_distinct m sound) are.size (at d) (are.within place inside) in
    subst (λ (t : Seen). IsWord (width_of t.of (get_or t.of.drives wire d).target) word) view
    (subst (λ w. IsWord w word) (are.widths target (contains_at (all_names m) place target (at d))) (fits' (source_of m sources target) found))

pub seen_flag : (s : Seen) (m : Module) (sources : List ℕ) (e : Seen) → seen_of m sources e ≡ s → IsSound m → AreMerged m sources → IsEngine m sources e → IsTrue s.settled → (IsTrue e.settled → Settled e.of (carried e)) → Settled s.of (carried s)
seen_flag s m sources e view sound are is flag settled =
    let flag' : IsTrue e.settled = ap (λ (t : Seen). t.settled) view ∙ flag in
    subst (λ (t : Seen). Settled t.of (carried t)) view (seen_settled m sources e sound are is (settled flag'))

-- ---- a new clock

pub zeros_resolved : (m : Module) (sources : List ℕ) → AreMerged m sources → resolved sources (replicate (length (all_names m)) 0) ≡ replicate (length (all_names m)) 0
zeros_resolved m sources are =
    let n = length (all_names m) in
    let size : length (resolved sources (replicate n 0)) ≡ n = resolved_size sources (replicate n 0) ∙ are.size in
    ext_get_or 0 (resolved sources (replicate n 0)) (replicate n 0) (size ∙ sym (length-replicate n 0)) (λ i below.
    let below' : i < n = subst (λ k. i < k) size below in
    resolved_at sources (replicate n 0) i (rw are.size below') ∙ get_or-replicate n (get_or sources i 0) 0 0 (are.within i below') ∙ sym (get_or-replicate n i 0 0 below'))

pub new_marks : (m : Module) (sources : List ℕ) (e : Seen) → e.marked ≡ replicate (length (merged m sources).drives) true → marks_of m sources e.marked m.drives e.marked ≡ replicate (length m.drives) true
new_marks m sources e is =
    let same : e.marked ≡ replicate (length m.drives) true = is ∙ ap (λ n. replicate n true) (length-map m.drives (merged_drive m sources)) in
    ap (λ (marks : List Bool). marks_of m sources e.marked m.drives marks) same ∙ all_marks m sources e.marked m.drives

pub new_words : (m : Module) (sources : List ℕ) (e : Seen) → AreMerged m sources → e.words ≡ replicate (length (all_names m)) 0 → resolved sources e.words ≡ replicate (length (all_names m)) 0
new_words m sources e are is = ap (resolved sources) is ∙ zeros_resolved m sources are
