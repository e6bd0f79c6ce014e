-- From the fields of an engine of lanes to what is seen of it.
use Rattle.std.proofs.Common.{◌≡◌, ◌≢◌, ℕ, ◌<◌, List, [], ◌++◌, length, length-append, get_or, set, replicate, slice_get, Option, Some, None, refl, sym, ◌∙◌, ap, subst, arith, inl, inr, Bool, true, false, Vec}
use Rattle.std.specs.Prelude.{All, Contains, IfSome, IsTrue}
use Rattle.std.specs.Option.{ForSome}
use Rattle.std.specs.declared.alloc.Global.{Global}
use Rattle.std.specs.Vec.{with_items}
use Rattle.std.proofs.lemmas.List.{with_items_is, get_or_default, length-map, length-replicate}
use Rattle.std.proofs.lemmas.List.Elements.{All-contains}
use Rattle.std.proofs.lemmas.Option.{slice_get_within, slice_get_cases}
use Rattle.av_base.specs.Words.{IsWord}
use Rattle.av_net.specs.declared.netlist.Port.{Port}
use Rattle.av_net.specs.declared.netlist.Drive.{Drive}
use Rattle.av_net.specs.declared.netlist.Module.{Module}
use Rattle.av_net.specs.Meaning.{Words}
use Rattle.av_net.specs.Names.{names_of, given_names, wire_names, all_names, registers_of, width_of}
use Rattle.av_net.specs.Settled.{Settled, Agree}
use Rattle.av_net.specs.Clocked.{Edge}
use Rattle.av_net.specs.Sound.{IsSound}
use Rattle.av_net.proofs.Settles.{with_word_same, with_word_other, names_distinct}
use Rattle.av_clock.specs.Kept.{AreZero}
use Rattle.av_clock.specs.Marked.{AreHeld}
use Rattle.av_clock.specs.Marking.{ReadTheSame}
use Rattle.av_clock.specs.Merged.{merged, merged_drive, AreMerged, resolved}
use Rattle.av_clock.specs.Named.{named, AllFit}
use Rattle.av_clock.specs.Seen as clock
use Rattle.av_clock.proofs.Computing.{zeros_zero, settled_zero, edge_zero}
use Rattle.av_clock.proofs.Lookup.{look_at, contains_at}
use Rattle.av_clock.proofs.MergedModules.{merged_at}
use Rattle.av_clock.proofs.SourcedWords.{seen_settled, seen_given, seen_ports, seen_edge, seen_word, seen_fits, set_resolved, zeros_resolved}
use Rattle.av_clock.proofs.Views.{zeros_fit, port_set, set_fits, set_held, set_zero}
use Rattle.av_lanes.specs.Seen.{Seen, lane, carried}
use Rattle.av_lanes.specs.inner.Engine.{at_sources, IsLane}
use Rattle.av_lanes.proofs.ByLane.{lane_size, lane_in, lane_replicate, lane_sources}

-- ---- the words after a call

pub items_after : (v : Vec (List ℕ) Global) (before new : List (List ℕ)) → length new ≡ length before → before ≡ v.items → (with_items v new).items ≡ new
items_after v before new same is = with_items_is v new (same ∙ ap length is ∙ sym v.ok.0)

-- there are as many
pub size_after : (v : Vec (List ℕ) Global) (before new : List (List ℕ)) → length new ≡ length before → before ≡ v.items → length (with_items v new).items ≡ length v.items
size_after v before new same is = ap length (items_after v before new same is) ∙ same ∙ ap length is

-- what a call says of the words that it was lent and of those that it leaves
pub after_call : (P : List (List ℕ) → List (List ℕ) → Type 0) (v : Vec (List ℕ) Global) (before new : List (List ℕ)) → length new ≡ length before → before ≡ v.items → P before new → P v.items (with_items v new).items
after_call P v before new same is h = subst (λ ws. P v.items ws) (sym (items_after v before new same is)) (subst (λ ws. P ws new) is h)

-- what holds before it of the words that it is lent
pub before_call : (P : List (List ℕ) → Type 0) (v : Vec (List ℕ) Global) (before : List (List ℕ)) → before ≡ v.items → P v.items → P before
before_call P v before is h = subst P (sym is) h

-- ---- one lane of the merged module, as a clock is seen

abbrev one : Module → List ℕ → List ℕ → clock.Seen
one m sources words = record { of = merged m sources; words = words; settled = false; work = 0; marked = replicate (length (merged m sources).drives) true }

long_merged : (m net : Module) (sources words : List ℕ) → net ≡ merged m sources → length words ≡ length (all_names net) → length words ≡ length (all_names (merged m sources))
long_merged m net sources words same long = subst (λ (n : Module). length words ≡ length (all_names n)) same long

pub lane_settled : (m net : Module) (sources : List ℕ) (ws : List (List ℕ)) (k : ℕ) → IsSound m → AreMerged m sources → net ≡ merged m sources → length (lane k ws) ≡ length (all_names net)
    → Settled net (named net (lane k ws)) → Settled m (named m (lane k (at_sources sources ws)))
lane_settled m net sources ws k sound are same long settled =
    let marks = length-replicate (length (merged m sources).drives) true in
    subst (λ words. Settled m (named m words)) (sym (lane_sources k sources ws))
    (seen_settled m sources (one m sources (lane k ws)) sound are (record { of = refl; whole = record { size = long_merged m net sources (lane k ws) same long; marks = marks } })
    (subst (λ (n : Module). Settled n (named n (lane k ws))) same settled))

-- what is seen of the lanes before, by the words of the engine
lane_before : (P : Words → Type 0) (s : Seen) (m : Module) (sources : List ℕ) (ws : List (List ℕ)) (b : Bool) (k : ℕ) → record { of = m; words = at_sources sources ws; settled = b } ≡ s → P (named m (resolved sources (lane k ws))) → P (carried k s)
lane_before P s m sources ws b k view h =
    subst (λ (t : Seen). P (carried k t)) view (subst (λ words. P (named m words)) (sym (lane_sources k sources ws)) h)

-- input ports and registers agree where they do in the engine
pub lane_given : (s : Seen) (m net : Module) (sources : List ℕ) (ws ws' : List (List ℕ)) (b : Bool) (k : ℕ) → record { of = m; words = at_sources sources ws; settled = b } ≡ s → IsSound m → AreMerged m sources → net ≡ merged m sources
    → length (lane k ws) ≡ length (all_names net) → length (lane k ws') ≡ length (all_names net)
    → Agree (given_names net) (named net (lane k ws)) (named net (lane k ws')) → Agree (given_names m) (carried k s) (named m (lane k (at_sources sources ws')))
lane_given s m net sources ws ws' b k view sound are same long long' agree =
    let marks = length-replicate (length (merged m sources).drives) true in
    let e = one m sources (lane k ws) in
    let e' = one m sources (lane k ws') in
    lane_before (λ v. Agree (given_names m) v (named m (lane k (at_sources sources ws')))) s m sources ws b k view
    (subst (λ words. Agree (given_names m) (named m (resolved sources (lane k ws))) (named m words)) (sym (lane_sources k sources ws'))
    (seen_given _ m sources e e' refl sound are (record { of = refl; whole = record { size = long_merged m net sources (lane k ws) same long; marks = marks } })
    (record { of = refl; whole = record { size = long_merged m net sources (lane k ws') same long'; marks = marks } })
    (subst (λ (n : Module). Agree (given_names n) (named n (lane k ws)) (named n (lane k ws'))) same agree)))

-- and so do input ports alone
pub lane_ports : (s : Seen) (m net : Module) (sources : List ℕ) (ws ws' : List (List ℕ)) (b : Bool) (k : ℕ) → record { of = m; words = at_sources sources ws; settled = b } ≡ s → IsSound m → AreMerged m sources → net ≡ merged m sources
    → length (lane k ws) ≡ length (all_names net) → length (lane k ws') ≡ length (all_names net)
    → Agree (names_of net.inputs) (named net (lane k ws)) (named net (lane k ws')) → Agree (names_of m.inputs) (carried k s) (named m (lane k (at_sources sources ws')))
lane_ports s m net sources ws ws' b k view sound are same long long' agree =
    let marks = length-replicate (length (merged m sources).drives) true in
    let e = one m sources (lane k ws) in
    let e' = one m sources (lane k ws') in
    lane_before (λ v. Agree (names_of m.inputs) v (named m (lane k (at_sources sources ws')))) s m sources ws b k view
    (subst (λ words. Agree (names_of m.inputs) (named m (resolved sources (lane k ws))) (named m words)) (sym (lane_sources k sources ws'))
    (seen_ports _ m sources e e' refl sound are (record { of = refl; whole = record { size = long_merged m net sources (lane k ws) same long; marks = marks } })
    (record { of = refl; whole = record { size = long_merged m net sources (lane k ws') same long'; marks = marks } })
    (subst (λ (n : Module). Agree (names_of n.inputs) (named n (lane k ws)) (named n (lane k ws'))) same agree)))

-- an edge of the engine is one of the lane
pub lane_edge : (s : Seen) (m net : Module) (sources : List ℕ) (ws ws' : List (List ℕ)) (reset b : Bool) (k : ℕ) → record { of = m; words = at_sources sources ws; settled = b } ≡ s → IsSound m → AreMerged m sources → net ≡ merged m sources
    → length (lane k ws) ≡ length (all_names net) → length (lane k ws') ≡ length (all_names net)
    → Edge net reset (named net (lane k ws)) (named net (lane k ws')) → Edge m reset (carried k s) (named m (lane k (at_sources sources ws')))
lane_edge s m net sources ws ws' reset b k view sound are same long long' edge =
    let marks = length-replicate (length (merged m sources).drives) true in
    let e = one m sources (lane k ws) in
    let e' = one m sources (lane k ws') in
    lane_before (λ v. Edge m reset v (named m (lane k (at_sources sources ws')))) s m sources ws b k view
    (subst (λ words. Edge m reset (named m (resolved sources (lane k ws))) (named m words)) (sym (lane_sources k sources ws'))
    (seen_edge _ m sources e e' reset refl sound are (record { of = refl; whole = record { size = long_merged m net sources (lane k ws) same long; marks = marks } })
    (record { of = refl; whole = record { size = long_merged m net sources (lane k ws') same long'; marks = marks } })
    (subst (λ (n : Module). Edge n reset (named n (lane k ws)) (named n (lane k ws'))) same edge)))

-- ---- a word that is set at a port

pub lane_set_words : (s : Seen) (m net : Module) (sources : List ℕ) (ws ws' : List (List ℕ)) (b : Bool) (k port value : ℕ) → record { of = m; words = at_sources sources ws; settled = b } ≡ s → IsSound m → AreMerged m sources → net ≡ merged m sources
    → length (lane k ws) ≡ length (all_names net) → port < length s.of.inputs → lane k ws' ≡ set (lane k ws) port value → lane k (at_sources sources ws') ≡ set (lane k s.words) port value
lane_set_words s m net sources ws ws' b k port value view sound are same long lt wrote =
    let lt' : port < length m.inputs = subst (λ (t : Seen). port < length t.of.inputs) (sym view) lt in
    subst (λ (t : Seen). lane k (at_sources sources ws') ≡ set (lane k t.words) port value) view
    (lane_sources k sources ws' ∙ ap (resolved sources) wrote ∙ set_resolved m sources (lane k ws) port value sound are (long_merged m net sources (lane k ws) same long) lt'
    ∙ ap (λ words. set words port value) (sym (lane_sources k sources ws)))

-- from each value that an option may hold
if_some : {X : Type 0} (o : Option X) (P : X → Type 0) → ((x : X) → o ≡ Some x → P x) → IfSome o P
if_some None P h = tt
if_some (Some x) P h = h x refl

-- the port has the word in each lane
pub set_port_lanes : (s : Seen) (m : Module) (words : List (List ℕ)) (port : ℕ) (values : List ℕ) → s.of ≡ m → IsSound m → ((k : ℕ) → k < 8 → length (lane k s.words) ≡ length (all_names m))
    → ((k : ℕ) → k < 8 → lane k words ≡ set (lane k s.words) port (get_or values k 0)) → IfSome (slice_get s.of.inputs port) (λ p. (k : ℕ) → k < 8 → named m (lane k words) p.name ≡ get_or values k 0)
set_port_lanes s m words port values same sound long wrote =
    if_some (slice_get s.of.inputs port) (λ p. (k : ℕ) → k < 8 → named m (lane k words) p.name ≡ get_or values k 0) (λ p at k lt.
    let at' : slice_get m.inputs port ≡ Some p = subst (λ (n : Module). slice_get n.inputs port ≡ Some p) same at in
    ap (λ ws. named m ws p.name) (wrote k lt) ∙ ap (λ (v : Words). v p.name) (port_set m (lane k s.words) port (get_or values k 0) p sound (long k lt) at')
    ∙ with_word_same (named m (lane k s.words)) p.name (get_or values k 0))

-- and every other name its own
pub set_others_lanes : (s : Seen) (m : Module) (words : List (List ℕ)) (port : ℕ) (values : List ℕ) → s.of ≡ m → IsSound m → ((k : ℕ) → k < 8 → length (lane k s.words) ≡ length (all_names m))
    → ((k : ℕ) → k < 8 → lane k words ≡ set (lane k s.words) port (get_or values k 0))
    → IfSome (slice_get s.of.inputs port) (λ p. (k : ℕ) → k < 8 → (name : List ℕ) → name ≢ p.name → named m (lane k words) name ≡ carried k s name)
set_others_lanes s m words port values same sound long wrote =
    if_some (slice_get s.of.inputs port) (λ p. (k : ℕ) → k < 8 → (name : List ℕ) → name ≢ p.name → named m (lane k words) name ≡ carried k s name) (λ p at k lt name other.
    let at' : slice_get m.inputs port ≡ Some p = subst (λ (n : Module). slice_get n.inputs port ≡ Some p) same at in
    ap (λ ws. named m ws name) (wrote k lt) ∙ ap (λ (v : Words). v name) (port_set m (lane k s.words) port (get_or values k 0) p sound (long k lt) at')
    ∙ with_word_other (named m (lane k s.words)) p.name (get_or values k 0) name other
    ∙ ap (λ (n : Module). named n (lane k s.words) name) (sym same))

-- as many words are seen in each lane
pub seen_long : (s : Seen) (m net : Module) (sources : List ℕ) (ws : List (List ℕ)) (b : Bool) → record { of = m; words = at_sources sources ws; settled = b } ≡ s → AreMerged m sources → (k : ℕ) → length (lane k s.words) ≡ length (all_names m)
seen_long s m net sources ws b view are k =
    subst (λ (t : Seen). length (lane k t.words) ≡ length (all_names m)) view
    (lane_size k (at_sources sources ws) ∙ length-map sources (λ source. get_or ws source []) ∙ are.size)

-- a port of what is seen is one of the engine
pub port_within : (s : Seen) (m net : Module) (sources : List ℕ) (ws : List (List ℕ)) (b : Bool) (port : ℕ) → record { of = m; words = at_sources sources ws; settled = b } ≡ s → net ≡ merged m sources → port < length s.of.inputs → port < length net.inputs
port_within s m net sources ws b port view same lt =
    subst (λ (n : Module). port < length n.inputs) (sym same) (subst (λ (t : Seen). port < length t.of.inputs) (sym view) lt)

-- and has its place among the words that a call is lent
pub port_place : (m : Module) (v : Vec (List ℕ) Global) (before : List (List ℕ)) (port : ℕ) → before ≡ v.items → length v.items ≡ length (all_names m) → port < length m.inputs → port < length before
port_place m v before port is long lt =
    let inputs = names_of m.inputs in
    let registers = names_of m.registers in
    let count : length inputs ≡ length m.inputs = length-map m.inputs (λ (p : Port). p.name) in
    let lt' : port < length (inputs ++ registers) = omega (arith, length-append inputs registers) in
    let lt'' : port < length (all_names m) = omega (arith, length-append (inputs ++ registers) (wire_names m)) in
    let lent : length before ≡ length v.items = ap length is in
    omega arith

-- and each value fits it
pub value_fits : (s : Seen) (m net : Module) (sources : List ℕ) (ws : List (List ℕ)) (b : Bool) (port : ℕ) (values : List ℕ) → record { of = m; words = at_sources sources ws; settled = b } ≡ s → net ≡ merged m sources → length values ≡ 8
    → ForSome (slice_get s.of.inputs port) (λ p. All (IsWord p.width.bits) values) → (k : ℕ) → k < 8 → ForSome (slice_get net.inputs port) (λ p. IsWord p.width.bits (get_or values k 0))
value_fits s m net sources ws b port values view same long fits k lt =
    subst (λ (n : Module). ForSome (slice_get n.inputs port) (λ p. IsWord p.width.bits (get_or values k 0))) (sym same)
    (subst (λ (t : Seen). ForSome (slice_get t.of.inputs port) (λ p. IsWord p.width.bits (get_or values k 0))) (sym view) (λ p at. fits p at k 0 (omega arith)))

-- ---- what is kept of one lane

-- of settled words
pub kept_settled : (m : Module) (words : List ℕ) (stale due : List Bool) (dense : Bool) → AllFit m words → Settled m (named m words) → (dense ≡ false → AreHeld m words stale due) → IsLane m words stale due dense true
kept_settled m words stale due dense fit settled held = record {
  fit = fit;
  settled_words = λ flag. settled;
  zeros = settled_zero m words settled;
  held = held;
}

-- of words after an edge
pub kept_edge : (m : Module) (words words' : List ℕ) (stale due : List Bool) (dense : Bool) → IsSound m → AllFit m words' → AreZero m words
    → ((name : List ℕ) → (Contains (registers_of m.steps) name → ⊥) → named m words' name ≡ named m words name) → (dense ≡ false → AreHeld m words' stale due) → IsLane m words' stale due dense false
kept_edge m words words' stale due dense sound fit zeros others held = record {
  fit = fit;
  settled_words = λ flag. absurd (let e : false ≡ true = flag in cc);
  zeros = edge_zero m words words' sound others zeros;
  held = held;
}

-- of words after one was set at a port
pub kept_set : (m : Module) (words words' : List ℕ) (stale stale' due due' : List Bool) (dense settled : Bool) (port value : ℕ) → IsSound m → length words ≡ length (all_names m) → IsLane m words stale due dense settled → port < length m.inputs → ForSome (slice_get m.inputs port) (λ p. IsWord p.width.bits value)
    → words' ≡ set words port value → (dense ≡ false → ReadTheSame m words words' stale stale' due due') → IsLane m words' stale' due' dense false
kept_set m words words' stale stale' due due' dense settled port value sound long kept lt fits wrote reads = record {
  fit = subst (AllFit m) (sym wrote) (set_fits m words port value sound long lt fits kept.fit);
  settled_words = λ flag. absurd (let e : false ≡ true = flag in cc);
  zeros = subst (AreZero m) (sym wrote) (set_zero m words port value sound long lt kept.zeros);
  held = λ some. subst (λ ws. AreHeld m ws stale' due') (sym wrote)
      (set_held m words port value stale stale' due due' sound long lt (subst (λ ws. ReadTheSame m words ws stale stale' due due') wrote (reads some)) (kept.held some));
}

-- of words that are all 0
pub kept_new : (m : Module) (k n : ℕ) (ws : List (List ℕ)) (word : List ℕ) (stale due : List Bool) → ws ≡ replicate n word → get_or word k 0 ≡ 0 → IsLane m (lane k ws) stale due true false
kept_new m k n ws word stale due is none =
    let same : lane k ws ≡ replicate n 0 = ap (lane k) is ∙ lane_replicate k n word ∙ ap (replicate n) none in
    record {
      fit = subst (AllFit m) (sym same) (zeros_fit m n);
      settled_words = λ flag. absurd (let e : false ≡ true = flag in cc);
      zeros = subst (AreZero m) (sym same) (zeros_zero m n);
      held = λ some. absurd (let e : true ≡ false = some in cc);
    }

-- and they are seen so
pub new_lane : (m : Module) (sources : List ℕ) (k : ℕ) (ws : List (List ℕ)) (word : List ℕ) → AreMerged m sources → ws ≡ replicate (length (all_names m)) word → get_or word k 0 ≡ 0 → lane k (at_sources sources ws) ≡ replicate (length (all_names m)) 0
new_lane m sources k ws word are is none =
    let n = length (all_names m) in
    let same : lane k ws ≡ replicate n 0 = ap (lane k) is ∙ lane_replicate k n word ∙ ap (replicate n) none in
    lane_sources k sources ws ∙ ap (resolved sources) same ∙ zeros_resolved m sources are

-- ---- a word that is read

-- a drive of what is seen is one of the engine
pub wire_within : (s : Seen) (m net : Module) (sources : List ℕ) (ws : List (List ℕ)) (b : Bool) (wire : ℕ) → record { of = m; words = at_sources sources ws; settled = b } ≡ s → net ≡ merged m sources → wire < length s.of.drives → wire < length net.drives
wire_within s m net sources ws b wire view same lt =
    let lt' : wire < length m.drives = subst (λ (t : Seen). wire < length t.of.drives) (sym view) lt in
    subst (λ (n : Module). wire < length n.drives) (sym same) (subst (λ n. wire < n) (sym (length-map m.drives (merged_drive m sources))) lt')

-- the place of its target
target_place : (s : Seen) (m net : Module) (sources : List ℕ) (ws : List (List ℕ)) (b : Bool) (wire place : ℕ) → record { of = m; words = at_sources sources ws; settled = b } ≡ s → net ≡ merged m sources → wire < length s.of.drives
    → ((d : Drive) → slice_get (all_names net) place ≡ Some (get_or net.drives wire d).target) → (d : Drive) → slice_get (all_names m) place ≡ Some (get_or m.drives wire d).target
target_place s m net sources ws b wire place view same lt found d =
    let lt' : wire < length m.drives = subst (λ (t : Seen). wire < length t.of.drives) (sym view) lt in
    subst (λ (n : Module). slice_get (all_names n) place ≡ Some (get_or n.drives wire d).target) same (found d) ∙ ap (λ (x : Drive). Some x.target) (merged_at m sources wire d d lt')

-- is there
place_within : (m : Module) (wire place : ℕ) → wire < length m.drives → ((d : Drive) → slice_get (all_names m) place ≡ Some (get_or m.drives wire d).target) → place < length (all_names m)
place_within m wire place lt at = elim (slice_get_cases m.drives wire).1 [
  | inl (drive, within, there, here) ↦ slice_get_within (all_names m) place (get_or m.drives wire drive).target (at drive)
  | inr (past, none) ↦ absurd (omega arith)
]

pub source_within : (s : Seen) (m net : Module) (v : Vec ℕ Global) (ws : List (List ℕ)) (b : Bool) (wire place : ℕ) → record { of = m; words = at_sources v.items ws; settled = b } ≡ s → AreMerged m v.items → net ≡ merged m v.items → wire < length s.of.drives
    → ((d : Drive) → slice_get (all_names net) place ≡ Some (get_or net.drives wire d).target) → place < v.len
source_within s m net v ws b wire place view are same lt found =
    let lt' : wire < length m.drives = subst (λ (t : Seen). wire < length t.of.drives) (sym view) lt in
    let inside = place_within m wire place lt' (target_place s m net v.items ws b wire place view same lt found) in
    let long : v.len ≡ length v.items = v.ok.0 in
    let size = are.size in
    omega (arith, inside, long, size)

-- and so is its source
source_inside : (s : Seen) (m net : Module) (sources : List ℕ) (ws : List (List ℕ)) (b : Bool) (wire place source : ℕ) → record { of = m; words = at_sources sources ws; settled = b } ≡ s → AreMerged m sources → net ≡ merged m sources → wire < length s.of.drives
    → ((d : Drive) → slice_get (all_names net) place ≡ Some (get_or net.drives wire d).target) → source ≡ get_or sources place source → source < length (all_names m)
source_inside s m net sources ws b wire place source view are same lt found read =
    let lt' : wire < length m.drives = subst (λ (t : Seen). wire < length t.of.drives) (sym view) lt in
    let inside = place_within m wire place lt' (target_place s m net sources ws b wire place view same lt found) in
    let source' : source ≡ get_or sources place 0 = read ∙ get_or_default sources place source 0 (rw are.size inside) in
    subst (λ i. i < length (all_names m)) (sym source') (are.within place inside)

pub word_within : (s : Seen) (m net : Module) (sources : List ℕ) (v : Vec (List ℕ) Global) (b : Bool) (wire place source : ℕ) → record { of = m; words = at_sources sources v.items; settled = b } ≡ s → AreMerged m sources → net ≡ merged m sources → length v.items ≡ length (all_names net)
    → wire < length s.of.drives → ((d : Drive) → slice_get (all_names net) place ≡ Some (get_or net.drives wire d).target) → source ≡ get_or sources place source → source < v.len
word_within s m net sources v b wire place source view are same size lt found read =
    let inside = source_inside s m net sources v.items b wire place source view are same lt found read in
    let size' : length v.items ≡ length (all_names m) = subst (λ (n : Module). length v.items ≡ length (all_names n)) same size in
    let long : v.len ≡ length v.items = v.ok.0 in
    omega (arith, inside, size', long)

-- the word in a lane is the one that is seen
pub lane_word : (s : Seen) (m net : Module) (sources : List ℕ) (ws : List (List ℕ)) (b : Bool) (k wire place source : ℕ) (word : List ℕ) → record { of = m; words = at_sources sources ws; settled = b } ≡ s → IsSound m → AreMerged m sources → net ≡ merged m sources
    → length ws ≡ length (all_names net) → wire < length s.of.drives → ((d : Drive) → slice_get (all_names net) place ≡ Some (get_or net.drives wire d).target) → source ≡ get_or sources place source → word ≡ get_or ws source word
    → (d : Drive) → get_or word k 0 ≡ carried k s (get_or s.of.drives wire d).target
lane_word s m net sources ws b k wire place source word view sound are same size lt found read is d =
    let inside = source_inside s m net sources ws b wire place source view are same lt found read in
    let size' : length ws ≡ length (all_names m) = subst (λ (n : Module). length ws ≡ length (all_names n)) same size in
    let here : get_or word k 0 ≡ get_or (lane k ws) source 0 = ap (λ w. get_or w k 0) is ∙ sym (lane_in k ws source word (rw size' inside)) in
    let marks = length-replicate (length (merged m sources).drives) true in
    let at = target_place s m net sources ws b wire place view same lt found in
    let seen = seen_word _ m sources (one m sources (lane k ws)) wire place source (get_or word k 0) refl sound are (record { of = refl; whole = record { size = lane_size k ws ∙ size'; marks = marks } }) at read here in
    subst (λ (t : Seen). get_or word k 0 ≡ carried k t (get_or t.of.drives wire d).target) view
    (subst (λ words. get_or word k 0 ≡ named m words (get_or m.drives wire d).target) (sym (lane_sources k sources ws)) (seen d))

-- and fits
pub lane_word_fits : (s : Seen) (m net : Module) (sources : List ℕ) (ws : List (List ℕ)) (b : Bool) (k wire place source : ℕ) (word : List ℕ) → record { of = m; words = at_sources sources ws; settled = b } ≡ s → IsSound m → AreMerged m sources → net ≡ merged m sources
    → IsSound net → length ws ≡ length (all_names net) → AllFit net (lane k ws) → wire < length s.of.drives → ((d : Drive) → slice_get (all_names net) place ≡ Some (get_or net.drives wire d).target) → source ≡ get_or sources place source → word ≡ get_or ws source word
    → (d : Drive) → IsWord (width_of s.of (get_or s.of.drives wire d).target) (get_or word k 0)
lane_word_fits s m net sources ws b k wire place source word view sound are same safe size fit lt found read is d =
    let inside = source_inside s m net sources ws b wire place source view are same lt found read in
    let size' : length ws ≡ length (all_names m) = subst (λ (n : Module). length ws ≡ length (all_names n)) same size in
    let here : get_or word k 0 ≡ get_or (lane k ws) source 0 = ap (λ w. get_or w k 0) is ∙ sym (lane_in k ws source word (rw size' inside)) in
    let fit' : AllFit m (lane k ws) = subst (λ (n : Module). AllFit n (lane k ws)) same fit in
    let marks = length-replicate (length (merged m sources).drives) true in
    let at = target_place s m net sources ws b wire place view same lt found in
    let fits : (name : List ℕ) → slice_get (all_names m) source ≡ Some name → IsWord (width_of m name) (get_or word k 0) = λ name at'.
    subst (IsWord (width_of m name)) (sym (here ∙ sym (look_at (all_names m) (lane k ws) source name (names_distinct m sound) (lane_size k ws ∙ size') at')))
    (All-contains (λ n. IsWord (width_of m n) (named m (lane k ws) n)) (all_names m) name fit' (contains_at (all_names m) source name at')) in
    subst (λ (t : Seen). IsWord (width_of t.of (get_or t.of.drives wire d).target) (get_or word k 0)) view
    (seen_fits _ m sources (one m sources (lane k ws)) wire place source (get_or word k 0) refl sound are (record { of = refl; whole = record { size = lane_size k ws ∙ size'; marks = marks } }) at read fits d)

-- lanes that say so are settled
pub value_settled : (s : Seen) (m net : Module) (sources : List ℕ) (ws : List (List ℕ)) (b : Bool) (k : ℕ) → record { of = m; words = at_sources sources ws; settled = b } ≡ s → IsSound m → AreMerged m sources → net ≡ merged m sources → length ws ≡ length (all_names net)
    → (IsTrue b → Settled net (named net (lane k ws))) → IsTrue s.settled → Settled s.of (carried k s)
value_settled s m net sources ws b k view sound are same size settled flag =
    subst (λ (t : Seen). Settled t.of (carried k t)) view
    (lane_settled m net sources ws k sound are same (lane_size k ws ∙ size) (settled (ap (λ (t : Seen). t.settled) view ∙ flag)))
