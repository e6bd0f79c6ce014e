-- What is presented to a module in each lane.
use Rattle.std.proofs.Common.{◌≡◌, ◌≢◌, ℕ, zero, suc, ◌+◌, ◌<◌, ◌≤◌, List, length, get_or, drop, replicate, Option, Some, slice_get, sym, ap, ◌∙◌, subst, refl, arith, inl, inr}
use Rattle.std.specs.Prelude.{slice_index, slice_set, All, IfSome}
use Rattle.std.specs.Option.{ForSome}
use Rattle.std.proofs.Math.Nat.{one-le-pow}
use Rattle.std.proofs.lemmas.Bool.{cases_lt}
use Rattle.std.proofs.lemmas.List.{length-map, length-set, get_or-set_same, get_or-set_other}
use Rattle.std.proofs.lemmas.Option.{slice_get_within, get_or_from_slice_get}
use Rattle.av_base.specs.Words.{IsWord}
use Rattle.av_base.proofs.Lists.{some_is, there_is, same_default, get_mapped}
use Rattle.av_net.specs.declared.netlist.Port.{Port}
use Rattle.av_net.specs.declared.netlist.Module.{Module}
use Rattle.av_net.specs.Meaning.{Words}
use Rattle.av_net.specs.Names.{names_of}
use Rattle.av_net.specs.Settled.{Agree}
use Rattle.av_net.specs.Sound.{IsSound}
use Rattle.av_lanes.specs.Seen.{Seen, carried}
use Rattle.av_data.specs.declared.stimulus.Given.{Given}
use Rattle.av_data.specs.declared.stimulus.Stimulus.{Stimulus}
use Rattle.av_wave.specs.Simulated.{given_word, port_words}
use Rattle.av_wave.specs.Clocking.{word_next, rest_next, AreLeft}
use Rattle.av_wave.proofs.Presenting.{port_there, presents_more, registers_kept}
use Rattle.av_wave.proofs.Walking.{word_is, word_fits, port_left, cycle_left}
use Rattle.av_commands.specs.inner.LaneClocking.{AreLeftInLanes, ArePresentedInLanes}

-- ---- the next words of the stimuli

-- the words of the first n stimuli were read, and where those after them begin
pub record AreRead (stimuli : List Stimulus) (cycle port : ℕ) (start : List ℕ) (n : ℕ) (next words : List ℕ) : Type 0 where
  pub word : (k : ℕ) (s : Stimulus) → k < n → slice_get stimuli k ≡ Some s → slice_index words k ≡ word_next (drop (slice_index start k) s.values) cycle port
  pub rest : (k : ℕ) (s : Stimulus) → k < n → slice_get stimuli k ≡ Some s → drop (slice_index next k) s.values ≡ rest_next (drop (slice_index start k) s.values) cycle port
  pub within : (k : ℕ) (s : Stimulus) → k < n → slice_get stimuli k ≡ Some s → slice_index next k ≤ length s.values
  pub same : (k : ℕ) → n ≤ k → slice_index next k ≡ slice_index start k
  pub zero : (k : ℕ) → n ≤ k → slice_index words k ≡ 0
  pub room : length next ≡ 8
  pub space : length words ≡ 8

pub zero_at : (n k : ℕ) → ◌≡◌ {A = ℕ} (get_or (replicate n 0) k 0) 0
zero_at zero zero = refl
zero_at zero (suc k) = refl
zero_at (suc n) zero = refl
zero_at (suc n) (suc k) = zero_at n k

pub none_read : (stimuli : List Stimulus) (cycle port : ℕ) (start : List ℕ) → length start ≡ 8 → AreRead stimuli cycle port start 0 start (replicate 8 0)
none_read stimuli cycle port start room = record {
  word = λ k s lt at. absurd (omega (arith, lt));
  rest = λ k s lt at. absurd (omega (arith, lt));
  within = λ k s lt at. absurd (omega (arith, lt));
  same = λ k le. refl;
  zero = λ k le. zero_at 8 k;
  room = room;
  space = refl;
}

-- one stimulus more
module _ (stimuli : List Stimulus) (cycle port : ℕ) (start : List ℕ) (n : ℕ) (next words : List ℕ) (word rest : ℕ) (s : Stimulus) (so : AreRead stimuli cycle port start n next words) (there : slice_get stimuli n ≡ Some s)
    (word_is : word ≡ word_next (drop (slice_index next n) s.values) cycle port) (rest_is : drop rest s.values ≡ rest_next (drop (slice_index next n) s.values) cycle port) (inside : rest ≤ length s.values)
    (few : n < 8) where
  -- what holds of the stimuli before it, and of it, holds of all so far
  for_more : (P : ℕ → Stimulus → Type 0) → ((k : ℕ) (t : Stimulus) → k < n → slice_get stimuli k ≡ Some t → P k t) → P n s → (k : ℕ) (t : Stimulus) → k < n + 1 → slice_get stimuli k ≡ Some t → P k t
  for_more P before here k t lt at = elim (cases_lt k n) [
    | inl less ↦ before k t less at
    | inr ge ↦
        let same : n ≡ k = omega (arith, ge, lt) in
        let one : s ≡ t = some_is s t (sym there ∙ ap (slice_get stimuli) same ∙ at) in
        subst (λ (j : ℕ). P j t) same (subst (P n) one here)
  ]

  differs : (k : ℕ) → k < n → k ≢ n
  differs k lt same = omega (arith, lt, same)

  reaches : n < length next
  reaches = (let room = so.room in omega (arith, few, room))

  has_room : n < length words
  has_room = (let space = so.space in omega (arith, few, space))

  pub read_more : AreRead stimuli cycle port start (n + 1) (slice_set next n rest) (slice_set words n word)
  read_more = record {
    word = for_more (λ k t. slice_index (slice_set words n word) k ≡ word_next (drop (slice_index start k) t.values) cycle port)
        (λ k t lt at. get_or-set_other words n k word 0 (differs k lt) ∙ so.word k t lt at)
        (get_or-set_same words n word 0 has_room ∙ word_is ∙ ap (λ i. word_next (drop i s.values) cycle port) (so.same n (omega arith)));
    rest = for_more (λ k t. drop (slice_index (slice_set next n rest) k) t.values ≡ rest_next (drop (slice_index start k) t.values) cycle port)
        (λ k t lt at. ap (λ i. drop i t.values) (get_or-set_other next n k rest 0 (differs k lt)) ∙ so.rest k t lt at)
        (ap (λ i. drop i s.values) (get_or-set_same next n rest 0 reaches) ∙ rest_is ∙ ap (λ i. rest_next (drop i s.values) cycle port) (so.same n (omega arith)));
    within = for_more (λ k t. slice_index (slice_set next n rest) k ≤ length t.values)
        (λ k t lt at. subst (λ i. i ≤ length t.values) (sym (get_or-set_other next n k rest 0 (differs k lt))) (so.within k t lt at))
        (subst (λ i. i ≤ length s.values) (sym (get_or-set_same next n rest 0 reaches)) inside);
    same = λ k le. get_or-set_other next n k rest 0 (λ e. omega (arith, le, e)) ∙ so.same k (omega (arith, le));
    zero = λ k le. get_or-set_other words n k word 0 (λ e. omega (arith, le, e)) ∙ so.zero k (omega (arith, le));
    room = length-set next n rest ∙ so.room;
    space = length-set words n word ∙ so.space;
  }

-- ---- one port

-- the first ports with one more, where it was set to what is given to it
port_presented : (m : Module) (given : List Given) (c i : ℕ) (v v' : Words) (port : Port) → IsSound m → slice_get m.inputs i ≡ Some port
    → ((j : ℕ) (p : Port) → j < i → slice_get m.inputs j ≡ Some p → v p.name ≡ given_word given c j) → v' port.name ≡ given_word given c i → ((name : List ℕ) → name ≢ port.name → v' name ≡ v name)
    → (j : ℕ) (p : Port) → j < i + 1 → slice_get m.inputs j ≡ Some p → v' p.name ≡ given_word given c j
port_presented m given c i v v' port sound there so is others j p lt e =
    let words : List ℕ = port_words v m.inputs in
    let has : (k : ℕ) (q : Port) → slice_get m.inputs k ≡ Some q → slice_index words k ≡ v q.name = λ k q h. get_or_from_slice_get words k (v q.name) 0 (get_mapped (λ (r : Port). v r.name) m.inputs k q h) in
    let room : i < length words = omega (arith, slice_get_within m.inputs i port there, length-map m.inputs (λ (r : Port). v r.name)) in
    (presents_more m given c i v v' words (given_word given c i) port sound there room (λ k q less h. (so k q less h, has k q h ∙ so k q less h)) refl is others j p lt e).0

-- the first ports have what is given to them, and the registers are as they were
pub record ArePresenting (m : Module) (stimuli : List Stimulus) (cycle port : ℕ) (start lanes : Seen) (next : List ℕ) : Type 0 where
  pub of : lanes.of ≡ m
  pub ports : ArePresentedInLanes m stimuli cycle port lanes
  pub registers : (k : ℕ) → k < 8 → Agree (names_of m.registers) (carried k start) (carried k lanes)
  pub left : AreLeftInLanes m.inputs stimuli cycle port next

module _ (m : Module) (stimuli : List Stimulus) (cycle i : ℕ) (start lanes : Seen) (next words : List ℕ) (sound : IsSound m) (lt : i < length m.inputs) (few : length stimuli ≤ 8)
    (so : ArePresenting m stimuli cycle i start lanes next)
    (are : (k : ℕ) (s : Stimulus) → slice_get stimuli k ≡ Some s → slice_index words k ≡ word_next (drop (slice_index next k) s.values) cycle i) where
  -- the words fit the port
  pub words_fit : ((k : ℕ) → length stimuli ≤ k → slice_index words k ≡ 0) → ForSome (slice_get lanes.of.inputs i) (λ p. All (IsWord p.width.bits) words)
  words_fit others = λ port at k d within.
      let there : slice_get m.inputs i ≡ Some port = ap (λ (x : Module). slice_get x.inputs i) (sym so.of) ∙ at in
      subst (IsWord port.width.bits) (same_default words k 0 d within) (by port there k)
    where
      by : (port : Port) → slice_get m.inputs i ≡ Some port → (k : ℕ) → IsWord port.width.bits (slice_index words k)
      by port there k = elim (cases_lt k (length stimuli)) [
        | inl less ↦
            let s = there_is stimuli k less in
            subst (IsWord port.width.bits) (sym (are k s.0 s.1)) (word_fits m.inputs s.0.values cycle i (drop (slice_index next k) s.0.values) (so.left.left k s.0 s.1) port there)
        | inr ge ↦ subst (IsWord port.width.bits) (sym (others k ge)) (one-le-pow port.width.bits 2 (omega arith))
      ]

  -- and are presented at it
  pub presents_next : (lanes' : Seen) (next' : List ℕ) → lanes'.of ≡ lanes.of → IfSome (slice_get lanes.of.inputs i) (λ p. (k : ℕ) → k < 8 → carried k lanes' p.name ≡ slice_index words k)
      → IfSome (slice_get lanes.of.inputs i) (λ p. (k : ℕ) → k < 8 → (name : List ℕ) → name ≢ p.name → carried k lanes' name ≡ carried k lanes name)
      → ((k : ℕ) (s : Stimulus) → slice_get stimuli k ≡ Some s → drop (slice_index next' k) s.values ≡ rest_next (drop (slice_index next k) s.values) cycle i)
      → ((k : ℕ) (s : Stimulus) → slice_get stimuli k ≡ Some s → slice_index next' k ≤ length s.values) → ArePresenting m stimuli cycle (i + 1) start lanes' next'
  presents_next lanes' next' of here others rest within =
      let (port, there) = port_there m.inputs i lt in
      let seen : slice_get lanes.of.inputs i ≡ Some port = ap (λ (x : Module). slice_get x.inputs i) so.of ∙ there in
      let set : (k : ℕ) → k < 8 → carried k lanes' port.name ≡ slice_index words k = subst (λ (o : Option Port). IfSome o (λ p. (k : ℕ) → k < 8 → carried k lanes' p.name ≡ slice_index words k)) seen here in
      let kept : (k : ℕ) → k < 8 → (name : List ℕ) → name ≢ port.name → carried k lanes' name ≡ carried k lanes name =
      subst (λ (o : Option Port). IfSome o (λ p. (k : ℕ) → k < 8 → (name : List ℕ) → name ≢ p.name → carried k lanes' name ≡ carried k lanes name)) seen others in
      record {
        of = of ∙ so.of;
        ports = λ k s at j p less e.
            let inside : k < 8 = omega (arith, slice_get_within stimuli k s at, few) in
            let given : slice_index words k ≡ given_word s.values cycle i = are k s at ∙ sym (word_is m.inputs s.values cycle i (drop (slice_index next k) s.values) (so.left.left k s at)) in
            port_presented m s.values cycle i (carried k lanes) (carried k lanes') port sound there (so.ports k s at) (set k inside ∙ given) (kept k inside) j p less e;
        registers = λ k less. registers_kept m i (carried k lanes) (carried k lanes') (carried k start) port sound there (kept k less) (so.registers k less);
        left = record {
          within = within;
          left = λ k s at. subst (AreLeft m.inputs s.values cycle (i + 1)) (sym (rest k s at)) (port_left m.inputs s.values cycle i (drop (slice_index next k) s.values) (so.left.left k s at));
        };
      }

-- ---- one cycle

pub all_presented : (m : Module) (stimuli : List Stimulus) (cycle n : ℕ) (next : List ℕ) → n ≡ length m.inputs → AreLeftInLanes m.inputs stimuli cycle n next → AreLeftInLanes m.inputs stimuli (cycle + 1) 0 next
all_presented m stimuli cycle n next all are = record {
  within = are.within;
  left = λ k s at. cycle_left m.inputs s.values cycle n (drop (slice_index next k) s.values) all (are.left k s at);
}
