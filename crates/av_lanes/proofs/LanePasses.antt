-- Passes over lanes: what holds of each lane after one drive or one step more.
use Rattle.std.proofs.Common.{◌≡◌, ℕ, ◌+◌, ◌<◌, ◌≤◌, List, length, get_or, set, refl, sym, ◌∙◌, ap, subst, arith, inl, inr, Bool, true, false}
use Rattle.std.proofs.lemmas.Bool.{cases_lt}
use Rattle.av_base.specs.Words.{IsWord}
use Rattle.av_net.specs.declared.netlist.Step.{Step}
use Rattle.av_net.specs.declared.netlist.Module.{Module}
use Rattle.av_net.specs.Meaning.{Words}
use Rattle.av_net.specs.Names.{all_names, given_names, width_of}
use Rattle.av_net.specs.Settled.{Settled, Agree}
use Rattle.av_net.specs.Sound.{IsSound}
use Rattle.av_clock.specs.declared.gate.Assignment.{Assignment}
use Rattle.av_clock.specs.declared.gate.FlipFlop.{FlipFlop}
use Rattle.av_clock.specs.Gates.{gate_word, reading_word, IsWithin, AreTaken, FitRegisters}
use Rattle.av_clock.specs.Marked.{IsClear, AreHeld}
use Rattle.av_clock.specs.Marking.{IsSet, ReadTheSame}
use Rattle.av_clock.specs.Named.{named, AllFit}
use Rattle.av_clock.proofs.Computing.{IsOne, Computes, computes_more}
use Rattle.av_clock.proofs.Edges.{IsFor, Stores, next_within, register_within, next_more, reset_more, stores_more, no_flip_flop}
use Rattle.av_clock.proofs.Held.{SettlesMarked, all_hold}
use Rattle.av_clock.proofs.Taking.{Takes, HaveTaken, takes_more, Gives, gives_more}
use Rattle.av_lanes.specs.Seen.{lane}
use Rattle.av_lanes.specs.declared.order.Transfer.{Transfer}
use Rattle.av_lanes.specs.inner.Order.{IsOrder, AreMoves, AreTransfers, HaveMoved}
use Rattle.av_lanes.proofs.ByLane.{lane_set, lane_size, lane_in}
use Rattle.av_lanes.proofs.Ordering.{for_move, no_transfer, transfer_at, moves_more}

-- there is a word for each name in each lane
pub lane_long : (k : ℕ) (m : Module) (words : List (List ℕ)) → length words ≡ length (all_names m) → length (lane k words) ≡ length (all_names m)
lane_long k m words long = lane_size k words ∙ long

-- a place is in each lane
pub lane_within : (k : ℕ) (words : List (List ℕ)) (place : ℕ) → place < length words → place < length (lane k words)
lane_within k words place lt = let size = lane_size k words in omega (arith, size, lt)

-- what a flip-flop reads is there
pub read_within : (m : Module) (words : List (List ℕ)) (n : ℕ) (flip_flop : FlipFlop) → length words ≡ length (all_names m) → IsFor m n flip_flop → IsWithin (length words) flip_flop.next
read_within m words n flip_flop long for = subst (λ size. IsWithin size flip_flop.next) (lane_size 0 words) (next_within m (lane 0 words) n flip_flop (lane_long 0 m words long) for)

-- and so is its register
pub written_within : (m : Module) (words : List (List ℕ)) (n : ℕ) (flip_flop : FlipFlop) → length words ≡ length (all_names m) → IsFor m n flip_flop → flip_flop.register < length words
written_within m words n flip_flop long for = subst (λ size. flip_flop.register < size) (lane_size 0 words) (register_within m (lane 0 words) n flip_flop (lane_long 0 m words long) for)

-- one drive more of those that compute
pub computes_lane : (k : ℕ) (m : Module) (drives : List Assignment) (before words : List (List ℕ)) (n : ℕ) (assignment : Assignment) (word : List ℕ) → IsSound m → length words ≡ length (all_names m) → n < length drives → assignment ≡ get_or drives n assignment
    → IsOne m assignment → get_or word k 0 ≡ gate_word (lane k words) assignment.gate → Computes m drives (lane k before) (lane k words) n → Computes m drives (lane k before) (lane k (set words assignment.target word)) (n + 1)
computes_lane k m drives before words n assignment word sound long lt at one is so_far =
    subst (λ ws. Computes m drives (lane k before) ws (n + 1)) (sym (lane_set k words assignment.target word))
    (computes_more m drives (lane k before) (lane k words) n assignment (get_or word k 0) sound (lane_long k m words long) lt at one is so_far)

-- ---- marked drives

-- before the first
pub marked_none : (m : Module) (words : List ℕ) (stale due : List Bool) (drive : ℕ) → length stale ≡ length m.drives → length due ≡ length m.steps → AllFit m words → AreHeld m words stale due
    → drive ≤ length stale → ((i : ℕ) → 0 ≤ i → i < drive → IsClear stale i) → (drive < length stale → IsSet stale drive) → SettlesMarked m words words stale due drive 0
marked_none m words stale due drive drives steps fit held within clear marked = record {
  drive_marks = drives;
  step_marks = steps;
  fit = fit;
  held = held;
  given = λ i d lt. refl;
  clear = λ i lt. clear i (omega arith) lt;
  most = omega arith;
  within = omega arith;
  marked = λ lt. marked (omega arith);
}

-- one more
pub marked_more : (m : Module) (words words' words'' : List ℕ) (stale stale' due due' : List Bool) (drive count then : ℕ) → SettlesMarked m words words' stale due drive count → drive < length m.drives
    → length stale' ≡ length stale → length due' ≡ length due → AllFit m words'' → AreHeld m words'' stale' due' → Agree (given_names m) (named m words') (named m words'')
    → (((i : ℕ) → i < drive → IsClear stale i) → (i : ℕ) → i < drive + 1 → IsClear stale' i)
    → (drive + 1 ≤ length stale' → drive + 1 ≤ then) → then ≤ length stale' → ((i : ℕ) → drive + 1 ≤ i → i < then → IsClear stale' i) → (then < length stale' → IsSet stale' then)
    → SettlesMarked m words words'' stale' due' then (count + 1)
marked_more m words words' words'' stale stale' due due' drive count then so_far lt drives steps fit held given clear later within between marked =
    let some : length stale ≡ length m.drives = so_far.drive_marks in
    let past : drive + 1 ≤ then = later (omega arith) in
    let few : count ≤ drive = so_far.most in
    let done : (i : ℕ) → i < drive + 1 → IsClear stale' i = clear so_far.clear in
    record {
      drive_marks = drives ∙ some;
      step_marks = steps ∙ so_far.step_marks;
      fit = fit;
      held = held;
      given = λ i d below. so_far.given i d below ∙ given i d below;
      clear = λ i below. elim (cases_lt i (drive + 1)) [
        | inl before ↦ done i before
        | inr after ↦ between i (omega arith) below
      ];
      most = omega arith;
      within = omega arith;
      marked = λ below. marked (omega arith);
    }

-- after the last
pub marked_all : (m : Module) (words words' : List ℕ) (stale due : List Bool) (drive count : ℕ) → length m.drives ≤ drive → SettlesMarked m words words' stale due drive count → Settled m (named m words')
marked_all m words words' stale due drive count past so_far = all_hold m words' stale due so_far.held (λ i lt. so_far.clear i (omega arith))

-- ---- steps

-- one marked step more
pub takes_lane : (k : ℕ) (m : Module) (words : List (List ℕ)) (before due lent : List Bool) (taken : List ℕ) (next : List (List ℕ)) (count step : ℕ) (word : List ℕ) (then : ℕ) (flip_flop : FlipFlop)
    → IsSound m → length words ≡ length (all_names m) → HaveTaken m (lane k words) before → length before ≡ length m.steps → step < length m.steps → IsFor m step flip_flop → get_or word k 0 ≡ reading_word (lane k words) flip_flop.next → lent ≡ set due step false
    → then ≤ length lent → ((i : ℕ) → step + 1 ≤ i → i < then → IsClear lent i) → (then < length lent → IsSet lent then) → step + 1 ≤ then
    → Takes m (lane k words) before due taken (lane k next) count step → Takes m (lane k words) before lent (set taken count step) (lane k (set next count word)) (count + 1) then
takes_lane k m words before due lent taken next count step word then flip_flop sound long held size lt for is wrote within clear marked later so_far =
    subst (λ next'. Takes m (lane k words) before lent (set taken count step) next' (count + 1) then) (sym (lane_set k next count word))
    (takes_more m (lane k words) before due lent taken (lane k next) count step (get_or word k 0) then flip_flop sound (lane_long k m words long) held size lt for is wrote within clear marked later so_far)

-- one register more of those of marked steps
pub gives_lane : (k : ℕ) (m : Module) (words words' words'' : List (List ℕ)) (stale stale' stale'' due due' due'' : List Bool) (taken : List ℕ) (next : List (List ℕ)) (count n : ℕ) (d : List ℕ) (flip_flop : FlipFlop)
    → IsSound m → length words' ≡ length (all_names m) → n < count → count ≤ length next → IsFor m (get_or taken n 0) flip_flop
    → ((j : ℕ) (d : Step) → j < count → IsWord (width_of m (get_or m.steps (get_or taken j 0) d).register) (get_or (lane k next) j 0))
    → lane k words'' ≡ set (lane k words') flip_flop.register (get_or (get_or next n d) k 0) → ReadTheSame m (lane k words') (lane k words'') stale' stale'' due' due'' → length stale'' ≡ length stale' → length due'' ≡ length due'
    → Gives m (lane k words) (lane k words') stale stale' due due' taken (lane k next) count n → Gives m (lane k words) (lane k words'') stale stale'' due due'' taken (lane k next) count (n + 1)
gives_lane k m words words' words'' stale stale' stale'' due due' due'' taken next count n d flip_flop sound long lt room for fits wrote reads size size' so_far =
    gives_more m (lane k words) (lane k words') (lane k words'') stale stale' stale'' due due' due'' taken (lane k next) count n flip_flop sound (lane_long k m words' long) lt for fits
    (wrote ∙ ap (set (lane k words') flip_flop.register) (sym (lane_in k next n d (omega arith)))) reads size size' so_far

-- one step more of all, without reset
pub next_lane : (k : ℕ) (m : Module) (words next : List (List ℕ)) (n : ℕ) (flip_flop : FlipFlop) (word : List ℕ) → IsSound m → length words ≡ length (all_names m) → length next ≡ length m.steps → IsFor m n flip_flop
    → get_or word k 0 ≡ reading_word (lane k words) flip_flop.next → AreTaken m false (named m (lane k words)) n (lane k next) → AreTaken m false (named m (lane k words)) (n + 1) (lane k (set next n word))
next_lane k m words next n flip_flop word sound long room for is so_far =
    subst (AreTaken m false (named m (lane k words)) (n + 1)) (sym (lane_set k next n word))
    (next_more m (lane k words) (lane k next) n flip_flop (get_or word k 0) sound (lane_long k m words long) (lane_size k next ∙ room) for is so_far)

-- and with it
pub reset_lane : (k : ℕ) (m : Module) (next : List (List ℕ)) (n : ℕ) (flip_flop : FlipFlop) (word : List ℕ) → length next ≡ length m.steps → IsFor m n flip_flop → get_or word k 0 ≡ flip_flop.reset
    → ((old : Words) → AreTaken m true old n (lane k next)) → (old : Words) → AreTaken m true old (n + 1) (lane k (set next n word))
reset_lane k m next n flip_flop word room for is so_far old =
    subst (AreTaken m true old (n + 1)) (sym (lane_set k next n word ∙ ap (set (lane k next) n) is))
    (reset_more m (lane k next) n flip_flop (lane_size k next ∙ room) for so_far old)

-- one register more of all
pub stores_lane : (k : ℕ) (m : Module) (before words next : List (List ℕ)) (n : ℕ) (flip_flop : FlipFlop) (d : List ℕ) → IsSound m → length words ≡ length (all_names m) → length next ≡ length m.steps → IsFor m n flip_flop → FitRegisters m (lane k next)
    → Stores m (lane k before) (lane k words) (lane k next) n → Stores m (lane k before) (lane k (set words flip_flop.register (get_or next n d))) (lane k next) (n + 1)
stores_lane k m before words next n flip_flop d sound long room for fits so_far =
    let within : n < length m.steps = for.within in
    subst (λ ws. Stores m (lane k before) ws (lane k next) (n + 1)) (sym (lane_set k words flip_flop.register (get_or next n d)))
    (stores_more m (lane k before) (lane k words) (lane k next) n flip_flop (get_or (get_or next n d) k 0) sound (lane_long k m words long) for (sym (lane_in k next n d (omega arith))) fits so_far)

-- one flip-flop more of those in order
pub moves_lane : (k : ℕ) (m : Module) (order before : List ℕ) (words : List (List ℕ)) (n : ℕ) (flip_flop : FlipFlop) (word : List ℕ) → IsSound m → IsOrder m order → length words ≡ length (all_names m) → n < length order → IsFor m (get_or order n 0) flip_flop
    → get_or word k 0 ≡ reading_word (lane k words) flip_flop.next → HaveMoved m order before (lane k words) n → HaveMoved m order before (lane k (set words flip_flop.register word)) (n + 1)
moves_lane k m order before words n flip_flop word sound ordered long lt for is so_far =
    subst (λ ws. HaveMoved m order before ws (n + 1)) (sym (lane_set k words flip_flop.register word))
    (moves_more m order before (lane k words) n flip_flop (get_or word k 0) sound ordered (lane_long k m words long) lt for is so_far)

-- by its transfer
pub transfers_lane : (k : ℕ) (m : Module) (moves : List FlipFlop) (transfers : List Transfer) (are : AreMoves m moves) (before : List ℕ) (words : List (List ℕ)) (n : ℕ) (word : List ℕ) → IsSound m → AreTransfers moves transfers → length words ≡ length (all_names m) → n < length transfers
    → get_or word k 0 ≡ get_or (lane k words) (get_or transfers n no_transfer).source 0 → HaveMoved m are.order before (lane k words) n → HaveMoved m are.order before (lane k (set words (get_or transfers n no_transfer).register word)) (n + 1)
transfers_lane k m moves transfers are before words n word sound first long lt is so_far =
    let few = first.few in
    let count = are.count in
    let same = transfer_at moves transfers n no_transfer no_flip_flop first lt in
    subst (λ place. HaveMoved m are.order before (lane k (set words place word)) (n + 1)) same.0
    (moves_lane k m are.order before words n (get_or moves n no_flip_flop) word sound are.ordered long (omega (arith, lt, few, count)) (for_move m moves are n (omega (arith, lt, few)))
    (is ∙ ap (reading_word (lane k words)) (sym same.1)) so_far)
