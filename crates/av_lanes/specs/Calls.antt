-- Calls of a clock and of lanes: what they do to the words of a module, and that each lane follows a clock.
use Rattle.std.specs.Prelude.{◌≡◌, ◌≢◌, ℕ, ◌<◌, Bool, true, false, IsTrue, List, [], ◌∷◌, map, slice_get, slice_index, Some}
use Rattle.av_net.specs.declared.netlist.Port.{Port}
use Rattle.av_net.specs.declared.netlist.Module.{Module}
use Rattle.av_net.specs.Meaning.{Words}
use Rattle.av_net.specs.Names.{names_of, given_names, all_names}
use Rattle.av_net.specs.Settled.{Settled, Agree}
use Rattle.av_net.specs.Clocked.{Edge}
use Rattle.av_net.specs.Sound.{IsSound}
use Rattle.av_clock.specs.Seen as clock
use Rattle.av_lanes.specs.Seen.{Seen, carried}

-- a call of a clock: a value at an input port, by its place, or one of the calls without a value
pub data Call : Type 0 where
  set : ℕ → ℕ → Call
  settle : Call
  tick : Call
  reset : Call

-- a state of a clock, or of one lane: its words by name, and whether it is settled
pub record State : Type 0 where
  pub words : Words
  pub settled : Bool

-- a call takes one state to another
pub data Takes (m : Module) : Call → State → State → Type 0 where
  by_set : {old new : State} {k value : ℕ} {port : Port} → slice_get m.inputs k ≡ Some port → new.words port.name ≡ value
      → ((name : List ℕ) → name ≢ port.name → new.words name ≡ old.words name) → new.settled ≡ false → Takes m (set k value) old new
  by_settle : {old new : State} → Settled m new.words → Agree (given_names m) old.words new.words → new.settled ≡ true → Takes m settle old new
  by_tick : {old new : State} → IsTrue old.settled → Edge m false old.words new.words → Agree (names_of m.inputs) old.words new.words → new.settled ≡ false → Takes m tick old new
  by_reset : {old new : State} → Edge m true old.words new.words → Agree (names_of m.inputs) old.words new.words → new.settled ≡ false → Takes m reset old new

-- ---- clocks

-- what is seen of a clock, as a state
abbrev pub clock_state : clock.Seen → State
clock_state s = record { words = clock.carried s; settled = s.settled }

-- a clock takes calls, one after another
pub data ClockTakes (m : Module) : List Call → clock.Seen → clock.Seen → Type 0 where
  clock_done : {s : clock.Seen} → ClockTakes m [] s s
  clock_call : {call : Call} {calls : List Call} {s t u : clock.Seen} → Takes m call (clock_state s) (clock_state t) → ClockTakes m calls t u → ClockTakes m (call ∷ calls) s u

-- ---- lanes

-- a call of lanes: a value for each lane at an input port, or one of the calls without values
pub data LaneCall : Type 0 where
  set_lanes : ℕ → List ℕ → LaneCall
  settle_lanes : LaneCall
  tick_lanes : LaneCall
  reset_lanes : LaneCall

-- what it is in lane k
abbrev pub in_lane : ℕ → LaneCall → Call
in_lane k (set_lanes port values) = set port (slice_index values k)
in_lane k settle_lanes = settle
in_lane k tick_lanes = tick
in_lane k reset_lanes = reset

-- lane k, as a state
abbrev pub lane_state : ℕ → Seen → State
lane_state k s = record { words = carried k s; settled = s.settled }

-- lanes take calls, one after another: each of the eight takes its own
pub data LanesTake (m : Module) : List LaneCall → Seen → Seen → Type 0 where
  lanes_done : {s : Seen} → LanesTake m [] s s
  lanes_call : {call : LaneCall} {calls : List LaneCall} {s t u : Seen} → ((k : ℕ) → k < 8 → Takes m (in_lane k call) (lane_state k s) (lane_state k t)) → LanesTake m calls t u → LanesTake m (call ∷ calls) s u

-- ---- a lane and a clock

-- the same words of ports and registers, and, where they are settled, of all names
pub record AreAlike (m : Module) (s t : State) : Type 0 where
  pub given : Agree (given_names m) s.words t.words
  pub flag : s.settled ≡ t.settled
  pub all : IsTrue s.settled → Agree (all_names m) s.words t.words

-- a lane that is alike to a clock is so after any calls, where the clock takes the lane's values
abbrev pub LanesFollow : Type 0
LanesFollow =
    (m : Module) → IsSound m → (calls : List LaneCall) (lanes lanes' : Seen) → LanesTake m calls lanes lanes'
    → (k : ℕ) → k < 8 → (one one' : clock.Seen) → ClockTakes m (map (in_lane k) calls) one one'
    → AreAlike m (lane_state k lanes) (clock_state one) → AreAlike m (lane_state k lanes') (clock_state one')
