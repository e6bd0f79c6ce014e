-- What an engine keeps.
use Rattle.std.specs.Prelude.{◌≡◌, IsTrue, Bool, true, false, List, if◌then◌else◌, length, replicate}
use Rattle.av_net.specs.Names.{all_names}
use Rattle.av_net.specs.Settled.{Settled}
use Rattle.av_net.specs.Sound.{IsSound}
use Rattle.av_clock.specs.declared.engine.Engine.TheInside.{Inside}
use Rattle.av_clock.specs.Seen.{Seen}
use Rattle.av_clock.specs.inner.State.{named_words, IsHeld, HasZeros}

-- all drives of a dense clock are marked
abbrev pub marks_of : Inside → List Bool
marks_of c = if c.dense then replicate (length c.state.circuit.drives) true else c.state.stale

abbrev pub seen : Inside → Seen
seen c = record { of = c.state.circuit; words = c.state.words.items; settled = c.settled; work = c.work; marked = marks_of c }

-- a word for each name, and a mark for each drive
pub record IsWhole (s : Seen) : Type 0 where
  pub size : length s.words ≡ length (all_names s.of)
  pub marks : length s.marked ≡ length s.of.drives

-- settled where the clock says so
pub record IsKept (c : Inside) : Type 0 where
  pub sound : IsSound c.state.circuit
  pub settled : IsTrue c.settled → Settled c.state.circuit (named_words c.state)
  pub zeros : HasZeros c.state
  -- what is not marked holds, where the clock is not dense
  pub held : c.dense ≡ false → IsHeld c.state
  -- a clock that settled, or is not dense, computed its drives
  pub first : c.work ≡ 0 → c.dense ≡ false → length c.state.circuit.drives ≡ 0
  pub shown : c.work ≡ 0 → IsTrue c.settled → length c.state.circuit.drives ≡ 0
