-- Sources and sinks in memory, as contracts see them.
use Rattle.std.specs.Prelude.{ℕ, ◌+◌, List, min}
use Rattle.av_base.specs.Outside.{last_count}

-- A source in memory: the bytes left, how many it gives at most in a call, the numbers of the calls
-- that fail, counted from 0, and how many calls and faults there were.
pub record Feed : Type 0 where
  pub left : List ℕ
  pub per_call : ℕ
  pub failing : List ℕ
  pub calls : ℕ
  pub faults : ℕ

-- A sink in memory: the bytes held, for how many more there is room, and the rest as for a source.
pub record Store : Type 0 where
  pub held : List ℕ
  pub room : ℕ
  pub per_call : ℕ
  pub failing : List ℕ
  pub calls : ℕ
  pub faults : ℕ

-- one more, or the last count
abbrev pub next_count : ℕ → ℕ
next_count n = min (n + 1) last_count
