use Rattle.std.proofs.Common.{◌≡◌, drop}
use Rattle.std.specs.List.{list_any}
use Rattle.av_flat.specs.Broadcasts.{moves}
use Rattle.av_sched.proofs.cost.moves_some.Given as goal

-- those to come stand for all
abbrev pub invariant-loop-way : goal.invariant-loop-way
invariant-loop-way l = list_any (moves l.linear) (drop l.way-index l.ways) ≡ list_any (moves l.linear) l.ways
