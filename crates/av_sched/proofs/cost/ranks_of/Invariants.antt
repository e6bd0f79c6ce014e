use Rattle.std.proofs.Common.{◌≡◌, map, take}
use Rattle.std.specs.List.{flat_map}
use Rattle.av_sched.specs.Offsets.{part}
use Rattle.av_sched.specs.Order.{entry_rank}
use Rattle.av_sched.proofs.cost.ranks_of.Given as goal

abbrev pub invariant-loop-node : goal.invariant-loop-node
invariant-loop-node l = l.to.items ≡ map entry_rank (flat_map (part l.fn.linear) (take l.node-index l.fn.component))
