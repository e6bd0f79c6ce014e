use Rattle.std.proofs.Common.{◌≡◌, take}
use Rattle.av_pipe.proofs.helpers.copy_times.Given as goal

abbrev pub invariant-loop-time : goal.invariant-loop-time
invariant-loop-time l = l.to ≡ take l.time-index l.times
