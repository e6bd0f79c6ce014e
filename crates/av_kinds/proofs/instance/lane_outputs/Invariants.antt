use Rattle.std.proofs.Common.{◌≡◌}
use Rattle.av_kinds.specs.Written.{program_of}
use Rattle.av_kinds.specs.Names.{labels}
use Rattle.av_kinds.specs.inner.Instances.{outputs_from}
use Rattle.av_kinds.proofs.instance.lane_outputs.Given as goal

abbrev pub invariant-loop-k : goal.invariant-loop-k
invariant-loop-k l = l.outputs ≡ outputs_from (labels (program_of l.program)) l.first l.k
