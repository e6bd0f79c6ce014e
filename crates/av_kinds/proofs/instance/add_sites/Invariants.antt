use Rattle.std.proofs.Common.{◌≡◌, ◌++◌, drop}
use Rattle.av_kinds.specs.Written.{program_of}
use Rattle.av_kinds.specs.Names.{labels}
use Rattle.av_kinds.specs.inner.Instances.{sites_operands}
use Rattle.av_kinds.proofs.instance.add_sites.Given as goal

abbrev pub invariant-loop-k : goal.invariant-loop-k
invariant-loop-k l = l.operands ++ sites_operands (labels (program_of l.program)) (drop l.k l.shapes) (drop l.k l.sites) ≡ l.initial.operands ++ sites_operands (labels (program_of l.program)) l.shapes l.sites
