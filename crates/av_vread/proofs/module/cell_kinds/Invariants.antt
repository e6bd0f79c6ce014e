use Rattle.std.proofs.Common.{◌≡◌, ◌++◌, drop, map}
use Rattle.av_net.specs.Rows.{kind_from}
use Rattle.av_vparse.specs.Said.{said_module}
use Rattle.av_vread.proofs.module.cell_kinds.Given as goal

abbrev pub invariant-loop-module : goal.invariant-loop-module
invariant-loop-module l = l.kinds ++ map kind_from (map said_module (drop l.module-index l.of)) ≡ map kind_from (map said_module l.of)
