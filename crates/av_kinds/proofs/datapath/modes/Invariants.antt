use Rattle.std.proofs.Common.{map, drop, length}
use Rattle.av_kinds.specs.inner.Cells.{modes_built}
use Rattle.av_kinds.specs.inner.Numbered.{wire_in}
use Rattle.av_kinds.specs.inner.Added.{AddsBuilt, as_datapath, as_guarded}
use Rattle.av_kinds.proofs.datapath.modes.Given as goal

abbrev pub invariant-loop-k : goal.invariant-loop-k
invariant-loop-k l =
    AddsBuilt l.fn.gates.items l.gates.items (modes_built (wire_in l.names) l.width l.counter (length l.fn.gates.items) (as_datapath l.lane.otherwise) (map as_guarded (drop l.k l.modes))) l.root
