use Rattle.std.proofs.Common.{◌≡◌, drop, length}
use Rattle.av_kinds.specs.inner.Choices.{options_built}
use Rattle.av_kinds.specs.inner.Cells.{options_of}
use Rattle.av_kinds.specs.inner.Numbered.{wire_in}
use Rattle.av_kinds.specs.inner.Added.{AddsBuilt}
use Rattle.av_kinds.proofs.datapath.in_mode.Given as goal

abbrev pub invariant-loop-k : goal.invariant-loop-k
invariant-loop-k l = (l.first ≡ l.fn.first) × AddsBuilt l.fn.gates.items l.gates.items (options_built (wire_in l.names) l.width l.counter (length l.fn.gates.items) l.fn.second (options_of l.fn.first (drop l.k l.guards))) l.root
