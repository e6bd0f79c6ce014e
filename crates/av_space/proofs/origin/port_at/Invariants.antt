use Rattle.std.proofs.Common.{◌≤◌, ◌-◌, length}
use Rattle.av_space.specs.declared.cells.InPort.{InPort}
use Rattle.av_space.proofs.Located.{IsBetween}
use Rattle.av_space.proofs.origin.port_at.Given as goal

abbrev pub invariant-loop-low : goal.invariant-loop-low
invariant-loop-low l = record {
  between : IsBetween InPort l.ports l.port l.low l.high;
  fits : l.high ≤ length l.ports;
}

abbrev pub decreases-loop-low : goal.decreases-loop-low
decreases-loop-low l = l.high - l.low
