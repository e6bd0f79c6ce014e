use Rattle.std.proofs.Common.{◌-◌, length, map}
use Rattle.av_net.specs.declared.operation.Operand.TheVariants.{Name}
use Rattle.av_vtext.proofs.Links.{AreGoing}
use Rattle.av_vtext.proofs.plan.write_more_names.Given as goal

abbrev pub invariant-loop-at : goal.invariant-loop-at
invariant-loop-at g l =
    let S = g.K.Sink.state in
    AreGoing (S l.fn.sink) (S l.sink) l.fn.page l.page l.ports (map Name l.names) l.at

abbrev pub decreases-loop-at : goal.decreases-loop-at
decreases-loop-at g l = length l.ports - l.at
