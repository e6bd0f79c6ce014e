use Rattle.std.proofs.Common.{◌≡◌, ◌*◌, map}
use Rattle.av_commands.proofs.FedEach.{AreOfEarlier}
use Rattle.av_commands.proofs.showing.feed_each.Given as goal

abbrev pub invariant-loop-values : goal.invariant-loop-values
invariant-loop-values g l = record {
  start : l.start ≡ l.values-index * l.period;
  earlier : AreOfEarlier l.design l.period (map g.D.Data.words l.problems) l.values-index 0 l.timeline;
}

abbrev pub invariant-loop-line : goal.invariant-loop-line
invariant-loop-line g l = AreOfEarlier l.design l.period (map g.D.Data.words l.problems) l.values-index l.line-index l.timeline
