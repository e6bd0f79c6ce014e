use Rattle.std.proofs.Common.{sym, ap, ◌∙◌}
use Rattle.av_net.specs.Listed.{begins_feed}
use Rattle.av_data.specs.Reading.{begins_return}
use Rattle.av_data.proofs.FirstLines.{goes_on}
use Rattle.av_data.proofs.lines.first_line.Goals as goal

pub loop-i-preserved : goal.loop-i-preserved
loop-i-preserved c =
    goes_on c.args.bytes.now c.loop-i.i c.loop-i-test.true
    (ap begins_feed (sym c.from-rest.ensures) ∙ sym c.begins_feed.ensures ∙ c.if-begins_feed.false)
    (ap begins_return (sym c.from-rest.ensures) ∙ sym c.begins_return.ensures ∙ c.if-begins_return.false)
    c.loop-i.invariant
