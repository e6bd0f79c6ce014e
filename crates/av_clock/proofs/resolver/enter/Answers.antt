use Rattle.std.proofs.Common.{refl, ◌∙◌}
use Rattle.av_clock.proofs.Found.{enters_more, enters_all}
use Rattle.av_clock.proofs.resolver.enter.Goals as goal

pub loop-i-preserved : goal.loop-i-preserved
loop-i-preserved c =
    enters_more c.loop-i.table c.args.table.now c.insert.new.self c.args.ports.now c.args.first c.loop-i.i c.index-ports-i.result _ c.as_bytes.result.now c.loop-i-test.true c.index-ports-i.is refl (c.as_bytes.ensures.value ∙ c.as_str.ensures)
    c.in_ok-insert.ensures.all c.loop-i.invariant

pub returns : goal.returns
returns c = enters_all c.args.table.now c.loop-i.table c.args.first c.loop-i.i c.args.ports.now c.loop-i-test.false c.loop-i.invariant
