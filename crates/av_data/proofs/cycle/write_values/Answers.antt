use Rattle.std.proofs.Common.{◌<◌, length, sym, arith}
use Rattle.av_page.proofs.Putting.{Puts-none, Puts-more, Puts-is}
use Rattle.av_data.proofs.Values.{values_more}
use Rattle.av_data.proofs.cycle.write_values.Goals as goal

pub loop-i-init : goal.loop-i-init
loop-i-init g c = Puts-none _ _

pub loop-i-preserved : goal.loop-i-preserved
loop-i-preserved g c =
    let within : c.loop-i.i < length c.args.values.now = omega (arith, c.requires, c.loop-i-test.true) in
    Puts-is (Puts-more c.loop-i.invariant c.write_value.ensures)
    (sym (values_more c.args.ports.now c.args.values.now c.loop-i.i c.index-ports-i.result c.loop-i-test.true within c.index-ports-i.is))
