use Rattle.std.proofs.Common.{arith}
use Rattle.av_base.proofs.Moves.{Adds-next}
use Rattle.av_base.proofs.sink.write_all.Goals as goal

pub loop-done-preserved : goal.loop-done-preserved
loop-done-preserved g c = (Adds-next _ _ _ _ _ c.args.bytes.now c.loop-done.invariant.0 c.in-Ok.ensures.added, omega (arith, c.in-Ok.ensures.most), omega (arith, c.in-Ok.ensures.later))
