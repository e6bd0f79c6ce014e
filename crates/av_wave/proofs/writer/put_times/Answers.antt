use Rattle.std.proofs.Common.{refl, inl, inr, arith}
use Rattle.av_page.proofs.Putting.{Puts-none, Puts-more, Puts-is}
use Rattle.av_wave.proofs.Written.{times_none, times_more, times_end}
use Rattle.av_wave.proofs.writer.put_times.Goals as goal

pub loop-cycle-init : goal.loop-cycle-init
loop-cycle-init g c = (Puts-is (Puts-none _ _) (times_none c.args.from), inl refl)

pub loop-cycle-preserved : goal.loop-cycle-preserved
loop-cycle-preserved g c = (Puts-is (Puts-more c.loop-cycle.invariant.0 c.put_time.ensures) (times_more c.args.from c.loop-cycle.cycle c.loop-cycle.auto.cycle), inr (omega arith))

pub returns : goal.returns
returns g c = Puts-is c.loop-cycle.invariant.0 (times_end c.args.from c.args.to c.loop-cycle.cycle c.loop-cycle-test.false c.loop-cycle.invariant.1)
