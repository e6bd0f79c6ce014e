use Rattle.std.proofs.Common.{arith}
use Rattle.av_wave.proofs.Codes.{writes_more, written}
use Rattle.av_wave.proofs.code.Code.new.Goals as goal

pub loop-left-preserved : goal.loop-left-preserved
loop-left-preserved c =
    rw c.digit-in-loop-left.ensures (writes_more c.args.port c.loop-left.digits c.loop-left.used c.loop-left.left (omega (arith, c.loop-left-test.true)) c.loop-left.invariant)

pub returns : goal.returns
returns c = written c.args.port c.loop-left.digits c.loop-left.used c.loop-left.left c.ranges.port.fits (omega (arith, c.loop-left-test.false)) c.loop-left.invariant
