use Rattle.std.proofs.Common.{arith, length-append, take, length-take}
use Rattle.std.proofs.lemmas.Grind.{common_steps}
use Rattle.av_base.specs.Outside.{TakesSome}
use Rattle.av_base.proofs.Moves.{Takes-more, on_err}
use Rattle.av_base.proofs.source.read_all.Goals as goal

pub returns-in-Ok-clause-too_long : goal.returns-in-Ok-clause-too_long
returns-in-Ok-clause-too_long g c =
    λ _. (
      _,
      Takes-more _ _ _ _ _ c.loop-bytes.invariant.0 c.in-Ok.ensures.taken,
      omega (arith, length-append c.loop-bytes.bytes (take c.in-Ok.n c.read.new.into), length-take c.in-Ok.n c.read.new.into, c.in-Ok.ensures.most),
    )

pub returns-in-Ok-clause-front : goal.returns-in-Ok-clause-front
returns-in-Ok-clause-front g c = (_, Takes-more _ _ _ _ _ c.loop-bytes.invariant.0 c.in-Ok.ensures.taken)

pub returns-in_err-append-in-Ok-2-clause-front : goal.returns-in_err-append-in-Ok-2-clause-front
returns-in_err-append-in-Ok-2-clause-front g c =
    let front : TakesSome (g.S.Source.left c.args.source.now) (g.S.Source.left c.read.new.self)
    = (_, Takes-more _ _ _ _ _ c.loop-bytes.invariant.0 c.in-Ok.ensures.taken) in
    on_err c.from_residual.result front

pub loop-bytes-preserved : goal.loop-bytes-preserved
loop-bytes-preserved g c = grind (arith, common_steps)
