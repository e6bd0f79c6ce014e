use Rattle.std.proofs.Common.{◌<◌, ◌≤◌, ◌∙◌, arith}
use Rattle.std.proofs.lemmas.Grind.{common_steps}
use Rattle.av_flat.proofs.SignVectors.{shorter_vectors}
use Rattle.av_flat.proofs.direction.sign_vectors.Goals as goal

pub longer-requires : goal.longer-requires
longer-requires c =
    let few : c.args.size ≤ 4 = c.requires in
    let l : c.loop-k._k < 4 = (let t = c.loop-k-test.true in omega (arith, few, t)) in
    shorter_vectors c.loop-k._k c.deref.result.now l (c.deref.ensures.value ∙ c.loop-k.invariant)

pub loop-k-preserved : goal.loop-k-preserved
loop-k-preserved c = grind (arith, common_steps)
