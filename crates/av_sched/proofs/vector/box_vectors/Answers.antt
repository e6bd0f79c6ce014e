use Rattle.std.proofs.Common.{subst, List, arith}
use Rattle.std.proofs.lemmas.Grind.{common_steps}
use Rattle.av_tree.specs.Points.{Point}
use Rattle.av_sched.specs.inner.Vectors.{ArePrepended}
use Rattle.av_sched.proofs.Vectoring.{more_vectors}
use Rattle.av_sched.proofs.vector.box_vectors.Goals as goal

pub loop-k-preserved : goal.loop-k-preserved
loop-k-preserved c =
    more_vectors c.args.reach.size c.loop-k._k c.loop-k.all.items c.in_ok-all.all.items c.loop-k.invariant
    (subst (λ (xs : List Point). ArePrepended xs c.args.reach.size c.in_ok-all.all.items) c.deref.ensures.value c.in_ok-all.ensures)

pub loop-k-init : goal.loop-k-init
loop-k-init c = grind (arith, common_steps)

pub returns : goal.returns
returns c = grind (arith, common_steps)
