use Rattle.std.proofs.Common.{◌∙◌, ◌++◌, ◌∷◌, [], ap, pos}
use Rattle.av_sched.proofs.Inside.{zeros_more}
use Rattle.av_sched.proofs.leaf.no_offsets.Goals as goal

pub loop-k-preserved : goal.loop-k-preserved
loop-k-preserved c = c.in_ok-push.ensures.ok ∙ ap (λ xs. xs ++ pos 0 ∷ []) c.loop-k.invariant ∙ zeros_more c.loop-k._k
