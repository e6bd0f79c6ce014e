use Rattle.std.proofs.Common.{◌≡◌, ◌∙◌, ◌+◌, ◌-◌, ◌^◌, min, ap, take, arith}
use Rattle.std.proofs.lemmas.Grind.{common_steps}
use Rattle.av_sched.specs.Parts.{indices_of}
use Rattle.av_sched.proofs.Counting.{capped_power}
use Rattle.av_sched.proofs.part.candidates_of.Goals as goal

pub loop-index-preserved : goal.loop-index-preserved
loop-index-preserved c =
    let i = indices_of c.args.dims.now (take c.loop-k.k c.args.component.now) in
    let more = capped_power c.args.base (i + c.loop-index._index) (2 ^ 128 - 1) c.loop-index.number c.requires.base c.loop-index.invariant in
    let same : (i + c.loop-index._index) + 1 ≡ i + (c.loop-index._index + 1) = omega arith in
    c.saturating_mul-number.ensures ∙ more ∙ ap (λ j. min (c.args.base ^ j) (2 ^ 128 - 1)) same

pub loop-k-preserved : goal.loop-k-preserved
loop-k-preserved c = grind (arith, common_steps)
