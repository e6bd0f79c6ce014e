use Rattle.std.proofs.Common.{sym, ◌∙◌, subst, ◌^◌, arith}
use Rattle.std.proofs.lemmas.Grind.{common_steps}
use Rattle.av_affine.specs.Numbers.{AtMost}
use Rattle.av_affine.proofs.map.Map.apply.Goals as goal

pub returns-clause-small : goal.returns-clause-small
returns-clause-small c = subst (AtMost (2 ^ 25)) (sym (c.from_slice.ensures ∙ c.as_slice.ensures.value)) c.loop-form.invariant.small

pub loop-form-preserved : goal.loop-form-preserved
loop-form-preserved c = grind (arith, common_steps)

pub push-requires : goal.push-requires
push-requires c = grind (arith, common_steps)

pub at-requires-clause-point : goal.at-requires-clause-point
at-requires-clause-point c = grind (arith, common_steps)
