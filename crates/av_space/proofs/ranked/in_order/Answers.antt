use Rattle.std.proofs.Common.{rules, ◌∙◌, List, map, ap, subst, arith}
use Rattle.std.specs.List.Sorted.{IsPermutation}
use Rattle.std.proofs.lemmas.List.{take_all}
use Rattle.av_space.specs.declared.ranked.Ranked.{Ranked}
use Rattle.av_space.specs.inner.Laying.{ranked_at}
use Rattle.std.proofs.lemmas.List.Sorted.{IsNonDecreasingBy-from_sort_by_key}
use Rattle.std.proofs.lemmas.Grind.{common_steps}
use Rattle.av_space.proofs.ranked.in_order.Goals as goal

pub returns : goal.returns
returns c = (subst (λ (xs : List Ranked). IsPermutation xs c.sort_unstable_by_key.new.self.items) (c.loop-point.invariant ∙ ap (map (ranked_at c.args.placement.now)) (take_all c.loop-point.point-index c.args.points.now c.loop-point-test.false)) c.sort_unstable_by_key.ensures.permutation, IsNonDecreasingBy-from_sort_by_key (λ r. r.rank) c.sort_unstable_by_key.new.self.items c.sort_unstable_by_key.ensures.sorted (λ a r q k. search rules))

pub loop-point-preserved : goal.loop-point-preserved
loop-point-preserved c = grind (arith, common_steps)
