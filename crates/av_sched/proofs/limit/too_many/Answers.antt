use Rattle.std.proofs.Common.{rules, refl, ◌≡◌, ◌∙◌, ◌≤◌, ◌<◌, ◌^◌, ◌-◌, ◌+◌, ◌*◌, min, ap, subst, length, All, arith}
use Rattle.std.proofs.lemmas.Grind.{common_steps}
use Rattle.av_flat.specs.Trees.{view_system}
use Rattle.av_sched.specs.Choices.{candidates}
use Rattle.av_sched.proofs.Counting.{counted, few_more, many_at}
use Rattle.av_sched.proofs.limit.too_many.Goals as goal
use Rattle.av_base.proofs.Lists.{take_whole}

pub returns-then-number-gt-MOST_CANDIDATES-clause-some : goal.returns-then-number-gt-MOST_CANDIDATES-clause-some
returns-then-number-gt-MOST_CANDIDATES-clause-some c =
    let s = view_system c.args.flat.now in
    let size = c.args.reach.size in
    let n = c.candidates_of-number.result in
    let l : c.loop-k.k < length c.args.components.now = search rules in
    let dims = c.deref.ensures.value ∙ c.in_ok-dims.ensures in
    let own = counted s size c.deref.result.now c.as_slice.result.now (2 * size + 1) n refl dims c.candidates_of-number.ensures in
    let same : n ≡ min (candidates s size c.index-components-k.result) (2 ^ 128 - 1) = own ∙ ap (λ d. min (candidates s size d) (2 ^ 128 - 1)) c.as_slice.ensures in
    many_at s size c.args.components.now c.loop-k.k n c.index-components-k.result c.requires l c.index-components-k.is same (search rules) c.loop-k.invariant

pub loop-k-preserved : goal.loop-k-preserved
loop-k-preserved c =
    let s = view_system c.args.flat.now in
    let size = c.args.reach.size in
    let n = c.candidates_of-number.result in
    let l : c.loop-k.k < length c.args.components.now = search rules in
    let dims = c.deref.ensures.value ∙ c.in_ok-dims.ensures in
    let own = counted s size c.deref.result.now c.as_slice.result.now (2 * size + 1) n refl dims c.candidates_of-number.ensures in
    let same : n ≡ min (candidates s size c.index-components-k.result) (2 ^ 128 - 1) = own ∙ ap (λ d. min (candidates s size d) (2 ^ 128 - 1)) c.as_slice.ensures in
    few_more s size c.args.components.now c.loop-k.k n c.index-components-k.result l c.index-components-k.is same (search rules) c.loop-k.invariant

pub returns-clause-none : goal.returns-clause-none
returns-clause-none c =
    let s = view_system c.args.flat.now in
    subst (All (λ d. candidates s c.args.reach.size d ≤ 4194304)) (take_whole c.args.components.now c.loop-k.k (search rules)) c.loop-k.invariant

pub candidates_of-number-requires-clause-within : goal.candidates_of-number-requires-clause-within
candidates_of-number-requires-clause-within c = grind (arith, common_steps)
