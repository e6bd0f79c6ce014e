use Rattle.std.proofs.Common.{rules, ◌<◌, subst, length, List, Vec, Global, Option, IfSome, IfNone, ℕ}
use Rattle.av_flat.specs.Trees.{view_system}
use Rattle.av_sched.specs.inner.FirstChoices.{IsBestChoice, HasNone}
use Rattle.av_sched.proofs.Choosing.{chosen_more, stuck_at, at_index}
use Rattle.av_sched.proofs.choose.choose_all.Goals as goal

pub returns-in-None : goal.returns-in-None
returns-in-None c =
    let s = view_system c.args.flat.now in
    let components = c.args.components.now in
    let l : c.loop-k.k < length components = search rules in
    let at = at_index components c.loop-k.k c.index-components-k.result c.as_slice.result.now l c.index-components-k.is c.as_slice.ensures in
    let h = subst (λ (o : Option (Vec (List _) Global)). IfNone o (HasNone s c.args.reach.size c.as_slice.result.now)) c.in-None.is c.in_ok-choose_one.ensures.none in
    stuck_at s c.args.reach.size components c.loop-k.k c.loop-k.linear.items l c.loop-k.invariant (subst (HasNone s c.args.reach.size) at h)

pub loop-k-preserved : goal.loop-k-preserved
loop-k-preserved c =
    let s = view_system c.args.flat.now in
    let components = c.args.components.now in
    let l : c.loop-k.k < length components = search rules in
    let at = at_index components c.loop-k.k c.index-components-k.result c.as_slice.result.now l c.index-components-k.is c.as_slice.ensures in
    let h = subst (λ (o : Option (Vec (List _) Global)). IfSome o (λ best. IsBestChoice s c.args.reach.size c.as_slice.result.now c.loop-k.linear.items best.items)) c.in-Some.is c.in_ok-choose_one.ensures.some in
    chosen_more s c.args.reach.size components c.loop-k.k c.loop-k.linear.items c.in-Some.best.items c.requires.components l c.loop-k.invariant
    (subst (λ (xs : List ℕ). IsBestChoice s c.args.reach.size xs c.loop-k.linear.items c.in-Some.best.items) at h)
