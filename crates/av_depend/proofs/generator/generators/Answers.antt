use Rattle.std.proofs.Common.{rules, ◌≡◌, ◌∙◌, ◌<◌, ◌≤◌, sym, length, [], subst, ◌+◌, ◌++◌, ◌∷◌}
use Rattle.std.specs.Prelude.{slice_index_or}
use Rattle.av_depend.specs.inner.Generating.{AreGeneratorsTo}
use Rattle.av_depend.proofs.Mirrors.{listed_skip, listed_more, listed_all}
use Rattle.av_depend.proofs.generator.generators.Goals as goal
use Rattle.av_base.proofs.Lists.{same_default}

pub loop-k-preserved-then-is_middle : goal.loop-k-preserved-then-is_middle
loop-k-preserved-then-is_middle c =
    let l : c.loop-k.k < length c.args.points.now = search rules in
    listed_skip c.args.set.now c.args.points.now c.requires.all c.loop-k.k l c.loop-k.list (c.is_middle.ensures.yes c.if-is_middle.true) c.loop-k.invariant

pub loop-k-preserved : goal.loop-k-preserved
loop-k-preserved c =
    let l : c.loop-k.k < length c.args.points.now = search rules in
    let points = c.args.points.now in
    let p = c.index-points-k.result in
    let e : c.push.new.self ≡ c.loop-k.list ++ c.copy_point.result ∷ [] = search rules in
    let at : c.copy_point.result ≡ slice_index_or points c.loop-k.k [] = c.copy_point.ensures ∙ c.index-points-k.is ∙ same_default points c.loop-k.k p [] l in
    subst (AreGeneratorsTo c.args.set.now points (c.loop-k.k + 1)) (sym e) (listed_more c.args.set.now c.args.points.now c.requires.all c.loop-k.k l c.loop-k.list c.copy_point.result at (λ m. let t = c.is_middle.ensures.no m in let f = c.if-is_middle.false in cc) c.loop-k.invariant)

pub returns : goal.returns
returns c =
    let over : length c.args.points.now ≤ c.loop-k.k = search rules in
    listed_all c.args.set.now c.args.points.now c.loop-k.k c.loop-k.list c.requires.all over c.loop-k.invariant
