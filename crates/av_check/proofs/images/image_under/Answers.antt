use Rattle.std.proofs.Common.{◌≤◌, ◌<◌, ◌∙◌, length, rules, arith}
use Rattle.std.proofs.lemmas.Grind.{common_steps}
use Rattle.av_check.proofs.Reaching.{way_limits, way_next, way_done, way_ended}
use Rattle.av_check.proofs.images.image_under.Goals as goal

pub composed-whole-requires-clause-limits : goal.composed-whole-requires-clause-limits
composed-whole-requires-clause-limits c =
    let l : c.loop-outer.outer-index < length c.args.under.now = search rules in
    way_limits c.args.own.now c.args.under.now c.args.z.now c.loop-outer.whole c.loop-outer.outer-index c.outer-item.result l c.outer-item.is c.loop-outer.invariant

pub loop-outer-preserved : goal.loop-outer-preserved
loop-outer-preserved c =
    let l : c.loop-outer.outer-index < length c.args.under.now = search rules in
    way_next c.args.own.now c.args.under.now c.args.z.now c.loop-outer.whole c.loop-outer.outer-index c.outer-item.result l c.outer-item.is c.loop-outer.invariant c.composed-whole.result c.composed-whole.ensures

pub returns-clause-image : goal.returns-clause-image
returns-clause-image c =
    let l : length c.args.under.now ≤ c.loop-outer.outer-index = search rules in
    let ended = way_ended c.args.own.now c.args.under.now c.args.z.now c.loop-outer.whole c.loop-outer.outer-index l c.loop-outer.invariant in
    c.apply.ensures.image ∙ way_done c.args.own.now c.args.under.now c.args.z.now c.loop-outer.whole c.requires.stands.chain ended

pub apply-requires-clause-fits : goal.apply-requires-clause-fits
apply-requires-clause-fits c = grind (arith, common_steps)
