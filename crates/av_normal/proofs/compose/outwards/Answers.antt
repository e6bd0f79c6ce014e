use Rattle.std.proofs.Common.{◌<◌, length, rules, arith}
use Rattle.std.proofs.lemmas.Result.{err_from_is_err_and}
use Rattle.std.proofs.lemmas.Grind.{common_steps}
use Rattle.av_normal.proofs.Chains.{next_of, one_chain, one_more, refused}
use Rattle.av_normal.proofs.compose.outwards.Goals as goal

pub step-requires : goal.step-requires
step-requires c =
    let l : c.loop-outer.outer-index < length c.args.under.now = search rules in
    one_chain c.args.own.now c.args.under.now c.loop-outer.whole c.outer-item.result _ (next_of c.args.own.now c.args.under.now c.loop-outer.whole c.loop-outer.outer-index c.outer-item.result l c.outer-item.is c.loop-outer.invariant)

pub loop-outer-preserved : goal.loop-outer-preserved
loop-outer-preserved c =
    let l : c.loop-outer.outer-index < length c.args.under.now = search rules in
    one_more c.args.own.now c.args.under.now c.loop-outer.whole c.outer-item.result _ (next_of c.args.own.now c.args.under.now c.loop-outer.whole c.loop-outer.outer-index c.outer-item.result l c.outer-item.is c.loop-outer.invariant)
    c.in_ok-whole.whole c.in_ok-whole.ensures.composed c.in_ok-whole.ensures.limits c.in_ok-whole.ensures.narrow

pub returns-in_err-whole-clause-first : goal.returns-in_err-whole-clause-first
returns-in_err-whole-clause-first c =
    let l : c.loop-outer.outer-index < length c.args.under.now = search rules in
    let p = err_from_is_err_and c.from_residual.result c.from_residual.ensures.1 in
    rw (p.1, p.2) (refused c.args.own.now c.args.under.now c.loop-outer.whole c.outer-item.result _ (next_of c.args.own.now c.args.under.now c.loop-outer.whole c.loop-outer.outer-index c.outer-item.result l c.outer-item.is c.loop-outer.invariant)
    c.in_err-whole.field-0.0 c.in_err-whole.ensures.wide)

pub returns-clause-narrow : goal.returns-clause-narrow
returns-clause-narrow c = grind (arith, common_steps)

pub returns-clause-composed : goal.returns-clause-composed
returns-clause-composed c = grind (arith, common_steps)
