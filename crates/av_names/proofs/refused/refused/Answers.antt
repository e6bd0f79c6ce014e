use Rattle.std.proofs.Common.{◌++◌, Some, sym, ◌∙◌, arith}
use Rattle.std.proofs.lemmas.Grind.{common_steps}
use Rattle.av_tree.specs.Trees.{view_system}
use Rattle.av_names.specs.Refusals as rules
use Rattle.av_names.proofs.Rules.{group_found, group_passed}
use Rattle.av_names.proofs.refused.refused.Goals as goal

pub returns-in-Some : goal.returns-in-Some
returns-in-Some c =
    let s = view_system c.args.system.now in
    let sizes = c.args.sizes.now in
    group_found (rules.name_rules s sizes) (rules.equation_rules s ++ (rules.form_rules s ++ rules.limit_rules s sizes)) c.in-Some.fault (sym c.in-Some.is ∙ c.in_ok-fault.ensures)

pub returns-in-Some-2 : goal.returns-in-Some-2
returns-in-Some-2 c =
    let s = view_system c.args.system.now in
    let sizes = c.args.sizes.now in
    group_passed (rules.name_rules s sizes) (rules.equation_rules s ++ (rules.form_rules s ++ rules.limit_rules s sizes)) (Some c.in-Some-2.fault) (sym c.in_default.is ∙ c.in_ok-fault.ensures)
    (group_found (rules.equation_rules s) (rules.form_rules s ++ rules.limit_rules s sizes) c.in-Some-2.fault (sym c.in-Some-2.is ∙ c.in_ok-fault-2.ensures))

pub returns-in-Some-3 : goal.returns-in-Some-3
returns-in-Some-3 c =
    let s = view_system c.args.system.now in
    let sizes = c.args.sizes.now in
    group_passed (rules.name_rules s sizes) (rules.equation_rules s ++ (rules.form_rules s ++ rules.limit_rules s sizes)) (Some c.in-Some-3.fault) (sym c.in_default.is ∙ c.in_ok-fault.ensures)
    (group_passed (rules.equation_rules s) (rules.form_rules s ++ rules.limit_rules s sizes) (Some c.in-Some-3.fault) (sym c.in_default-2.is ∙ c.in_ok-fault-2.ensures)
    (group_found (rules.form_rules s) (rules.limit_rules s sizes) c.in-Some-3.fault (sym c.in-Some-3.is ∙ c.in_ok-fault-3.ensures)))

pub returns : goal.returns
returns c = grind (arith, common_steps)

pub above_limits-requires-clause-small : goal.above_limits-requires-clause-small
above_limits-requires-clause-small c = grind (arith, common_steps)
