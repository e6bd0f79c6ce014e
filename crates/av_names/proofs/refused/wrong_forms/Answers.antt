use Rattle.std.proofs.Common.{refl, sym, ◌∙◌}
use Rattle.av_tree.specs.Trees.{view_system}
use Rattle.av_names.specs.declared.fault.NameFault.TheVariants as fault
use Rattle.av_names.specs.Arities as arities
use Rattle.av_names.specs.Reductions as reductions
use Rattle.av_names.proofs.Rules.{rule_found, rule_passed}
use Rattle.av_names.proofs.refused.wrong_forms.Goals as goal

pub returns-in-Some-2 : goal.returns-in-Some-2
returns-in-Some-2 c =
    let s = view_system c.args.system.now in
    rule_passed fault.Arity (arities.arity s) _ _ (sym c.in_ok-place.ensures ∙ c.in_default.is)
    (rule_found fault.Projection (reductions.projection s) _ c.in-Some-2.place _ (sym (c.in_ok-place-2.ensures s c.requires.parts) ∙ c.in-Some-2.is) refl)

pub returns-in-Some-case_in_reduce : goal.returns-in-Some-case_in_reduce
returns-in-Some-case_in_reduce c =
    let s = view_system c.args.system.now in
    rule_passed fault.Arity (arities.arity s) _ _ (sym c.in_ok-place.ensures ∙ c.in_default.is)
    (rule_passed fault.Projection (reductions.projection s) _ _ (sym (c.in_ok-place-2.ensures s c.requires.parts) ∙ c.in_default-2.is)
    (rule_found fault.CaseInReduce (reductions.case_in_reduce s) _ c.in-Some-case_in_reduce.place _ (sym (c.case_in_reduce.ensures s c.requires.parts) ∙ c.in-Some-case_in_reduce.is) refl))

pub returns-in-Some-depend_on_reduce : goal.returns-in-Some-depend_on_reduce
returns-in-Some-depend_on_reduce c =
    let s = view_system c.args.system.now in
    rule_passed fault.Arity (arities.arity s) _ _ (sym c.in_ok-place.ensures ∙ c.in_default.is)
    (rule_passed fault.Projection (reductions.projection s) _ _ (sym (c.in_ok-place-2.ensures s c.requires.parts) ∙ c.in_default-2.is)
    (rule_passed fault.CaseInReduce (reductions.case_in_reduce s) _ _ (sym (c.case_in_reduce.ensures s c.requires.parts) ∙ c.in_default-case_in_reduce.is)
    (rule_found fault.DependOnReduce (reductions.depend_on_reduce s) _ c.in-Some-depend_on_reduce.place _ (sym (c.depend_on_reduce.ensures s c.requires.parts) ∙ c.in-Some-depend_on_reduce.is) refl)))

pub returns-in-None : goal.returns-in-None
returns-in-None c =
    let s = view_system c.args.system.now in
    rule_passed fault.Arity (arities.arity s) _ _ (sym c.in_ok-place.ensures ∙ c.in_default.is)
    (rule_passed fault.Projection (reductions.projection s) _ _ (sym (c.in_ok-place-2.ensures s c.requires.parts) ∙ c.in_default-2.is)
    (rule_passed fault.CaseInReduce (reductions.case_in_reduce s) _ _ (sym (c.case_in_reduce.ensures s c.requires.parts) ∙ c.in_default-case_in_reduce.is)
    (rule_passed fault.DependOnReduce (reductions.depend_on_reduce s) _ _ (sym (c.depend_on_reduce.ensures s c.requires.parts) ∙ c.in-None.is) refl)))
