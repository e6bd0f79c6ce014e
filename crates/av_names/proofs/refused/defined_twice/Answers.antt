use Rattle.std.proofs.Common.{[], Some, ap, sym, ◌∙◌, option_map}
use Rattle.av_tree.specs.Trees.{view_system}
use Rattle.av_names.specs.declared.fault.NameFault.TheVariants as fault
use Rattle.av_names.specs.Equations.{second_equation}
use Rattle.av_names.proofs.Lists.{equations_are}
use Rattle.av_names.proofs.Rules.{something, nothing}
use Rattle.av_names.proofs.refused.defined_twice.Goals as goal

pub returns-in_ok-name-in-Some : goal.returns-in_ok-name-in-Some
returns-in_ok-name-in-Some c =
    let s = view_system c.args.system.now in
    let x = c.in-Some.found in
    let seen = (rw c.as_slice.ensures at c.in_ok-found.ensures) ∙ ap (second_equation []) (sym (equations_are c.args.system.now.equations)) in
    ap (λ n. Some (fault.SecondEquation n x.place)) c.in_ok-name-in-Some.ensures
    ∙ ap (option_map (λ x. fault.SecondEquation x.name x.place)) (sym (something x c.in_ok-found.field-0 (second_equation [] s.equations) seen c.in-Some.is))

pub returns-in-None : goal.returns-in-None
returns-in-None c =
    let s = view_system c.args.system.now in
    let seen = (rw c.as_slice.ensures at c.in_ok-found.ensures) ∙ ap (second_equation []) (sym (equations_are c.args.system.now.equations)) in
    ap (option_map (λ x. fault.SecondEquation x.name x.place)) (sym (nothing c.in_ok-found.field-0 (second_equation [] s.equations) seen c.in-None.is))
