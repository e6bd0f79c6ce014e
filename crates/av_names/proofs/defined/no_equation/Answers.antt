use Rattle.std.proofs.Common.{◌≡◌, ◌∙◌, ◌++◌, refl, option_map}
use Rattle.std.specs.Prelude.{find, not}
use Rattle.std.proofs.lemmas.Result.{IfOk-weaker}
use Rattle.av_tree.specs.Rows.{is_index}
use Rattle.av_tree.specs.Trees.{view_system}
use Rattle.av_names.specs.Equations as rules
use Rattle.av_names.specs.inner.Seen.{found}
use Rattle.av_names.proofs.Lists.{no_equation_found}
use Rattle.av_names.proofs.defined.no_equation.Goals as goal

pub returns : goal.returns
returns c =
    let system = c.args.system.now in
    let names = c.in_ok-names.names in
    let computed = system.outputs ++ system.locals in
    IfOk-weaker c.computed_without.result (λ first. option_map found first ≡ option_map rules.declaration_found (find (λ d. not (is_index names d.name)) computed))
    (λ first. option_map found first ≡ rules.no_equation (view_system system))
    (λ first is. is ∙ no_equation_found names system.equations computed computed (rw c.as_slice.ensures at c.in_ok-names.ensures) refl) c.computed_without.ensures
