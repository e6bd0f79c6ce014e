use Rattle.std.proofs.Common.{◌∙◌, ap, option_map, Bor}
use Rattle.av_tree.specs.declared.system.Declaration.{Declaration}
use Rattle.av_names.specs.Equations.{declaration_found}
use Rattle.av_names.specs.inner.FirstAgain.{first_again}
use Rattle.av_names.proofs.Repeats.{again_alike, variable_again, told}
use Rattle.av_names.proofs.repetitions.repeated_variable.Goals as goal

pub returns : goal.returns
returns c =
    let sizes = c.args.sizes.now in
    let set = c.in_ok-before.before in
    let variables = c.args.variables.now in
    let name = λ (d : Bor Declaration). d.now.name in
    c.declaration_found.ensures ∙ told (λ d. declaration_found d.now) c.in_ok-twice.twice (first_again name set variables) c.in_ok-twice.ensures
    ∙ ap (option_map (λ d. declaration_found d.now)) (again_alike name set sizes variables c.in_ok-before.ensures) ∙ variable_again sizes variables
