use Rattle.std.proofs.Common.{refl, ap, ◌∙◌}
use Rattle.std.specs.Prelude.{option_map}
use Rattle.av_tree.specs.Trees.{view_system, view_equation}
use Rattle.av_names.specs.Found.{sooner, first_found}
use Rattle.av_names.specs.inner.AtOption.{at_option}
use Rattle.av_names.specs.Repetitions.{repeated_index, of_declaration, of_equation, of_part}
use Rattle.av_names.specs.inner.Seen.{found, part}
use Rattle.av_names.proofs.Lists.{repeated_is}
use Rattle.av_names.proofs.repetitions.repeated_among.Goals as goal

pub returns : goal.returns
returns c =
    let system = c.args.system.now in
    let size = option_map found c.in_ok-size.size in
    let variable = option_map found c.in_ok-variable.variable in
    let rule = repeated_index c.args.sizes.now in
    let domain = first_found (λ d. rule (of_declaration d.now)) c.args.variables.now in
    let equation = first_found (λ e. at_option rule (of_equation (view_equation e))) system.equations in
    let part = first_found (λ p. at_option rule (of_part (part p))) c.args.parts.now in
    c.sooner-2.ensures ∙ ap (sooner (λ f. f.place) size) (c.sooner.ensures ∙ ap (sooner (λ f. f.place) variable) (rw c.as_slice.ensures at c.in_ok-index.ensures))
    ∙ repeated_is (view_system system) c.args.variables.now system.equations c.args.parts.now c.args.sizes.now size variable domain equation part
    c.requires.variables refl c.requires.parts c.requires.sizes c.in_ok-size.ensures (rw c.as_slice-names.ensures at c.in_ok-variable.ensures)
    refl refl refl
