use Rattle.std.proofs.Common.{refl, ap, ◌∙◌}
use Rattle.std.specs.Prelude.{option_map}
use Rattle.av_tree.specs.Trees.{view_equation, view_system}
use Rattle.av_names.specs.Found.{sooner, first_of}
use Rattle.av_names.specs.Quantities.{exceeds, of_declaration, of_equation, of_part}
use Rattle.av_names.specs.inner.AtOption.{at_option}
use Rattle.av_names.specs.inner.Seen.{part as part_seen}
use Rattle.av_names.specs.inner.Sums.{counted}
use Rattle.av_names.proofs.Unknown.{indices_are}
use Rattle.av_names.proofs.quantities_in.too_many_indices.Goals as goal

pub returns : goal.returns
returns c =
    let domain = option_map counted c.first_of-domain.result in
    let equation = option_map counted c.first_of-equation.result in
    let part = option_map counted c.first_of-part.result in
    c.number_of.ensures ∙ ap (option_map (λ x. x.number)) (c.sooner-2.ensures ∙ ap (λ x. sooner (λ x. x.place) x part) c.sooner.ensures)
    ∙ indices_are (view_system c.args.system.now) c.args.variables.now c.args.system.now.equations c.requires.variables refl c.args.parts.now domain equation part c.requires.parts
    (c.first_of-domain.ensures (λ d. exceeds 4 (of_declaration d.now)) (λ d fault is. is))
    (rw c.as_slice.ensures at c.first_of-equation.ensures (λ e. at_option (exceeds 4) (of_equation (view_equation e))) (λ e fault is. is))
    (c.first_of-part.ensures (λ p. first_of (λ x. x.place) (exceeds 4) (of_part (part_seen p))) (λ p fault is. is))
