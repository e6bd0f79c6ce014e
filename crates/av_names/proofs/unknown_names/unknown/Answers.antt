use Rattle.std.proofs.Common.{refl, ap, ◌∙◌}
use Rattle.std.specs.Prelude.{not, option_map}
use Rattle.av_tree.specs.Trees.{view_system}
use Rattle.av_tree.specs.Rows.{is_index}
use Rattle.av_names.specs.Found.{sooner, found_where}
use Rattle.av_names.specs.inner.Seen.{found, part}
use Rattle.av_names.specs.Unknowns.{unknown_variable}
use Rattle.av_names.proofs.Unknown.{unknown_is, names_all}
use Rattle.av_names.proofs.unknown_names.unknown.Goals as goal

pub returns : goal.returns
returns c =
    let set = c.in_ok-known.known in
    let equation = option_map found c.first_of-equation.result in
    let reference = option_map found c.first_of-reference.result in
    let index = option_map found c.in_ok-index.index in
    c.sooner-2.ensures ∙ ap (sooner (λ f. f.place) equation) c.sooner.ensures
    ∙ unknown_is (view_system c.args.system.now) c.args.variables.now c.args.system.now.equations c.requires.variables refl c.args.parts.now set equation reference index
    c.requires.parts (λ name. c.in_ok-known.ensures name ∙ ap (λ names. is_index names name) (names_all c.args.variables.now)) (rw c.as_slice.ensures at c.first_of-equation.ensures (λ e. found_where (not (is_index set e.name)) e.name e.place) (λ e fault is. is))
    (c.first_of-reference.ensures (λ p. unknown_variable set (part p).expression) (λ p fault is. is)) c.in_ok-index.ensures
