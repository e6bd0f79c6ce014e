use Rattle.std.proofs.Common.{ap, ◌∙◌}
use Rattle.std.specs.Prelude.{option_map, find}
use Rattle.av_tree.specs.Rows.{is_index}
use Rattle.av_tree.specs.Trees.{view_equation}
use Rattle.av_names.specs.Equations.{equation_found}
use Rattle.av_names.specs.inner.Seen.{equations_seen}
use Rattle.av_names.specs.Unknowns.{declared_as}
use Rattle.av_names.proofs.Lists.{input_found}
use Rattle.av_names.proofs.Repeats.{told, find_seen, twice_seen}
use Rattle.av_names.proofs.defined.defines_input.Goals as goal

pub returns : goal.returns
returns c =
    let system = c.args.system.now in
    let set = c.in_ok-inputs.inputs in
    let first = find (λ e. is_index set e.name) c.as_slice-2.result.now in
    c.equation_found.ensures ∙ told (λ e. equation_found (view_equation e)) c.first_among-first.result first c.first_among-first.ensures
    ∙ twice_seen equation_found view_equation first ∙ ap (option_map equation_found) (find_seen view_equation (λ e. is_index set e.name) c.as_slice-2.result.now)
    ∙ ap (λ es. option_map equation_found (find (λ e. is_index set e.name) (equations_seen es))) c.as_slice-2.ensures
    ∙ input_found set (declared_as system.inputs) system.equations (rw c.as_slice.ensures at c.in_ok-inputs.ensures)
