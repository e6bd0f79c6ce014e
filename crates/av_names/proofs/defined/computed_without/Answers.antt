use Rattle.std.proofs.Common.{ap, ◌∙◌, map}
use Rattle.std.specs.Prelude.{option_map, find, not}
use Rattle.av_tree.specs.declared.system.Declaration.{Declaration}
use Rattle.av_tree.specs.Rows.{is_index}
use Rattle.av_names.specs.Equations.{declaration_found}
use Rattle.av_names.proofs.Repeats.{told, find_seen, twice_seen}
use Rattle.av_names.proofs.defined.computed_without.Goals as goal

pub returns : goal.returns
returns c =
    let set = c.args.names.now in
    let test = λ (d : Declaration). not (is_index set d.name) in
    let all = c.as_slice.result.now in
    let first = find (λ d. test d.now) all in
    c.declaration_found.ensures ∙ told (λ d. declaration_found d.now) c.first_outside-first.result first c.first_outside-first.ensures
    ∙ twice_seen declaration_found (λ d. d.now) first ∙ ap (option_map declaration_found) (find_seen (λ d. d.now) test all)
    ∙ ap (λ ds. option_map declaration_found (find test ds)) (ap (map (λ d. d.now)) c.as_slice.ensures.value ∙ c.in_ok-computed.ensures)
