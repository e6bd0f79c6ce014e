use Rattle.std.proofs.Common.{refl, ap, ◌∙◌}
use Rattle.av_names.specs.Found.{first_found}
use Rattle.av_names.specs.Unknowns as rules
use Rattle.av_names.proofs.Reach.{index_same}
use Rattle.av_names.proofs.in_reach.unknown_in_map.Goals as goal

pub returns : goal.returns
returns c =
    let sizes = c.args.sizes.now in
    let set = c.in_ok-names.names in
    c.unknown_in_indices.ensures ∙ ap (first_found (rules.unknown_index sizes set)) c.as_slice-2.ensures
    ∙ ap (λ rule. first_found rule c.args.map.now.results) (index_same sizes sizes set c.args.map.now.names (λ name. refl) (rw c.as_slice.ensures at c.in_ok-names.ensures))
