use Rattle.std.proofs.Common.{refl, ap, ◌∙◌}
use Rattle.std.specs.Prelude.{option_map}
use Rattle.av_tree.specs.Trees.{view_system}
use Rattle.av_names.specs.Found.{sooner, first_found}
use Rattle.av_names.specs.inner.Seen.{found}
use Rattle.av_names.specs.Unknowns.{unknown_side}
use Rattle.av_names.proofs.Unknown.{index_is}
use Rattle.av_names.proofs.unknown_names.unknown_index_among.Goals as goal

pub returns : goal.returns
returns c =
    let outer = option_map found c.unknown_in_sizes-outer.result in
    let domain = option_map found c.in_ok-domain.domain in
    let right = option_map found c.in_ok-right.right in
    c.sooner-2.ensures ∙ ap (sooner (λ f. f.place) outer) c.sooner.ensures
    ∙ index_is (view_system c.args.system.now) c.args.variables.now c.args.system.now.equations c.requires.variables refl c.args.sizes.now outer domain right
    c.requires.sizes c.unknown_in_sizes-outer.ensures (c.in_ok-domain.ensures (λ d. first_found (unknown_side c.args.sizes.now d.now.domain.names) d.now.domain.constraints) (λ d fault is. is)) c.in_ok-right.ensures
