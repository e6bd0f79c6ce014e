use Rattle.std.proofs.Common.{rules, ◌<◌, ◌∙◌, length}
use Rattle.av_flat.proofs.NodeNumbers.{viewed_at}
use Rattle.av_flat.proofs.nodes.variable_of.Goals as goal

pub returns : goal.returns
returns c =
    let l : c.place_of-place.result.0 < length c.as_slice-vars.result.now = search rules in
    c.place_of-place.ensures.is ∙ viewed_at c.args.flat.now c.as_slice-vars.result.now c.place_of-place.result.0 c.index-vars-place.result c.as_slice-vars.ensures l c.index-vars-place.is
