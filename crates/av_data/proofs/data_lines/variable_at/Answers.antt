use Rattle.std.proofs.Common.{length, refl, ap, ◌∙◌}
use Rattle.std.specs.Prelude.{option_map}
use Rattle.std.proofs.lemmas.Option.{slice_get-map, slice_get_read}
use Rattle.av_flat.specs.Trees.{view_variable}
use Rattle.av_data.proofs.data_lines.variable_at.Goals as goal

pub returns : goal.returns
returns c =
    let vars = c.args.vars.now in
    slice_get-map view_variable vars c.args.place.0 ∙ ap (option_map view_variable) (slice_get_read vars (length vars) c.args.place.0 c.index-vars-place.result refl c.requires c.index-vars-place.is)
