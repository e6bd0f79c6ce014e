use Rattle.std.proofs.Common.{ap, sym, ◌∙◌}
use Rattle.std.specs.Prelude.{bytes_eq}
use Rattle.std.specs.Map.{lookup}
use Rattle.av_tree.specs.Domains.{variables}
use Rattle.av_tree.specs.Trees.{view_system}
use Rattle.av_names.specs.Flattened.{place_of}
use Rattle.av_names.proofs.Summed.{place_there, place_missing}
use Rattle.av_names.proofs.flatten.place.Goals as goal

pub returns-in-Some : goal.returns-in-Some
returns-in-Some c =
    let t = c.args.tables.now in
    let text = c.as_bytes.result.now in
    let vs = variables (view_system t.system.now) in
    place_there (lookup (bytes_eq text) t.places) t.count c.in-Some.place (place_of vs text) (sym c.get.ensures ∙ c.in-Some.is) (c.requires.places text) ∙ ap (place_of vs) (c.as_bytes.ensures.value ∙ c.as_str.ensures)

pub returns-in-None : goal.returns-in-None
returns-in-None c =
    let t = c.args.tables.now in
    let text = c.as_bytes.result.now in
    let vs = variables (view_system t.system.now) in
    place_missing (lookup (bytes_eq text) t.places) t.count (place_of vs text) (sym c.get.ensures ∙ c.in-None.is) (c.requires.places text) ∙ ap (place_of vs) (c.as_bytes.ensures.value ∙ c.as_str.ensures)
