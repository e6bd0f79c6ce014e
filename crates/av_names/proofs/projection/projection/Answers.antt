use Rattle.std.proofs.Common.{◌≡◌, ap, sym, ◌∙◌, map, option_map, Option}
use Rattle.std.proofs.lemmas.Iterator.Adapters.{option_map_id}
use Rattle.std.proofs.lemmas.Result.{IfOk-weaker}
use Rattle.av_base.specs.declared.place.Place.{Place}
use Rattle.av_tree.specs.Trees.{System}
use Rattle.av_names.specs.declared.part.Part.{Part}
use Rattle.av_names.specs.Found.{first_place}
use Rattle.av_names.specs.Parts.{parts}
use Rattle.av_names.specs.Reductions.{part_projection, projection}
use Rattle.av_names.specs.inner.Seen.{part}
use Rattle.av_names.proofs.Sooner.{first_map}
use Rattle.av_names.proofs.projection.projection.Goals as goal

pub returns : goal.returns
returns c =
    let rule = λ (p : Part). part_projection (part p) in
    IfOk-weaker c.try_first_of.result
    (λ first. (find : Part → Option Place) → ((p : Part) (fault : Option Place) → fault ≡ rule p → option_map (λ place. place) fault ≡ find p)
    → option_map (λ place. place) first ≡ first_place find c.args.parts.now)
    (λ first. (s : System) → map part c.args.parts.now ≡ parts s → first ≡ projection s)
    (λ first are s parts_are. sym (option_map_id first) ∙ are rule (λ p fault is. option_map_id fault ∙ is)
    ∙ sym (first_map (λ place. place) part_projection part c.args.parts.now) ∙ ap (first_place part_projection) parts_are) c.try_first_of.ensures
