use Rattle.std.proofs.Common.{ap, sym, ◌∙◌}
use Rattle.std.proofs.lemmas.Iterator.Adapters.{option_map_id}
use Rattle.av_names.specs.Found.{first_place}
use Rattle.av_names.specs.Reductions.{part_case}
use Rattle.av_names.specs.inner.Seen.{part}
use Rattle.av_names.proofs.Sooner.{first_map}
use Rattle.av_names.proofs.reductions_in.case_in_reduce.Goals as goal

pub returns : goal.returns
returns c s parts_are =
    sym (option_map_id c.first_of.result) ∙ c.first_of.ensures (λ p. part_case (part p)) (λ p fault is. option_map_id fault ∙ is)
    ∙ sym (first_map (λ place. place) part_case part c.args.parts.now) ∙ ap (first_place part_case) parts_are
