use Rattle.std.proofs.Common.{ap, ◌∙◌}
use Rattle.std.specs.Prelude.{option_map}
use Rattle.av_names.specs.Found.{first_found}
use Rattle.av_names.specs.inner.Seen.{found}
use Rattle.av_names.specs.Unknowns as rules
use Rattle.av_names.specs.Written.{behind}
use Rattle.av_names.proofs.Reach.{indices_written}
use Rattle.av_names.proofs.in_reach.unknown_in_access.Goals as goal

pub returns-in-Indices : goal.returns-in-Indices
returns-in-Indices c = λ k same.
    indices_written c.args.sizes.now c.args.context.now k.names c.in-Indices.entries (behind k c.args.at.now) (option_map found c.unknown_in_indices.result) same (ap (behind k) c.in-Indices.is)
    (c.unknown_in_indices.ensures ∙ ap (first_found (rules.unknown_index c.args.sizes.now c.args.context.now)) c.as_slice.ensures)
