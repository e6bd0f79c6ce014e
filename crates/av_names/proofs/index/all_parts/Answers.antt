use Rattle.std.proofs.Common.{ap, ◌∙◌, find}
use Rattle.std.specs.Prelude.{bytes_eq}
use Rattle.av_names.proofs.index.all_parts.Goals as goal

pub parts_over-requires : goal.parts_over-requires
parts_over-requires c = λ name. c.in_ok-table.ensures name ∙ ap (find (λ d. bytes_eq d.name name)) c.requires
