use Rattle.std.proofs.Common.{ap, ◌∙◌}
use Rattle.std.specs.Prelude.{unwrap_or}
use Rattle.av_space.proofs.array.Array.line_length.Goals as goal

pub returns-in-Some : goal.returns-in-Some
returns-in-Some c = ap (λ o. unwrap_or o 0) c.in-Some.ensures.value ∙ c.requires.array.lengths (record { cell = c.args.cell; helper = c.args.helper })

pub returns-in-None : goal.returns-in-None
returns-in-None c = ap (λ o. unwrap_or o 0) c.in-None.ensures.value ∙ c.requires.array.lengths (record { cell = c.args.cell; helper = c.args.helper })
