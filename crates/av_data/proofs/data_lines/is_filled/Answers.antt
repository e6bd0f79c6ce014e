use Rattle.std.proofs.Common.{not, ap, ◌∙◌}
use Rattle.av_data.specs.Lines.{uncommented}
use Rattle.av_data.specs.Reading.{first_part, is_empty}
use Rattle.av_data.proofs.Entered.{filled_is}
use Rattle.av_data.proofs.data_lines.is_filled.Goals as goal

pub returns : goal.returns
returns c = ap not c.is_empty.ensures ∙ ap (λ t. not (is_empty (first_part t))) c.uncommented.ensures ∙ filled_is (uncommented c.args.line.now)
