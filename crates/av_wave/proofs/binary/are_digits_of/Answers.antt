use Rattle.std.proofs.Common.{sym, ◌∙◌}
use Rattle.std.proofs.lemmas.Bool.Decides.{Decides-eqb}
use Rattle.std.proofs.lemmas.Slice.Eq.{slice_eq-Decides}
use Rattle.av_wave.proofs.binary.are_digits_of.Goals as goal

pub returns-clause-yes : goal.returns-clause-yes
returns-clause-yes c = λ holds. (c.ranges.number.fits, (slice_eq-Decides Decides-eqb c.args.digits.now c.as_bytes.result.now c.eq.result c.eq.ensures).0 holds ∙ c.as_bytes.ensures ∙ c.new.ensures)

pub returns-clause-no : goal.returns-clause-no
returns-clause-no c = λ e. (slice_eq-Decides Decides-eqb c.args.digits.now c.as_bytes.result.now c.eq.result c.eq.ensures).1 (e ∙ sym c.new.ensures ∙ sym c.as_bytes.ensures)
