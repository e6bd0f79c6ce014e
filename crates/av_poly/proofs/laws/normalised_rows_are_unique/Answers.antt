use Rattle.av_poly.proofs.Uniqueness.{normalised_once}
use Rattle.av_poly.proofs.laws.normalised_rows_are_unique.Goals as goal

pub returns : goal.returns
returns c = normalised_once
