use Rattle.av_history.proofs.Problems.{from_start}
use Rattle.av_history.proofs.laws.arrays_have_solutions.Goals as goal

pub returns : goal.returns
returns c = from_start
