use Rattle.av_history.proofs.Problems.{each_problem}
use Rattle.av_history.proofs.laws.each_problem_has_its_solution.Goals as goal

pub returns : goal.returns
returns c = each_problem
