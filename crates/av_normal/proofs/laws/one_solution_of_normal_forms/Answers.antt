use Rattle.av_normal.proofs.Systems.{same_inputs, one_solution}
use Rattle.av_normal.proofs.laws.one_solution_of_normal_forms.Goals as goal

pub returns-clause-inputs : goal.returns-clause-inputs
returns-clause-inputs c = same_inputs

pub returns-clause-one : goal.returns-clause-one
returns-clause-one c = one_solution
