use Rattle.av_data.proofs.DistinctInputs.{inputs_distinct}
use Rattle.av_data.proofs.Told.{one_fault, not_both}
use Rattle.av_data.proofs.laws.stimuli_have_one_fault.Goals as goal

pub returns-clause-one : goal.returns-clause-one
returns-clause-one c = λ m sound first bytes some other h k. one_fault m.inputs (inputs_distinct m sound) first bytes some other h k

pub returns-clause-none : goal.returns-clause-none
returns-clause-none c = λ m sound first bytes stimulus fault h k. not_both m.inputs (inputs_distinct m sound) first bytes stimulus fault h k
