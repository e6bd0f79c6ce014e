use Rattle.av_data.proofs.Outcome.{readable}
use Rattle.av_data.proofs.OneData.{one_fault, not_both}
use Rattle.av_data.proofs.laws.data_have_one_fault.Goals as goal

pub returns-clause-one : goal.returns-clause-one
returns-clause-one c = λ s of first bytes some other h k. one_fault s (readable s of) first bytes some other h k

pub returns-clause-none : goal.returns-clause-none
returns-clause-none c = λ s of first bytes x fault h k. not_both s (readable s of) first bytes x fault h k
