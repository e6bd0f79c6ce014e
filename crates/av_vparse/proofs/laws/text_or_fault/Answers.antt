use Rattle.av_vparse.proofs.Answered.{said_or_faulty, said_apart, one_fault}
use Rattle.av_vparse.proofs.laws.text_or_fault.Goals as goal

pub returns-clause-some : goal.returns-clause-some
returns-clause-some c = said_or_faulty

pub returns-clause-apart : goal.returns-clause-apart
returns-clause-apart c = said_apart

pub returns-clause-one : goal.returns-clause-one
returns-clause-one c = one_fault
