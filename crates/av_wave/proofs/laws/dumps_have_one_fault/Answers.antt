use Rattle.av_wave.proofs.Faults.{fault_once}
use Rattle.av_wave.proofs.laws.dumps_have_one_fault.Goals as goal

pub returns-clause-one : goal.returns-clause-one
returns-clause-one c = fault_once

pub returns-clause-none : goal.returns-clause-none
returns-clause-none c = λ bytes wave line is text fault. fault.none wave is text
