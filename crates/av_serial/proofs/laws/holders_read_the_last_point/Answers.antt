use Rattle.av_serial.proofs.LastPoints.{last_point, no_point}
use Rattle.av_serial.proofs.laws.holders_read_the_last_point.Goals as goal

pub returns-clause-last : goal.returns-clause-last
returns-clause-last c = λ m set z k lined size last. last_point m set z lined size k last

pub returns-clause-none : goal.returns-clause-none
returns-clause-none c = λ m set z lined size none. no_point m set z lined size none
