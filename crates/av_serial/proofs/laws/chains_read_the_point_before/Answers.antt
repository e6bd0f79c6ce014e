use Rattle.av_serial.proofs.LastPoints.{point_before}
use Rattle.av_serial.proofs.laws.chains_read_the_point_before.Goals as goal

pub returns : goal.returns
returns c = λ m set z k lined size. point_before m set z lined size k
