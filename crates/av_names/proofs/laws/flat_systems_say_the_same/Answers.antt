use Rattle.av_names.proofs.Same.{says_the_same}
use Rattle.av_names.proofs.laws.flat_systems_say_the_same.Goals as goal

-- src/laws.rt:7:1
pub returns : goal.returns
returns c = λ i g. says_the_same i g
