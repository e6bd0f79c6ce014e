use Rattle.av_vparse.proofs.Answered.{one_said}
use Rattle.av_vparse.proofs.laws.at_most_one_text.Goals as goal

pub returns : goal.returns
returns c = λ bytes some other line next s t. one_said bytes some other line next s t
