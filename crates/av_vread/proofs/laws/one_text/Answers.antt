use Rattle.av_vread.proofs.RoundTrip.{one_text}
use Rattle.av_vread.proofs.laws.one_text.Goals as goal

pub returns : goal.returns
returns c = one_text
