use Rattle.av_net.proofs.Once.{one_settled}
use Rattle.av_net.proofs.Fits.{settled_fit}
use Rattle.av_net.proofs.Settles.{has_settled}
use Rattle.av_net.proofs.laws.settled_once.Goals as goal

pub returns : goal.returns
returns c = record { some = has_settled; once = one_settled; fit = settled_fit }
