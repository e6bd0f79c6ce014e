use Rattle.av_names.proofs.AcceptedSystems.{accepted_is_regular}
use Rattle.av_names.proofs.laws.accepted_systems_are_regular.Goals as goal

-- src/laws.rt:26:1
pub returns : goal.returns
returns c = λ s words width p a. accepted_is_regular s words width p a
