use Rattle.av_wave.proofs.Faults.{texts_once}
use Rattle.av_wave.proofs.laws.dumps_are_unique.Goals as goal

pub returns : goal.returns
returns c = texts_once
