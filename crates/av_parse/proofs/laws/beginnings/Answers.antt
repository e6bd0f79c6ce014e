use Rattle.av_parse.proofs.FaultPlaces.{program_beginnings}
use Rattle.av_parse.proofs.laws.beginnings.Goals as goal

pub returns : goal.returns
returns c = program_beginnings
