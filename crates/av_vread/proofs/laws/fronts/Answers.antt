use Rattle.av_vparse.proofs.FrontTexts.{front_begins, begins_front}
use Rattle.av_vread.proofs.laws.fronts.Goals as goal

pub returns-clause-begin : goal.returns-clause-begin
returns-clause-begin c = front_begins

pub returns-clause-all : goal.returns-clause-all
returns-clause-all c = begins_front
