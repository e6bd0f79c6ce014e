use Rattle.av_vparse.proofs.Answered.{answered_found, answered_fault}
use Rattle.av_vparse.proofs.parsing.parse.Goals as goal

pub returns-clause-found : goal.returns-clause-found
returns-clause-found c = answered_found c.args.bytes.now c.read.result c.read.ensures

pub returns-clause-fault : goal.returns-clause-fault
returns-clause-fault c = answered_fault c.args.bytes.now c.read.result c.read.ensures
