use Rattle.av_pipe.proofs.Covering.{all_there, all_once}
use Rattle.av_pipe.proofs.laws.pipelines_are_all.Goals as goal

pub returns-clause-each : goal.returns-clause-each
returns-clause-each c = all_there

pub returns-clause-once : goal.returns-clause-once
returns-clause-once c = all_once
