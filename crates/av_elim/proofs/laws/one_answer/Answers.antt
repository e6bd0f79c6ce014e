use Rattle.av_elim.proofs.Excluding as laws
use Rattle.av_elim.proofs.laws.one_answer.Goals as goal

pub returns-clause-bounds : goal.returns-clause-bounds
returns-clause-bounds c = laws.same_bounds

pub returns-clause-not_both : goal.returns-clause-not_both
returns-clause-not_both c = laws.not_both

pub returns-clause-one_cause : goal.returns-clause-one_cause
returns-clause-one_cause c = laws.one_cause
