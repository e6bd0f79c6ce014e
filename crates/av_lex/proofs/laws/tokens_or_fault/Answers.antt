use Rattle.av_base.specs.Tokens.{start}
use Rattle.av_lex.proofs.Readings.{either, not_both, one_fault}
use Rattle.av_lex.proofs.laws.tokens_or_fault.Goals as goal

pub returns-clause-either : goal.returns-clause-either
returns-clause-either c = either start

pub returns-clause-not_both : goal.returns-clause-not_both
returns-clause-not_both c = not_both start

pub returns-clause-one_fault : goal.returns-clause-one_fault
returns-clause-one_fault c = one_fault start
