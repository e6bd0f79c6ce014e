use Rattle.av_base.specs.Tokens.{start}
use Rattle.av_lex.proofs.Readings.{one_list}
use Rattle.av_lex.proofs.laws.one_token_list.Goals as goal

pub returns : goal.returns
returns c = one_list start
