use Rattle.av_parse.proofs.OneTree.{one_tree_only}
use Rattle.av_parse.proofs.Parsed.{one_text}
use Rattle.av_parse.proofs.laws.one_program.Goals as goal

pub returns-clause-tokens : goal.returns-clause-tokens
returns-clause-tokens c = one_tree_only

pub returns-clause-text : goal.returns-clause-text
returns-clause-text c = one_text
