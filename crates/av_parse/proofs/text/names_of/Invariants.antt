use Rattle.std.proofs.Common.{◌≡◌, take}
use Rattle.av_lex.specs.Lexing.{views}
use Rattle.av_tree.specs.IndexGrammar.{texts}
use Rattle.av_parse.proofs.text.names_of.Given as goal

abbrev pub invariant-loop-token : goal.invariant-loop-token
invariant-loop-token l = l.names ≡ texts (views (take l.token-index l.tokens))
