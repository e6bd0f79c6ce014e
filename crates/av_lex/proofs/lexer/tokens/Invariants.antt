use Rattle.std.proofs.Common.{length, ◌-◌}
use Rattle.av_base.specs.Tokens.{program_texts}
use Rattle.av_lex.specs.Lexing.{views}
use Rattle.av_lex.specs.inner.Reading.{scanner}
use Rattle.av_base.proofs.Turns.{Goes}
use Rattle.av_lex.proofs.lexer.tokens.Given as goal

abbrev pub invariant-loop-at : goal.invariant-loop-at
invariant-loop-at l = Goes program_texts scanner l.bytes l.at l.place (views l.found)

abbrev pub decreases-loop-at : goal.decreases-loop-at
decreases-loop-at l = length l.bytes - l.at
