use Rattle.std.proofs.Common.{length, ◌-◌}
use Rattle.av_net.specs.Lexemes.{design_texts}
use Rattle.av_vparse.specs.inner.Lexing.{scanner, views}
use Rattle.av_base.proofs.Turns.{Goes}
use Rattle.av_vparse.proofs.lexer.lex.Given as goal

abbrev pub invariant-loop-at : goal.invariant-loop-at
invariant-loop-at l = Goes design_texts scanner l.bytes l.at l.place (views l.found)

abbrev pub decreases-loop-at : goal.decreases-loop-at
decreases-loop-at l = length l.bytes - l.at
