use Rattle.std.proofs.Common.{◌≡◌}
use Rattle.av_lex.specs.Lexing.{views}
use Rattle.av_tree.specs.Trees.{view}
use Rattle.av_parse.specs.inner.ExpressionReader.{readers, postfix_tail_of}
use Rattle.av_parse.proofs.cursor.Cursor.postfix_tail.Given as goal

abbrev pub invariant-loop-self : goal.invariant-loop-self
invariant-loop-self l =
    postfix_tail_of (readers l.room) (view l.tree) (views l.self.rest.now) ≡ postfix_tail_of (readers l.fn.levels) (view l.fn.body) (views l.fn.self.rest.now)

abbrev pub decreases-loop-self : goal.decreases-loop-self
decreases-loop-self l = l.room
