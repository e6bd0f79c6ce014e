use Rattle.std.proofs.Common.{◌≡◌, length}
use Rattle.av_lex.specs.Lexing.{views}
use Rattle.av_tree.specs.Trees.{view_equations}
use Rattle.av_parse.specs.inner.Reader.{with_front}
use Rattle.av_parse.specs.inner.ProgramReader.{equations_of}
use Rattle.av_parse.proofs.cursor.Cursor.equations.Given as goal

abbrev pub invariant-loop-room : goal.invariant-loop-room
invariant-loop-room l =
    with_front (view_equations l.found) (equations_of l.fn.levels l.room (views l.self.rest.now)) ≡ equations_of l.fn.levels (length (views l.fn.self.rest.now)) (views l.fn.self.rest.now)

abbrev pub decreases-loop-room : goal.decreases-loop-room
decreases-loop-room l = l.room
