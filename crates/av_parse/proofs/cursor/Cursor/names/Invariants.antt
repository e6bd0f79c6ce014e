use Rattle.std.proofs.Common.{◌≡◌, length}
use Rattle.av_lex.specs.Lexing.{views}
use Rattle.av_parse.specs.inner.Reader.{with_front}
use Rattle.av_parse.specs.inner.IndexReader.{names_of}
use Rattle.av_parse.proofs.cursor.Cursor.names.Given as goal

abbrev pub invariant-loop-room : goal.invariant-loop-room
invariant-loop-room l =
    with_front (views l.found) (names_of l.room (views l.self.rest.now)) ≡ names_of (length (views l.fn.self.rest.now)) (views l.fn.self.rest.now)

abbrev pub decreases-loop-room : goal.decreases-loop-room
decreases-loop-room l = l.room
