use Rattle.std.proofs.Common.{◌≡◌}
use Rattle.av_lex.specs.Lexing.{views}
use Rattle.av_parse.specs.inner.Reader.{with_front}
use Rattle.av_parse.specs.inner.IndexReader.{indices_of}
use Rattle.av_parse.proofs.cursor.Cursor.indices.Given as goal

abbrev pub invariant-loop-found : goal.invariant-loop-found
invariant-loop-found l =
    with_front l.found (indices_of l.room (views l.self.rest.now)) ≡ indices_of l.fn.further (views l.fn.self.rest.now)

abbrev pub decreases-loop-found : goal.decreases-loop-found
decreases-loop-found l = l.room
