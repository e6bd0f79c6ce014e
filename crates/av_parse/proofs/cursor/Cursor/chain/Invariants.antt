use Rattle.std.proofs.Common.{◌≡◌, length}
use Rattle.av_lex.specs.Lexing.{views}
use Rattle.av_parse.specs.inner.Reader.{with_front}
use Rattle.av_parse.specs.inner.IndexReader.{chain_of}
use Rattle.av_parse.proofs.cursor.Cursor.chain.Given as goal

abbrev pub invariant-loop-room : goal.invariant-loop-room
invariant-loop-room l =
    with_front l.found (chain_of l.room l.lefts (views l.self.rest.now))
    ≡ with_front l.fn.found (chain_of (length (views l.fn.self.rest.now)) l.fn.first (views l.fn.self.rest.now))

abbrev pub decreases-loop-room : goal.decreases-loop-room
decreases-loop-room l = l.room
