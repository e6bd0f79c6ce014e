use Rattle.std.proofs.Common.{length, map}
use Rattle.av_vparse.specs.inner.Lexing.{views}
use Rattle.av_vparse.specs.inner.Reading.{begins_kind, kind_at}
use Rattle.av_vparse.specs.Said.{said_module}
use Rattle.av_vparse.proofs.Many.{Goes}
use Rattle.av_vparse.proofs.cursor.DesignCursor.kinds.Given as goal

abbrev pub invariant-loop-self : goal.invariant-loop-self
invariant-loop-self l = Goes (begins_kind) (kind_at) (views l.fn.self.rest.now) (map said_module l.found) (views l.self.rest.now)

abbrev pub decreases-loop-self : goal.decreases-loop-self
decreases-loop-self l = length l.self.rest.now
