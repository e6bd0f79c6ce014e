use Rattle.std.proofs.Common.{length}
use Rattle.std.specs.Prelude.{codes}
use Rattle.av_vparse.specs.inner.Lexing.{views}
use Rattle.av_vparse.specs.inner.Reading.{are_at, directed_at}
use Rattle.av_vparse.proofs.Many.{Goes}
use Rattle.av_vparse.proofs.cursor.DesignCursor.ports.Given as goal

abbrev pub invariant-loop-self : goal.invariant-loop-self
invariant-loop-self l = Goes (are_at (codes ",") l.direction) (directed_at l.direction) (views l.fn.self.rest.now) (l.found) (views l.self.rest.now)

abbrev pub decreases-loop-self : goal.decreases-loop-self
decreases-loop-self l = length l.self.rest.now
