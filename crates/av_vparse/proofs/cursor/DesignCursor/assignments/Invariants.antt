use Rattle.std.proofs.Common.{length, map}
use Rattle.std.specs.Prelude.{codes}
use Rattle.av_vparse.specs.inner.Lexing.{views}
use Rattle.av_vparse.specs.inner.Reading.{is_at, assigned_at}
use Rattle.av_vparse.specs.Said.{said_item}
use Rattle.av_vparse.proofs.Many.{Goes}
use Rattle.av_vparse.proofs.cursor.DesignCursor.assignments.Given as goal

abbrev pub invariant-loop-self : goal.invariant-loop-self
invariant-loop-self l = Goes (is_at (codes "assign")) (assigned_at) (views l.fn.self.rest.now) (map said_item l.found) (views l.self.rest.now)

abbrev pub decreases-loop-self : goal.decreases-loop-self
decreases-loop-self l = length l.self.rest.now
