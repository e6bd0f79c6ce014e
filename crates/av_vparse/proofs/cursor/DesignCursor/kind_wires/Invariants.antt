use Rattle.std.proofs.Common.{length, map}
use Rattle.std.specs.Prelude.{codes}
use Rattle.av_vparse.specs.inner.Lexing.{views}
use Rattle.av_vparse.specs.inner.Reading.{is_at, kind_wire_at}
use Rattle.av_vparse.specs.Said.{said_declaration}
use Rattle.av_vparse.proofs.Many.{Goes}
use Rattle.av_vparse.proofs.cursor.DesignCursor.kind_wires.Given as goal

abbrev pub invariant-loop-self : goal.invariant-loop-self
invariant-loop-self l = Goes (is_at (codes "wire")) (kind_wire_at) (views l.fn.self.rest.now) (map said_declaration l.found) (views l.self.rest.now)

abbrev pub decreases-loop-self : goal.decreases-loop-self
decreases-loop-self l = length l.self.rest.now
