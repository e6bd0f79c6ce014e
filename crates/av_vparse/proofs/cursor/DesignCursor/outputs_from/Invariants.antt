use Rattle.std.proofs.Common.{[], ◌∷◌, length}
use Rattle.std.specs.Prelude.{codes}
use Rattle.av_vparse.specs.inner.Lexing.{views}
use Rattle.av_vparse.specs.inner.Reading.{is_at, directed_at}
use Rattle.av_vparse.proofs.Many.{GoesBehind}
use Rattle.av_vparse.proofs.cursor.DesignCursor.outputs_from.Given as goal

abbrev pub invariant-loop-self : goal.invariant-loop-self
invariant-loop-self l = GoesBehind (is_at (codes ",")) (directed_at (codes "output")) (l.fn.first ∷ []) (views l.fn.self.rest.now) l.found (views l.self.rest.now)

abbrev pub decreases-loop-self : goal.decreases-loop-self
decreases-loop-self l = length l.self.rest.now
