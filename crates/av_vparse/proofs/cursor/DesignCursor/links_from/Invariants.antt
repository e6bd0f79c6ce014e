use Rattle.std.proofs.Common.{[], ◌∷◌, length, map}
use Rattle.std.specs.Prelude.{codes}
use Rattle.av_vparse.specs.inner.Lexing.{views}
use Rattle.av_vparse.specs.inner.Reading.{is_at, next_link_at}
use Rattle.av_vparse.specs.Said.{said_link}
use Rattle.av_vparse.proofs.Many.{GoesBehind}
use Rattle.av_vparse.proofs.cursor.DesignCursor.links_from.Given as goal

abbrev pub invariant-loop-self : goal.invariant-loop-self
invariant-loop-self l = GoesBehind (is_at (codes ",")) (next_link_at) (said_link l.fn.first ∷ []) (views l.fn.self.rest.now) (map said_link l.found) (views l.self.rest.now)

abbrev pub decreases-loop-self : goal.decreases-loop-self
decreases-loop-self l = length l.self.rest.now
