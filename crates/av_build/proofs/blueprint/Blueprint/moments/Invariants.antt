use Rattle.av_flat.specs.Trees.{view}
use Rattle.av_kinds.specs.Counters.{count_in}
use Rattle.av_history.specs.Performing.{IsPlaceSource}
use Rattle.av_build.specs.inner.Blueprints.{seen, spot_of, lanes_of}
use Rattle.av_build.specs.inner.Orders.{AreMomentsTo}
use Rattle.av_build.specs.inner.Programmed.{Always}
use Rattle.av_build.proofs.blueprint.Blueprint.moments.Given as goal

abbrev pub invariant-loop-k : goal.invariant-loop-k
invariant-loop-k l = AreMomentsTo (count_in l.counter) l.spot.slots l.order Always (λ z c source. IsPlaceSource (seen l.self.array) (lanes_of l.self.cells) (spot_of l.spot) z c l.site.place.site (view l.site.place.tree) source) l.k-index l.moments
