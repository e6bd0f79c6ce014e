use Rattle.av_flat.specs.Trees.{view}
use Rattle.av_kinds.specs.Counters.{count_in}
use Rattle.av_build.specs.inner.Blueprints.{seen, spot_of, lanes_of}
use Rattle.av_build.specs.inner.Sources.{ArePipelineMomentsTo}
use Rattle.av_build.proofs.blueprint.Blueprint.pipeline_moments.Given as goal

abbrev pub invariant-loop-k : goal.invariant-loop-k
invariant-loop-k l = ArePipelineMomentsTo (seen l.self.array) (count_in l.counter) (lanes_of l.self.cells) (spot_of l.spot) l.site.place.site l.pipeline (view l.site.place.tree) l.spot.slots l.order l.k-index l.moments
