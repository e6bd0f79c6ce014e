use Rattle.std.proofs.Common.{◌≡◌, List, length}
use Rattle.av_space.specs.declared.spots.Site.{Site}
use Rattle.av_space.specs.declared.spots.Spot.{Spot}
use Rattle.av_space.specs.Spots.{AreSites}
use Rattle.av_build.proofs.Pairwise.{ArePairs}
use Rattle.av_build.proofs.blueprint.pieces_on.Given as goal

abbrev pub invariant-loop-spot : goal.invariant-loop-spot
invariant-loop-spot l = record {
  one_each : length l.sites ≡ l.spot-index;
  each : ArePairs (λ (spot : Spot) (own : List Site). AreSites l.array spot own) l.spot-items l.sites;
}
