use Rattle.std.proofs.Common.{◌≡◌, length}
use Rattle.av_build.specs.inner.Lanes.{IsValueSite}
use Rattle.av_build.proofs.Pairwise.{ArePairs}
use Rattle.av_build.proofs.blueprint.Blueprint.work.Given as goal

abbrev pub invariant-loop-place : goal.invariant-loop-place
invariant-loop-place l = record {
  one_each : length l.sites ≡ l.place-index;
  each : ArePairs (IsValueSite l.self l.counter l.spot) l.places l.sites;
}
