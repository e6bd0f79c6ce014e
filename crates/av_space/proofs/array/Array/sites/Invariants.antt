use Rattle.std.proofs.Common.{◌≡◌, map, take}
use Rattle.std.specs.Prelude.{All}
use Rattle.av_flat.specs.Trees.{view}
use Rattle.av_flat.specs.Sites.{place_of}
use Rattle.av_space.specs.Spots.{pipeline_by}
use Rattle.av_space.proofs.array.Array.sites.Given as goal

abbrev pub invariant-loop-place : goal.invariant-loop-place
invariant-loop-place l = record {
  places : map (λ site. place_of site.place) l.sites ≡ map place_of (take l.place-index l.place-items);
  pipelines : All (λ site. site.pipeline ≡ pipeline_by l.helpers l.spot.place.0 (place_of site.place) (view site.place.tree)) l.sites;
}
