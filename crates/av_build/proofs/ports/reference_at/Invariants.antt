use Rattle.std.proofs.Common.{◌≡◌, ℕ, ◌<◌, false, Some}
use Rattle.std.specs.Prelude.{slice_get}
use Rattle.av_flat.specs.Trees.{view}
use Rattle.av_space.specs.declared.spots.Site.{Site}
use Rattle.av_build.specs.inner.Lanes.{is_reference_at}
use Rattle.av_build.proofs.ports.reference_at.Given as goal

-- no place before it is the reference
abbrev pub invariant-loop-site : goal.invariant-loop-site
invariant-loop-site l = (k : ℕ) (site : Site) → k < l.site-index → slice_get l.sites k ≡ Some site → is_reference_at l.number.0 site.place.site (view site.place.tree) ≡ false
