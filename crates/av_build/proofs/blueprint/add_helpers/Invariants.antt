use Rattle.std.proofs.Common.{◌≡◌, ◌++◌, drop}
use Rattle.av_build.specs.inner.Blueprints.{site_helpers}
use Rattle.av_build.proofs.blueprint.add_helpers.Given as goal

-- with those of the places to come
abbrev pub invariant-loop-site : goal.invariant-loop-site
invariant-loop-site l = l.helpers ++ site_helpers l.piece l.site (drop l.site l.sites) ≡ l.fn.helpers ++ site_helpers l.piece 0 l.sites
