use Rattle.std.proofs.Common.{◌≡◌, drop, nat_lt}
use Rattle.std.specs.List.{list_any}
use Rattle.av_kinds.proofs.shape.selects.Given as goal

abbrev pub invariant-loop-site : goal.invariant-loop-site
invariant-loop-site l = list_any (λ site. nat_lt 0 site.selections) (drop l.site-index l.mode.sites) ≡ list_any (λ site. nat_lt 0 site.selections) l.mode.sites
