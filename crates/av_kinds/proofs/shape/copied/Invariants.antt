use Rattle.std.proofs.Common.{◌≡◌, take}
use Rattle.av_kinds.proofs.shape.copied.Given as goal

abbrev pub invariant-loop-site : goal.invariant-loop-site
invariant-loop-site l = l.sites ≡ take l.site-index l.mode.sites
