use Rattle.std.proofs.Common.{suc, take}
use Rattle.av_space.specs.inner.Stretches.{HasOpen}
use Rattle.av_space.proofs.stretch.site_links.Given as goal

abbrev pub invariant-loop-reading : goal.invariant-loop-reading
invariant-loop-reading l = HasOpen l.at.consumer.0 l.at.site (take (suc l.reading-index) l.readings) l.fn.links l.links l.last
