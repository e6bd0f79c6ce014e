use Rattle.std.proofs.Common.{◌≡◌, map, take}
use Rattle.av_clock.specs.inner.Sources.{flip_flop_at_source}
use Rattle.av_clock.proofs.merged.at_sources.Given as goal

abbrev pub invariant-loop-flip_flop : goal.invariant-loop-flip_flop
invariant-loop-flip_flop l = l.merged.items ≡ map (flip_flop_at_source l.sources) (take l.flip_flop-index l.flip_flops)
