use Rattle.std.proofs.Common.{◌≡◌, map, take}
use Rattle.av_space.specs.declared.ranked.Ranked.{Ranked}
use Rattle.av_space.proofs.laying.slots_of.Given as goal

abbrev pub invariant-loop-computation : goal.invariant-loop-computation
invariant-loop-computation l = l.slots ≡ map (λ (r : Ranked). r.slot) (take l.computation-index l.ranked)
