use Rattle.std.proofs.Common.{◌≡◌, length, map, take}
use Rattle.av_clock.specs.declared.gate.FlipFlop.{FlipFlop}
use Rattle.av_clock.specs.declared.gate.Reading.TheVariants.{At}
use Rattle.av_lanes.specs.declared.order.Transfer.{Transfer}
use Rattle.av_lanes.proofs.order.transfers.Given as goal

abbrev pub invariant-loop-flip_flop : goal.invariant-loop-flip_flop
invariant-loop-flip_flop l =
    (length l.transfers.items ≡ l.flip_flop-index)
    × (map (λ (t : Transfer). t.register) l.transfers.items ≡ map (λ (f : FlipFlop). f.register) (take l.flip_flop-index l.moves))
    × (map (λ (t : Transfer). At t.source) l.transfers.items ≡ map (λ (f : FlipFlop). f.next) (take l.flip_flop-index l.moves))
