use Rattle.std.proofs.Common.{◌≡◌, ◌<◌, ℕ, get_or, slice_get, Some}
use Rattle.av_net.specs.declared.netlist.Step.{Step}
use Rattle.av_net.specs.Names.{all_names}
use Rattle.av_clock.specs.Marking.{IsSet}
use Rattle.av_lanes.proofs.order.are_stored.Given as goal

abbrev pub invariant-loop-flip_flop : goal.invariant-loop-flip_flop
invariant-loop-flip_flop l = (i place : ℕ) (d : Step) → i < l.flip_flop-index → slice_get (all_names l.circuit) place ≡ Some (get_or l.circuit.steps i d).register → IsSet l.stored place
