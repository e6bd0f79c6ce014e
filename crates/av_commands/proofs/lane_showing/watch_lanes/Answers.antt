use Rattle.std.proofs.Common.{All, sym, subst}
use Rattle.av_net.specs.declared.netlist.Module.{Module}
use Rattle.av_net.specs.Clocked.{IsRun}
use Rattle.av_data.specs.declared.stimulus.Stimulus.{Stimulus}
use Rattle.av_wave.specs.Clocking.{AreLeft}
use Rattle.av_wave.specs.Simulated.{IsStimulated}
use Rattle.av_commands.proofs.lane_showing.watch_lanes.Goals as goal

pub clock_lanes_and_note-requires-clause-left : goal.clock_lanes_and_note-requires-clause-left
clock_lanes_and_note-requires-clause-left c =
    subst (λ (m : Module). All (λ (s : Stimulus). AreLeft m.inputs s.values 0 0 s.values) c.args.stimuli.now) (sym c.in_ok-lanes.ensures.of) c.requires.left

pub returns : goal.returns
returns c = λ k s at stream run stimulated is.
    let of = sym c.in_ok-lanes.ensures.of in
    c.clock_lanes_and_note.ensures k s at stream run (subst (λ (m : Module). IsStimulated m s stream) of stimulated) (subst (λ (m : Module). IsRun m s.cycles stream run) of is)
