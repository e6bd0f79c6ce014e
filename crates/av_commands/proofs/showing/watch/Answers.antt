use Rattle.std.proofs.Common.{sym, subst}
use Rattle.av_net.specs.declared.netlist.Module.{Module}
use Rattle.av_net.specs.Clocked.{IsRun}
use Rattle.av_wave.specs.Simulated.{IsStimulated}
use Rattle.av_commands.proofs.showing.watch.Goals as goal

pub returns : goal.returns
returns c = λ stream run stimulated is.
    let s = c.args.stimulus.now in
    let of = sym c.in_ok-clock.ensures.of in
    c.clock_and_note.ensures stream run (subst (λ (m : Module). IsStimulated m s stream) of stimulated) (subst (λ (m : Module). IsRun m s.cycles stream run) of is)
