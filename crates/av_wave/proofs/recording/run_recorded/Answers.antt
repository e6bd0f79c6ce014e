use Rattle.std.proofs.Common.{◌≡◌, length, ap, ◌∙◌, subst, true, refl}
use Rattle.av_net.specs.declared.netlist.Module.{Module}
use Rattle.av_net.specs.Clocked.{Edge}
use Rattle.av_clock.specs.Seen.{carried}
use Rattle.av_wave.specs.Simulated.{header_ports}
use Rattle.av_wave.specs.inner.Parts.{Part}
use Rattle.av_wave.proofs.Cycling.{reset_registers}
use Rattle.av_wave.proofs.Capturing.{starts_capturing}
use Rattle.av_wave.proofs.recording.run_recorded.Goals as goal

pub record_cycles-requires-clause-begun : goal.record_cycles-requires-clause-begun
record_cycles-requires-clause-begun c =
    let m : Module = c.args.of.now in
    let of : c.reset.new.self.of ≡ m = c.reset.ensures.of ∙ c.in_ok-clock.ensures.of in
    let ports = c.ports.ensures.ports ∙ ap (λ (p : Part). p.ports) c.requires.first in
    starts_capturing m c.args.stimulus.now c.reset.new.self c.in_ok-words.words c.args.recorder.now (header_ports m) m.name c.requires.sound c.requires.stimulus of
    (reset_registers m c.args.stimulus.now (carried c.in_ok-clock.clock) (carried c.reset.new.self) c.requires.sound (subst (λ x. Edge x true (carried c.in_ok-clock.clock) (carried c.reset.new.self)) of c.reset.ensures.edge))
    (c.in_ok-words.ensures.count ∙ ap length ports) c.requires.first refl refl
