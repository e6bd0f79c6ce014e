use Rattle.std.proofs.Common.{◌≡◌, true, refl, subst, arith}
use Rattle.av_base.proofs.Moves.{on_err, Adds-none}
use Rattle.av_base.specs.Outside.{Adds}
use Rattle.av_net.specs.declared.netlist.Module.{Module}
use Rattle.av_net.specs.Clocked.{Edge}
use Rattle.av_clock.specs.Seen.{carried}
use Rattle.av_wave.specs.Simulated.{run_lines}
use Rattle.av_wave.proofs.Cycling.{reset_registers}
use Rattle.av_commands.proofs.Running.{inputs_noted, turns, fails}
use Rattle.av_commands.proofs.simulation.run.Goals as goal

pub loop-cycle-init : goal.loop-cycle-init
loop-cycle-init g c =
    let m : Module = c.args.parts.now.clock.of in
    let prepared = c.requires.prepared in
    record {
      prepared = record { sound = prepared.sound; clock = c.reset.ensures.of; ports = prepared.ports; wires = prepared.wires; room = prepared.room; count = prepared.count };
      written = λ stream run stimulated is. Adds-none (g.K.Sink.state c.args.sink.now).held (g.K.Sink.state c.args.sink.now).held refl;
      registers = reset_registers m c.args.stimulus.now (carried c.args.parts.now.clock) (carried c.reset.new.self) prepared.sound (subst (λ x. Edge x true (carried c.args.parts.now.clock) (carried c.reset.new.self)) c.reset.ensures.of c.reset.ensures.edge);
      left = c.requires.left;
      within = omega arith;
      later = omega arith;
    }

pub show-requires-clause-inputs : goal.show-requires-clause-inputs
show-requires-clause-inputs g c =
    inputs_noted c.args.parts.now.clock.of c.args.stimulus.now c.loop-cycle.cycle c.loop-cycle.parts c.present-next.new.clock c.settle.new.self c.present-next.new.words c.loop-cycle.invariant.prepared
    c.present-next.ensures.room c.present-next.ensures.of c.settle.ensures.of (rw c.as_slice-given.ensures at c.present-next.ensures.ports) c.settle.ensures.given

pub returns-in_err-write_cycle-clause-front : goal.returns-in_err-write_cycle-clause-front
returns-in_err-write_cycle-clause-front g c =
    on_err c.from_residual.result
    (fails c.args.parts.now.clock.of c.args.stimulus.now c.loop-cycle.cycle c.loop-cycle.parts c.loop-cycle.next (g.K.Sink.state c.args.sink.now) (g.K.Sink.state c.loop-cycle.sink)
    c.loop-cycle.invariant c.loop-cycle-test.true c.present-next.new.clock c.settle.new.self c.present-next.new.words c.show.new.words c.present-next.ensures.of c.settle.ensures.of (rw c.as_slice-given.ensures at c.present-next.ensures.ports)
    c.present-next.ensures.registers c.settle.ensures.settled c.settle.ensures.given c.show.ensures (g.K.Sink.state c.write_cycle.new.sink).held
    (rw (c.as_slice-in-loop-cycle.ensures, c.as_slice-in-loop-cycle-2.ensures) at c.in_err-write_cycle.ensures.front))

pub loop-cycle-preserved : goal.loop-cycle-preserved
loop-cycle-preserved g c =
    turns c.args.parts.now.clock.of c.args.stimulus.now c.loop-cycle.cycle c.loop-cycle.parts c.loop-cycle.next (g.K.Sink.state c.args.sink.now) (g.K.Sink.state c.loop-cycle.sink)
    c.loop-cycle.invariant c.loop-cycle-test.true c.present-next.new.clock c.settle.new.self c.present-next.new.words c.show.new.words c.present-next.ensures.of c.settle.ensures.of (rw c.as_slice-given.ensures at c.present-next.ensures.ports)
    c.present-next.ensures.registers c.settle.ensures.settled c.settle.ensures.given c.show.ensures
    c.tick.new.self c.present-next.result (g.K.Sink.state c.write_cycle.new.sink) c.tick.ensures.of c.tick.ensures.edge
    (rw (c.as_slice-in-loop-cycle.ensures, c.as_slice-in-loop-cycle-2.ensures) at c.in_ok-write_cycle.ensures.added) c.in_ok-write_cycle.ensures.later
    (rw c.as_slice-given.ensures at c.present-next.ensures.left) (rw c.as_slice-given.ensures at c.present-next.ensures.within)

pub returns-clause-added : goal.returns-clause-added
returns-clause-added g c = λ stream run stimulated is.
    let all : c.loop-cycle.cycle ≡ c.args.stimulus.now.cycles = omega (arith, c.loop-cycle-test.false, c.loop-cycle.auto.cycle-end) in
    subst (λ n. Adds (g.K.Sink.state c.args.sink.now).held (g.K.Sink.state c.loop-cycle.sink).held (run_lines c.args.parts.now.clock.of run.in_cycle n)) all (c.loop-cycle.invariant.written stream run stimulated is)
