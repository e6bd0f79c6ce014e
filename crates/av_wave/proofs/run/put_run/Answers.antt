use Rattle.std.proofs.Common.{◌≡◌, ◌∙◌, true, refl, subst, arith}
use Rattle.av_net.specs.declared.netlist.Module.{Module}
use Rattle.av_net.specs.Clocked.{Edge}
use Rattle.av_clock.specs.Seen.{carried}
use Rattle.av_wave.proofs.Cycling.{reset_registers}
use Rattle.av_wave.proofs.Capturing.{inputs_noted}
use Rattle.av_wave.proofs.Dumping.{starts_dumping, dumps_on, dumped}
use Rattle.av_wave.proofs.run.put_run.Goals as goal

pub loop-cycle-init : goal.loop-cycle-init
loop-cycle-init g c =
    let m : Module = c.args.of.now in
    let was = c.requires.parts in
    let of : c.reset.new.self.of ≡ m = c.reset.ensures.of ∙ was.clock in
    starts_dumping m c.args.stimulus.now _ c.args.parts.now.ports was.sound c.requires.spelled c.requires.stimulus
    (record { sound = was.sound; clock = of; ports = was.ports; wires = was.wires; room = was.room; count = was.count })
    (reset_registers m c.args.stimulus.now (carried c.args.parts.now.clock) (carried c.reset.new.self) was.sound (subst (λ x. Edge x true (carried c.args.parts.now.clock) (carried c.reset.new.self)) of c.reset.ensures.edge))
    c.requires.before was.ports c.put_head.ensures c.put_time.ensures

pub show-requires-clause-inputs : goal.show-requires-clause-inputs
show-requires-clause-inputs g c =
    let so_far = c.loop-cycle.invariant in
    inputs_noted c.args.of.now c.args.stimulus.now c.loop-cycle.cycle c.loop-cycle.parts.inputs c.present-next.new.clock c.settle.new.self c.present-next.new.words so_far.prepared.count
    (c.present-next.ensures.room ∙ so_far.prepared.room) (c.present-next.ensures.of ∙ so_far.prepared.clock) c.settle.ensures.of (rw c.as_slice-given.ensures at c.present-next.ensures.ports) c.settle.ensures.given

pub loop-cycle-preserved : goal.loop-cycle-preserved
loop-cycle-preserved g c =
    let S = g.K.Sink.state in
    let so_far = c.loop-cycle.invariant in
    dumps_on c.args.of.now c.args.stimulus.now c.loop-cycle.cycle c.loop-cycle.parts c.loop-cycle.next (S c.args.sink.now) (S c.loop-cycle.sink) c.args.page.now c.loop-cycle.page so_far
    c.requires.stimulus c.loop-cycle-test.true c.present-next.new.clock c.settle.new.self c.present-next.new.words c.show.new.words
    (record {
      of = c.present-next.ensures.of;
      of' = c.settle.ensures.of;
      ports = rw c.as_slice-given.ensures at c.present-next.ensures.ports;
      registers = c.present-next.ensures.registers;
      settled = c.settle.ensures.settled;
      given = c.settle.ensures.given;
      shown = c.show.ensures;
    })
    c.tick.new.self _ c.present-next.result c.loop-cycle.parts.ports c.as_slice-in-loop-cycle.result.now c.as_slice-in-loop-cycle-2.result.now refl refl refl refl c.swap.ensures.y_after c.swap.ensures.x_after
    refl c.as_slice-in-loop-cycle.ensures c.as_slice-in-loop-cycle-2.ensures c.tick.ensures.of c.tick.ensures.edge
    (rw c.as_slice-given.ensures at c.present-next.ensures.left) (rw c.as_slice-given.ensures at c.present-next.ensures.within) c.put_cycle.ensures c.put_time-in-loop-cycle.ensures

pub returns : goal.returns
returns g c =
    let all : c.loop-cycle.cycle ≡ c.args.stimulus.now.cycles = omega (arith, c.loop-cycle-test.false, c.loop-cycle.auto.cycle-end) in
    dumped c.loop-cycle.invariant all
