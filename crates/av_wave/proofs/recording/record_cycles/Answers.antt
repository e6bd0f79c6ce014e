use Rattle.std.proofs.Common.{◌≡◌, ℕ, List, length, sym, ap, ◌∙◌, arith, subst}
use Rattle.av_net.specs.declared.netlist.Port.{Port}
use Rattle.av_net.specs.declared.netlist.Module.{Module}
use Rattle.av_clock.specs.Seen.{carried}
use Rattle.av_wave.specs.inner.Capturing.{IsCapturing}
use Rattle.av_wave.proofs.Capturing.{inputs_noted, agrees_now, shown_here, shown_long, shown_fits, captures_on}
use Rattle.av_wave.proofs.recording.record_cycles.Goals as goal

pub loop-cycle-init : goal.loop-cycle-init
loop-cycle-init c = (c.requires.part, c.requires.begun)

pub show-requires-clause-inputs : goal.show-requires-clause-inputs
show-requires-clause-inputs c =
    let so_far = c.loop-cycle.invariant.1 in
    inputs_noted c.args.of.now c.args.stimulus.now c.loop-cycle.cycle c.len-inputs.result c.present-next.new.clock c.settle.new.self c.present-next.new.words c.len-inputs.ensures.count
    (c.present-next.ensures.room ∙ so_far.room) (c.present-next.ensures.of ∙ so_far.of) c.settle.ensures.of (rw c.as_slice-given.ensures at c.present-next.ensures.ports) c.settle.ensures.given

pub record_cycle-requires-clause-cycle : goal.record_cycle-requires-clause-cycle
record_cycle-requires-clause-cycle c = let so_far = c.loop-cycle.invariant.1 in omega (arith, so_far.cycle, c.loop-cycle-test.true, c.requires.stimulus.most)

pub record_cycle-requires-clause-open : goal.record_cycle-requires-clause-open
record_cycle-requires-clause-open c = c.loop-cycle.invariant.1.told

pub record_cycle-requires-clause-count : goal.record_cycle-requires-clause-count
record_cycle-requires-clause-count c =
    let m : Module = c.args.of.now in
    let so_far = c.loop-cycle.invariant.1 in
    let shown = shown_here m c.settle.new.self c.show.new.words (c.settle.ensures.of ∙ c.present-next.ensures.of ∙ so_far.of) c.show.ensures in
    ap (λ (ws : List ℕ). length ws) c.as_slice.ensures ∙ shown_long m c.settle.new.self c.show.new.words shown ∙ ap (λ (ports : List Port). length ports) (sym so_far.ports)

pub record_cycle-requires-clause-fits : goal.record_cycle-requires-clause-fits
record_cycle-requires-clause-fits c =
    let m : Module = c.args.of.now in
    let s = c.args.stimulus.now in
    let so_far = c.loop-cycle.invariant.1 in
    let shown = shown_here m c.settle.new.self c.show.new.words (c.settle.ensures.of ∙ c.present-next.ensures.of ∙ so_far.of) c.show.ensures in
    let agrees = agrees_now m s c.loop-cycle.cycle c.len-inputs.result c.loop-cycle.clock c.present-next.new.clock c.settle.new.self c.present-next.new.words c.requires.sound c.len-inputs.ensures.count so_far.of so_far.registers
    c.present-next.ensures.of c.settle.ensures.of (rw c.as_slice-given.ensures at c.present-next.ensures.ports) c.present-next.ensures.registers c.settle.ensures.settled c.settle.ensures.given in
    shown_fits m s c.loop-cycle.cycle (carried c.settle.new.self) c.as_slice.result.now c.loop-cycle.recorder.ports c.requires.sound c.requires.stimulus c.loop-cycle-test.true agrees (c.as_slice.ensures ∙ shown) so_far.ports

pub loop-cycle-preserved : goal.loop-cycle-preserved
loop-cycle-preserved c =
    let so_far = c.loop-cycle.invariant in (
      c.in_ok-record_cycle.ensures.part,
      captures_on c.args.of.now c.args.stimulus.now c.loop-cycle.cycle c.len-inputs.result c.loop-cycle.next c.present-next.result c.loop-cycle.clock c.present-next.new.clock c.settle.new.self c.tick.new.self
          c.loop-cycle.words c.present-next.new.words c.show.new.words c.loop-cycle.recorder c.record_cycle.new.self c.requires.sound so_far.0 c.len-inputs.ensures.count so_far.1 c.loop-cycle-test.true
          c.present-next.ensures.of c.settle.ensures.of c.tick.ensures.of (rw c.as_slice-given.ensures at c.present-next.ensures.ports) c.present-next.ensures.registers c.settle.ensures.settled c.settle.ensures.given
          c.show.ensures (rw c.as_slice.ensures at c.in_ok-record_cycle.ensures.records) c.tick.ensures.edge
          (rw c.as_slice-given.ensures at c.present-next.ensures.left) (rw c.as_slice-given.ensures at c.present-next.ensures.within),
    )

pub returns : goal.returns
returns c =
    let all : c.loop-cycle.cycle ≡ c.args.stimulus.now.cycles = omega (arith, c.loop-cycle-test.false, c.loop-cycle.auto.cycle-end) in
    let so_far = c.loop-cycle.invariant in
    record {
      part = so_far.0;
      clock = c.loop-cycle.clock;
      words = c.loop-cycle.words;
      next = c.loop-cycle.next;
      so_far = subst (λ (n : ℕ). IsCapturing c.args.of.now c.args.stimulus.now n c.loop-cycle.clock c.loop-cycle.words c.loop-cycle.recorder c.loop-cycle.next) all so_far.1;
    }
