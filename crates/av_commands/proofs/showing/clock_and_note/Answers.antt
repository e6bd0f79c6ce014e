use Rattle.std.proofs.Common.{◌≡◌, true, subst, arith}
use Rattle.av_net.specs.Clocked.{Edge}
use Rattle.av_clock.specs.Seen.{carried}
use Rattle.av_commands.specs.inner.Watching.{bits_of, watched}
use Rattle.av_wave.proofs.Cycling.{reset_registers}
use Rattle.av_commands.proofs.Watched.{tap_named, watched_none, noted_length}
use Rattle.av_commands.proofs.Watching.{goes_on}
use Rattle.av_commands.proofs.showing.clock_and_note.Goals as goal

pub loop-cycle-init : goal.loop-cycle-init
loop-cycle-init c =
    let m = c.args.clock.now.of in
    record {
      of = c.reset.ensures.of;
      registers = reset_registers m c.args.stimulus.now (carried c.args.clock.now) (carried c.reset.new.self) c.requires.sound (subst (λ x. Edge x true (carried c.args.clock.now) (carried c.reset.new.self)) c.reset.ensures.of c.reset.ensures.edge);
      left = c.requires.left;
      within = omega arith;
      room = c.requires.room;
      long = c.requires.zeros.0;
      watched_so = λ stream run stimulated is. watched_none run.in_cycle c.args.lines.now c.args.words.now c.requires.zeros.0 c.requires.zeros.1;
    }

pub loop-cycle-preserved : goal.loop-cycle-preserved
loop-cycle-preserved c =
    let m = c.args.clock.now.of in
    let lines = c.args.lines.now in
    let inv = c.loop-cycle.invariant in
    goes_on m c.args.stimulus.now lines c.args.inputs c.loop-cycle.cycle c.loop-cycle.clock c.present-next.new.clock c.settle.new.self c.tick.new.self c.loop-cycle.next c.present-next.result c.loop-cycle.ports c.present-next.new.words c.loop-cycle.words c.note.new.words
    c.requires.sound c.requires.count inv c.loop-cycle-test.true (tap_named m lines c.args.taps.now c.requires.sound c.requires.taps)
    c.present-next.ensures.of c.settle.ensures.of c.tick.ensures.of (rw c.as_slice-given.ensures at c.present-next.ensures.ports) c.present-next.ensures.registers c.settle.ensures.settled c.settle.ensures.given
    c.note.ensures c.tick.ensures.edge (rw c.as_slice-given.ensures at c.present-next.ensures.left) (rw c.as_slice-given.ensures at c.present-next.ensures.within) c.present-next.ensures.room
    (noted_length (carried c.settle.new.self) c.loop-cycle.cycle lines c.loop-cycle.words c.note.new.words inv.long c.note.ensures)

pub returns : goal.returns
returns c = λ stream run stimulated is.
    let all : c.loop-cycle.cycle ≡ c.args.stimulus.now.cycles = omega (arith, c.loop-cycle-test.false, c.loop-cycle.auto.cycle-end) in
    subst (λ n. bits_of c.loop-cycle.words ≡ watched run.in_cycle n c.args.lines.now) all (c.loop-cycle.invariant.watched_so stream run stimulated is)
