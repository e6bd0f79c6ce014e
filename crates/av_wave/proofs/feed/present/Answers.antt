use Rattle.std.proofs.Common.{◌≡◌, ◌+◌, ◌<◌, length, drop, sym, ap, ◌∙◌, subst, arith}
use Rattle.std.proofs.lemmas.List.{length-set}
use Rattle.av_clock.specs.Seen.{carried}
use Rattle.av_net.specs.declared.netlist.Module.{Module}
use Rattle.av_wave.specs.Clocking.{AreLeft, ArePresented}
use Rattle.av_wave.proofs.Walking.{word_is, port_left, cycle_left}
use Rattle.av_wave.proofs.Presenting.{turn}
use Rattle.av_wave.proofs.feed.present.Goals as goal

pub loop-port-preserved : goal.loop-port-preserved
loop-port-preserved c =
    let m : Module = c.args.clock.now.of in
    let inv = c.loop-port.invariant in
    let is = word_is m.inputs c.args.given.now c.args.cycle c.loop-port.port (drop c.loop-port.next c.args.given.now) inv.3 ∙ sym c.word_next-word.ensures.word in
    let lt : c.loop-port.port < length m.inputs = omega (arith, c.loop-port-test.true, c.requires.count) in
    let room : c.loop-port.port < length c.loop-port.words = omega (arith, c.loop-port-test.true, c.requires.room, inv.5) in
    let both = turn m c.args.given.now c.args.cycle c.loop-port.port c.loop-port.clock c.set.new.self (carried c.args.clock.now) c.loop-port.words c.word_next-word.result.0 c.requires.sound inv.0 lt room inv.1 inv.2 is c.set.ensures.port c.set.ensures.others in (
      ap (λ s. s.of) c.set.ensures.words ∙ inv.0,
      subst (λ ws. ArePresented m c.args.given.now c.args.cycle (c.loop-port.port + 1) (carried c.set.new.self) ws) (sym c.set-in-loop-port.ensures) both.0,
      both.1,
      subst (AreLeft m.inputs c.args.given.now c.args.cycle (c.loop-port.port + 1)) (sym c.word_next-word.ensures.rest) (port_left m.inputs c.args.given.now c.args.cycle c.loop-port.port (drop c.loop-port.next c.args.given.now) inv.3),
      c.word_next-word.ensures.within,
      ap length c.set-in-loop-port.ensures ∙ length-set c.loop-port.words c.loop-port.port c.word_next-word.result.0 ∙ inv.5,
    )

pub returns-clause-left : goal.returns-clause-left
returns-clause-left c =
    let m : Module = c.args.clock.now.of in
    let inv = c.loop-port.invariant in
    let all : c.loop-port.port ≡ length m.inputs = omega (arith, c.loop-port-test.false, c.loop-port.auto.port-end, c.requires.count) in
    subst (λ (x : Module). AreLeft x.inputs c.args.given.now (c.args.cycle + 1) 0 (drop c.loop-port.next c.args.given.now)) (sym inv.0)
    (cycle_left m.inputs c.args.given.now c.args.cycle c.loop-port.port (drop c.loop-port.next c.args.given.now) all inv.3)
