use Rattle.std.proofs.Common.{◌<◌, ◌∙◌, length, get_or, arith}
use Rattle.std.proofs.lemmas.List.{get_or_default}
use Rattle.av_clock.proofs.Edges.{no_flip_flop, is_for, stores_none, ports_kept, registers_stored}
use Rattle.av_lanes.specs.Seen.{lane}
use Rattle.av_lanes.proofs.LanePasses.{stores_lane, written_within}
use Rattle.av_lanes.proofs.passes.store.Goals as goal

pub bounds-words-flip_flop : goal.bounds-words-flip_flop
bounds-words-flip_flop c = written_within c.args.circuit.now c.loop-i.words c.loop-i.i (get_or c.flip_flops-flip_flop-items.result.now c.loop-i.i no_flip_flop) (c.loop-i.auto.words ∙ c.requires.size) (is_for c.args.circuit.now c.loop-i.i c.flip_flops-flip_flop-items.result.now (get_or c.flip_flops-flip_flop-items.result.now c.loop-i.i no_flip_flop) c.flip_flops-flip_flop-items.ensures c.loop-i-test.true (get_or_default c.flip_flops-flip_flop-items.result.now c.loop-i.i no_flip_flop (get_or c.flip_flops-flip_flop-items.result.now c.loop-i.i no_flip_flop) c.loop-i-test.true))

pub offset_bounds-words-flip_flop : goal.offset_bounds-words-flip_flop
offset_bounds-words-flip_flop c =
    let within : (get_or c.flip_flops-flip_flop-items.result.now c.loop-i.i no_flip_flop).register < length c.loop-i.words = written_within c.args.circuit.now c.loop-i.words c.loop-i.i (get_or c.flip_flops-flip_flop-items.result.now c.loop-i.i no_flip_flop) (c.loop-i.auto.words ∙ c.requires.size) (is_for c.args.circuit.now c.loop-i.i c.flip_flops-flip_flop-items.result.now (get_or c.flip_flops-flip_flop-items.result.now c.loop-i.i no_flip_flop) c.flip_flops-flip_flop-items.ensures c.loop-i-test.true (get_or_default c.flip_flops-flip_flop-items.result.now c.loop-i.i no_flip_flop (get_or c.flip_flops-flip_flop-items.result.now c.loop-i.i no_flip_flop) c.loop-i-test.true)) in
    omega arith

pub loop-i-init : goal.loop-i-init
loop-i-init c k lt = stores_none c.args.circuit.now (lane k c.args.words.now) (lane k c.args.next.now) (c.requires.fit k lt)

pub loop-i-preserved : goal.loop-i-preserved
loop-i-preserved c k lt =
    stores_lane k c.args.circuit.now c.args.words.now c.loop-i.words c.args.next.now c.loop-i.i (get_or c.flip_flops-flip_flop-items.result.now c.loop-i.i no_flip_flop) _ c.requires.sound (c.loop-i.auto.words ∙ c.requires.size) c.requires.next
    (is_for c.args.circuit.now c.loop-i.i c.flip_flops-flip_flop-items.result.now (get_or c.flip_flops-flip_flop-items.result.now c.loop-i.i no_flip_flop) c.flip_flops-flip_flop-items.ensures c.loop-i-test.true (get_or_default c.flip_flops-flip_flop-items.result.now c.loop-i.i no_flip_flop (get_or c.flip_flops-flip_flop-items.result.now c.loop-i.i no_flip_flop) c.loop-i-test.true)) (c.requires.fitting k lt) (c.loop-i.invariant k lt)

pub returns-clause-ports : goal.returns-clause-ports
returns-clause-ports c k lt = ports_kept c.args.circuit.now (lane k c.args.words.now) (lane k c.loop-i.words) (lane k c.args.next.now) c.loop-i.i c.requires.sound (c.loop-i.invariant k lt)

pub returns-clause-registers : goal.returns-clause-registers
returns-clause-registers c k lt =
    let n = c.flip_flops-flip_flop-items.ensures.count in
    let end = c.loop-i-test.false in
    registers_stored c.args.circuit.now (lane k c.args.words.now) (lane k c.loop-i.words) (lane k c.args.next.now) c.loop-i.i (omega (arith, n, end)) (c.loop-i.invariant k lt)

pub returns-clause-fit : goal.returns-clause-fit
returns-clause-fit c k lt = (c.loop-i.invariant k lt).fit

pub returns-clause-others : goal.returns-clause-others
returns-clause-others c k lt = (c.loop-i.invariant k lt).others
