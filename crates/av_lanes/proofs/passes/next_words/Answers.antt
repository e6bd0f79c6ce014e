use Rattle.std.proofs.Common.{◌∙◌, false, get_or, arith}
use Rattle.std.proofs.lemmas.List.{get_or_default}
use Rattle.av_clock.specs.Named.{named}
use Rattle.av_clock.proofs.Edges.{no_flip_flop, is_for, taken_all}
use Rattle.av_lanes.specs.Seen.{lane}
use Rattle.av_lanes.proofs.LanePasses.{next_lane, read_within}
use Rattle.av_lanes.proofs.passes.next_words.Goals as goal

pub word_read-requires : goal.word_read-requires
word_read-requires c = read_within c.args.circuit.now c.args.words.now c.loop-i.i (get_or c.flip_flops-flip_flop-items.result.now c.loop-i.i no_flip_flop) c.requires.size (is_for c.args.circuit.now c.loop-i.i c.flip_flops-flip_flop-items.result.now (get_or c.flip_flops-flip_flop-items.result.now c.loop-i.i no_flip_flop) c.flip_flops-flip_flop-items.ensures c.loop-i-test.true (get_or_default c.flip_flops-flip_flop-items.result.now c.loop-i.i no_flip_flop (get_or c.flip_flops-flip_flop-items.result.now c.loop-i.i no_flip_flop) c.loop-i-test.true))

pub loop-i-preserved : goal.loop-i-preserved
loop-i-preserved c k lt =
    next_lane k c.args.circuit.now c.args.words.now c.loop-i.next c.loop-i.i (get_or c.flip_flops-flip_flop-items.result.now c.loop-i.i no_flip_flop) c.word_read.result c.requires.sound c.requires.size (c.loop-i.auto.next ∙ c.requires.next)
    (is_for c.args.circuit.now c.loop-i.i c.flip_flops-flip_flop-items.result.now (get_or c.flip_flops-flip_flop-items.result.now c.loop-i.i no_flip_flop) c.flip_flops-flip_flop-items.ensures c.loop-i-test.true (get_or_default c.flip_flops-flip_flop-items.result.now c.loop-i.i no_flip_flop (get_or c.flip_flops-flip_flop-items.result.now c.loop-i.i no_flip_flop) c.loop-i-test.true)) (c.word_read.ensures k lt) (c.loop-i.invariant k lt)

pub returns : goal.returns
returns c k lt =
    let n = c.flip_flops-flip_flop-items.ensures.count in
    let end = c.loop-i-test.false in
    taken_all c.args.circuit.now false (named c.args.circuit.now (lane k c.args.words.now)) c.loop-i.i (lane k c.loop-i.next) (omega (arith, n, end)) (c.loop-i.invariant k lt)
