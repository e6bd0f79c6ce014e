use Rattle.std.proofs.Common.{◌<◌, length, get_or, arith}
use Rattle.std.proofs.lemmas.List.{get_or_default}
use Rattle.av_clock.proofs.Edges.{no_flip_flop, is_for}
use Rattle.av_lanes.proofs.LanePasses.{read_within, written_within}
use Rattle.av_lanes.proofs.passes.changing.Goals as goal

pub bounds-words-flip_flop : goal.bounds-words-flip_flop
bounds-words-flip_flop c = written_within c.args.circuit.now c.args.words.now c.loop-i.i (get_or c.flip_flops-flip_flop-items.result.now c.loop-i.i no_flip_flop) c.requires.size (is_for c.args.circuit.now c.loop-i.i c.flip_flops-flip_flop-items.result.now (get_or c.flip_flops-flip_flop-items.result.now c.loop-i.i no_flip_flop) c.flip_flops-flip_flop-items.ensures c.loop-i-test.true (get_or_default c.flip_flops-flip_flop-items.result.now c.loop-i.i no_flip_flop (get_or c.flip_flops-flip_flop-items.result.now c.loop-i.i no_flip_flop) c.loop-i-test.true))

pub offset_bounds-words-flip_flop : goal.offset_bounds-words-flip_flop
offset_bounds-words-flip_flop c =
    let within : (get_or c.flip_flops-flip_flop-items.result.now c.loop-i.i no_flip_flop).register < length c.args.words.now = written_within c.args.circuit.now c.args.words.now c.loop-i.i (get_or c.flip_flops-flip_flop-items.result.now c.loop-i.i no_flip_flop) c.requires.size (is_for c.args.circuit.now c.loop-i.i c.flip_flops-flip_flop-items.result.now (get_or c.flip_flops-flip_flop-items.result.now c.loop-i.i no_flip_flop) c.flip_flops-flip_flop-items.ensures c.loop-i-test.true (get_or_default c.flip_flops-flip_flop-items.result.now c.loop-i.i no_flip_flop (get_or c.flip_flops-flip_flop-items.result.now c.loop-i.i no_flip_flop) c.loop-i-test.true)) in
    omega arith

pub word_read-requires : goal.word_read-requires
word_read-requires c = read_within c.args.circuit.now c.args.words.now c.loop-i.i (get_or c.flip_flops-flip_flop-items.result.now c.loop-i.i no_flip_flop) c.requires.size (is_for c.args.circuit.now c.loop-i.i c.flip_flops-flip_flop-items.result.now (get_or c.flip_flops-flip_flop-items.result.now c.loop-i.i no_flip_flop) c.flip_flops-flip_flop-items.ensures c.loop-i-test.true (get_or_default c.flip_flops-flip_flop-items.result.now c.loop-i.i no_flip_flop (get_or c.flip_flops-flip_flop-items.result.now c.loop-i.i no_flip_flop) c.loop-i-test.true))
