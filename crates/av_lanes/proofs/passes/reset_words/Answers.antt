use Rattle.std.proofs.Common.{◌<◌, ◌∙◌, true, length, get_or, arith}
use Rattle.std.proofs.lemmas.List.{get_or_default}
use Rattle.av_clock.proofs.Edges.{no_flip_flop, is_for, taken_all, taken_itself}
use Rattle.av_lanes.specs.Seen.{lane}
use Rattle.av_lanes.proofs.LanePasses.{reset_lane}
use Rattle.av_lanes.proofs.passes.reset_words.Goals as goal

pub loop-i-preserved : goal.loop-i-preserved
loop-i-preserved c =
    let for = (is_for c.args.circuit.now c.loop-i.i c.flip_flops-flip_flop-items.result.now (get_or c.flip_flops-flip_flop-items.result.now c.loop-i.i no_flip_flop) c.flip_flops-flip_flop-items.ensures c.loop-i-test.true (get_or_default c.flip_flops-flip_flop-items.result.now c.loop-i.i no_flip_flop (get_or c.flip_flops-flip_flop-items.result.now c.loop-i.i no_flip_flop) c.loop-i-test.true)) in
    let within : c.loop-i.i < length c.args.circuit.now.steps = for.within in (
      λ k lt. reset_lane k c.args.circuit.now c.loop-i.next c.loop-i.i (get_or c.flip_flops-flip_flop-items.result.now c.loop-i.i no_flip_flop) c.constant.result (c.loop-i.auto.next ∙ c.requires.next) for (c.constant.ensures k lt) (c.loop-i.invariant.0 k lt),
      taken_itself c.loop-i.taken c.loop-i.i (omega (arith, within, c.loop-i.auto.taken, c.requires.taken)) c.loop-i.invariant.1,
    )

pub returns-clause-words : goal.returns-clause-words
returns-clause-words c k lt old =
    let n = c.flip_flops-flip_flop-items.ensures.count in
    let end = c.loop-i-test.false in
    taken_all c.args.circuit.now true old c.loop-i.i (lane k c.loop-i.next) (omega (arith, n, end)) (c.loop-i.invariant.0 k lt old)

pub returns-clause-steps : goal.returns-clause-steps
returns-clause-steps c = λ j lt.
    let n = c.flip_flops-flip_flop-items.ensures.count in
    let end = c.loop-i-test.false in
    c.loop-i.invariant.1 j (omega (arith, n, end))
