use Rattle.std.proofs.Common.{slice_index, ◌<◌, ◌∙◌, length, get_or, arith}
use Rattle.std.proofs.lemmas.List.{get_or_default}
use Rattle.av_clock.proofs.Edges.{no_flip_flop, is_for}
use Rattle.av_clock.proofs.Taking.{gives_none, all_given}
use Rattle.av_lanes.specs.Seen.{lane}
use Rattle.av_lanes.proofs.LanePasses.{gives_lane, written_within}
use Rattle.av_lanes.proofs.passes.store_taken.Goals as goal

pub write-requires-clause-place : goal.write-requires-clause-place
write-requires-clause-place c =
    let m = c.args.circuit.now in
    let n = c.flip_flops-flip_flops.ensures.count in
    let at = c.requires.within c.loop-i.i c.loop-i-test.true in
    let here : slice_index c.args.taken.now c.loop-i.i < length c.flip_flops-flip_flops.result.now = omega (arith, at, n) in
    written_within m c.loop-i.words (slice_index c.args.taken.now c.loop-i.i) (get_or c.flip_flops-flip_flops.result.now (slice_index c.args.taken.now c.loop-i.i) no_flip_flop) (c.loop-i.auto.words ∙ c.requires.size)
    (is_for m (slice_index c.args.taken.now c.loop-i.i) c.flip_flops-flip_flops.result.now (get_or c.flip_flops-flip_flops.result.now (slice_index c.args.taken.now c.loop-i.i) no_flip_flop) c.flip_flops-flip_flops.ensures here (get_or_default c.flip_flops-flip_flops.result.now (slice_index c.args.taken.now c.loop-i.i) no_flip_flop (get_or c.flip_flops-flip_flops.result.now (slice_index c.args.taken.now c.loop-i.i) no_flip_flop) here))

pub loop-i-init : goal.loop-i-init
loop-i-init c k lt = gives_none c.args.circuit.now (lane k c.args.words.now) c.args.stale.now c.args.due.now c.args.taken.now (lane k c.args.next.now) c.args.count (c.requires.fit k lt)

pub loop-i-preserved : goal.loop-i-preserved
loop-i-preserved c k lt =
    let m = c.args.circuit.now in
    let n = c.flip_flops-flip_flops.ensures.count in
    let at = c.requires.within c.loop-i.i c.loop-i-test.true in
    let here : slice_index c.args.taken.now c.loop-i.i < length c.flip_flops-flip_flops.result.now = omega (arith, at, n) in
    let for = is_for m (slice_index c.args.taken.now c.loop-i.i) c.flip_flops-flip_flops.result.now (get_or c.flip_flops-flip_flops.result.now (slice_index c.args.taken.now c.loop-i.i) no_flip_flop) c.flip_flops-flip_flops.ensures here (get_or_default c.flip_flops-flip_flops.result.now (slice_index c.args.taken.now c.loop-i.i) no_flip_flop (get_or c.flip_flops-flip_flops.result.now (slice_index c.args.taken.now c.loop-i.i) no_flip_flop) here) in
    gives_lane k m c.args.words.now c.loop-i.words c.write.new.words c.args.stale.now c.loop-i.stale c.write.new.stale c.args.due.now c.loop-i.due c.write.new.due c.args.taken.now c.args.next.now c.args.count c.loop-i.i _ (get_or c.flip_flops-flip_flops.result.now (slice_index c.args.taken.now c.loop-i.i) no_flip_flop)
    c.requires.sound (c.loop-i.auto.words ∙ c.requires.size) c.loop-i-test.true c.requires.next for (c.requires.fitting k lt) (c.write.ensures.words k lt) (c.write.ensures.same k lt) c.write.ensures.stale c.write.ensures.due (c.loop-i.invariant k lt)

pub returns-clause-registers : goal.returns-clause-registers
returns-clause-registers c k lt =
    all_given c.args.circuit.now (lane k c.args.words.now) (lane k c.loop-i.words) c.args.stale.now c.loop-i.stale c.args.due.now c.loop-i.due c.args.taken.now (lane k c.args.next.now) c.args.count c.loop-i.i c.loop-i-test.false (c.loop-i.invariant k lt)

pub returns-clause-fit : goal.returns-clause-fit
returns-clause-fit c k lt = (c.loop-i.invariant k lt).fit

pub returns-clause-same : goal.returns-clause-same
returns-clause-same c k lt = (c.loop-i.invariant k lt).same

pub returns-clause-others : goal.returns-clause-others
returns-clause-others c k lt = (c.loop-i.invariant k lt).others

pub returns-clause-stale : goal.returns-clause-stale
returns-clause-stale c = (c.loop-i.invariant 0 (omega arith)).drive_marks

pub returns-clause-due : goal.returns-clause-due
returns-clause-due c = (c.loop-i.invariant 0 (omega arith)).step_marks

pub write-requires-clause-stale : goal.write-requires-clause-stale
write-requires-clause-stale c = (c.loop-i.invariant 0 (omega arith)).drive_marks ∙ c.requires.stale

pub write-requires-clause-due : goal.write-requires-clause-due
write-requires-clause-due c = (c.loop-i.invariant 0 (omega arith)).step_marks ∙ c.requires.due
