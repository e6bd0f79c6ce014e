use Rattle.std.proofs.Common.{◌≡◌, ◌<◌, ◌≤◌, ◌∙◌, false, length, get_or, arith}
use Rattle.std.proofs.Math.ListN.{length-set}
use Rattle.std.proofs.lemmas.List.{get_or_default}
use Rattle.av_clock.proofs.Edges.{no_flip_flop, is_for}
use Rattle.av_clock.proofs.Taking.{takes_none, all_taken}
use Rattle.av_lanes.specs.Seen.{lane}
use Rattle.av_lanes.proofs.ByLane.{lane_size}
use Rattle.av_lanes.proofs.LanePasses.{takes_lane, read_within}
use Rattle.av_lanes.proofs.passes.take_due.Goals as goal

pub word_read-requires : goal.word_read-requires
word_read-requires c =
    let here : c.loop-step.step < length c.flip_flops-flip_flops.result.now = c.loop-step-test.true in
    read_within c.args.circuit.now c.args.words.now c.loop-step.step (get_or c.flip_flops-flip_flops.result.now c.loop-step.step no_flip_flop) c.requires.size
    (is_for c.args.circuit.now c.loop-step.step c.flip_flops-flip_flops.result.now (get_or c.flip_flops-flip_flops.result.now c.loop-step.step no_flip_flop) c.flip_flops-flip_flops.ensures here (get_or_default c.flip_flops-flip_flops.result.now c.loop-step.step no_flip_flop (get_or c.flip_flops-flip_flops.result.now c.loop-step.step no_flip_flop) here))

pub loop-step-init : goal.loop-step-init
loop-step-init c k lt =
    takes_none c.args.circuit.now (lane k c.args.words.now) c.args.due.now c.args.taken.now (lane k c.args.next.now) c.next-step.result (c.requires.held k lt) c.requires.taken (lane_size k c.args.next.now ∙ c.requires.next) c.requires.due
    c.next-step.ensures.within c.next-step.ensures.clear c.next-step.ensures.set

pub loop-step-preserved : goal.loop-step-preserved
loop-step-preserved c k lt =
    let m = c.args.circuit.now in
    let here : c.loop-step.step < length c.flip_flops-flip_flops.result.now = c.loop-step-test.true in
    let for = is_for m c.loop-step.step c.flip_flops-flip_flops.result.now (get_or c.flip_flops-flip_flops.result.now c.loop-step.step no_flip_flop) c.flip_flops-flip_flops.ensures here (get_or_default c.flip_flops-flip_flops.result.now c.loop-step.step no_flip_flop (get_or c.flip_flops-flip_flops.result.now c.loop-step.step no_flip_flop) here) in
    let so_far = c.loop-step.invariant k lt in
    let long : length c.clear.new.self ≡ length c.loop-step.due = rw c.clear.ensures (length-set c.loop-step.due c.loop-step.step false) in
    let size : length c.loop-step.due ≡ length c.args.due.now = so_far.size in
    let within : c.loop-step.step < length m.steps = for.within in
    takes_lane k m c.args.words.now c.args.due.now c.loop-step.due c.clear.new.self c.loop-step.taken c.loop-step.next c.loop-step.count c.loop-step.step c.word_read.result c.next-step-in-loop-step.result (get_or c.flip_flops-flip_flops.result.now c.loop-step.step no_flip_flop)
    c.requires.sound c.requires.size (c.requires.held k lt) c.requires.due within for (c.word_read.ensures k lt) c.clear.ensures
    c.next-step-in-loop-step.ensures.within c.next-step-in-loop-step.ensures.clear c.next-step-in-loop-step.ensures.set (c.next-step-in-loop-step.ensures.later (omega (arith, long, size, c.requires.due))) so_far

pub returns-clause-taken : goal.returns-clause-taken
returns-clause-taken c k lt d =
    let n = c.flip_flops-flip_flops.ensures.count in
    let end = c.loop-step-test.false in
    let past : length c.args.circuit.now.steps ≤ c.loop-step.step = omega (arith, n, end) in
    all_taken c.args.circuit.now (lane k c.args.words.now) c.args.due.now c.loop-step.due c.loop-step.taken (lane k c.loop-step.next) c.loop-step.count c.loop-step.step d past (c.loop-step.invariant k lt)

pub returns-clause-count : goal.returns-clause-count
returns-clause-count c =
    let few = (c.loop-step.invariant 0 (omega arith)).few in
    let within = (c.loop-step.invariant 0 (omega arith)).within in
    omega (arith, few, within)

pub returns-clause-due : goal.returns-clause-due
returns-clause-due c = (c.loop-step.invariant 0 (omega arith)).size

pub returns-clause-within : goal.returns-clause-within
returns-clause-within c = (c.loop-step.invariant 0 (omega arith)).places
