use Rattle.std.proofs.Common.{get_or, arith}
use Rattle.av_clock.proofs.Held.{computed}
use Rattle.av_clock.proofs.Marking.{set_within}
use Rattle.av_clock.proofs.Settling.{is_for, assignment_takes, target_within}
use Rattle.av_lanes.specs.Seen.{lane}
use Rattle.av_lanes.proofs.ByLane.{lane_size}
use Rattle.av_lanes.proofs.LanePasses.{lane_long}
use Rattle.av_lanes.proofs.passes.compute.Goals as goal

pub word_given-word-requires : goal.word_given-word-requires
word_given-word-requires c k lt =
    let m = c.args.circuit.now in
    let for = is_for m c.args.drive c.assignments.result.now c.index-assignments-drive.result c.assignments.ensures (let lt = set_within c.args.stale.now c.args.drive c.requires.marked in let n = c.assignments.ensures.count in omega (arith, lt, n, c.requires.stale)) c.index-assignments-drive.is in
    assignment_takes m (lane k c.args.words.now) c.args.drive c.index-assignments-drive.result c.requires.sound (lane_long k m c.args.words.now c.requires.size) for (c.requires.fit k lt)

pub write-requires-clause-place : goal.write-requires-clause-place
write-requires-clause-place c =
    let m = c.args.circuit.now in
    let for = is_for m c.args.drive c.assignments.result.now c.index-assignments-drive.result c.assignments.ensures (let lt = set_within c.args.stale.now c.args.drive c.requires.marked in let n = c.assignments.ensures.count in omega (arith, lt, n, c.requires.stale)) c.index-assignments-drive.is in
    let lt = target_within m (lane 0 c.args.words.now) c.args.drive c.index-assignments-drive.result (lane_long 0 m c.args.words.now c.requires.size) for in
    omega (arith, lt, lane_size 0 c.args.words.now)

pub returns-clause-fit : goal.returns-clause-fit
returns-clause-fit c k lt =
    let m = c.args.circuit.now in
    let for = is_for m c.args.drive c.assignments.result.now c.index-assignments-drive.result c.assignments.ensures (let lt = set_within c.args.stale.now c.args.drive c.requires.marked in let n = c.assignments.ensures.count in omega (arith, lt, n, c.requires.stale)) c.index-assignments-drive.is in
    (computed m c.args.drive c.index-assignments-drive.result (lane k c.args.words.now) (lane k c.write.new.words) (get_or c.word_given-word.result k 0) c.args.stale.now c.clear.new.self c.write.new.stale c.args.due.now c.write.new.due
    c.requires.sound (lane_long k m c.args.words.now c.requires.size) for
    (c.word_given-word.ensures k lt) (set_within c.args.stale.now c.args.drive c.requires.marked) (c.requires.fit k lt) (c.requires.held k lt) c.clear.ensures (c.write.ensures.words k lt) (c.write.ensures.same k lt) c.write.ensures.ahead).fit

pub returns-clause-held : goal.returns-clause-held
returns-clause-held c k lt =
    let m = c.args.circuit.now in
    let for = is_for m c.args.drive c.assignments.result.now c.index-assignments-drive.result c.assignments.ensures (let lt = set_within c.args.stale.now c.args.drive c.requires.marked in let n = c.assignments.ensures.count in omega (arith, lt, n, c.requires.stale)) c.index-assignments-drive.is in
    (computed m c.args.drive c.index-assignments-drive.result (lane k c.args.words.now) (lane k c.write.new.words) (get_or c.word_given-word.result k 0) c.args.stale.now c.clear.new.self c.write.new.stale c.args.due.now c.write.new.due
    c.requires.sound (lane_long k m c.args.words.now c.requires.size) for
    (c.word_given-word.ensures k lt) (set_within c.args.stale.now c.args.drive c.requires.marked) (c.requires.fit k lt) (c.requires.held k lt) c.clear.ensures (c.write.ensures.words k lt) (c.write.ensures.same k lt) c.write.ensures.ahead).held

pub returns-clause-given : goal.returns-clause-given
returns-clause-given c k lt =
    let m = c.args.circuit.now in
    let for = is_for m c.args.drive c.assignments.result.now c.index-assignments-drive.result c.assignments.ensures (let lt = set_within c.args.stale.now c.args.drive c.requires.marked in let n = c.assignments.ensures.count in omega (arith, lt, n, c.requires.stale)) c.index-assignments-drive.is in
    (computed m c.args.drive c.index-assignments-drive.result (lane k c.args.words.now) (lane k c.write.new.words) (get_or c.word_given-word.result k 0) c.args.stale.now c.clear.new.self c.write.new.stale c.args.due.now c.write.new.due
    c.requires.sound (lane_long k m c.args.words.now c.requires.size) for
    (c.word_given-word.ensures k lt) (set_within c.args.stale.now c.args.drive c.requires.marked) (c.requires.fit k lt) (c.requires.held k lt) c.clear.ensures (c.write.ensures.words k lt) (c.write.ensures.same k lt) c.write.ensures.ahead).given

pub returns-clause-clear : goal.returns-clause-clear
returns-clause-clear c =
    let m = c.args.circuit.now in
    let for = is_for m c.args.drive c.assignments.result.now c.index-assignments-drive.result c.assignments.ensures (let lt = set_within c.args.stale.now c.args.drive c.requires.marked in let n = c.assignments.ensures.count in omega (arith, lt, n, c.requires.stale)) c.index-assignments-drive.is in
    (computed m c.args.drive c.index-assignments-drive.result (lane 0 c.args.words.now) (lane 0 c.write.new.words) (get_or c.word_given-word.result 0 0) c.args.stale.now c.clear.new.self c.write.new.stale c.args.due.now c.write.new.due
    c.requires.sound (lane_long 0 m c.args.words.now c.requires.size) for
    (c.word_given-word.ensures 0 (omega arith)) (set_within c.args.stale.now c.args.drive c.requires.marked) (c.requires.fit 0 (omega arith)) (c.requires.held 0 (omega arith)) c.clear.ensures (c.write.ensures.words 0 (omega arith)) (c.write.ensures.same 0 (omega arith)) c.write.ensures.ahead).clear
