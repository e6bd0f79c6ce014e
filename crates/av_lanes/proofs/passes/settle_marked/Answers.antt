use Rattle.std.proofs.Common.{◌<◌, ◌≤◌, ◌∙◌, sym, length, arith, rules}
use Rattle.av_lanes.specs.Seen.{lane}
use Rattle.av_lanes.proofs.LanePasses.{marked_none, marked_more, marked_all}
use Rattle.av_lanes.proofs.passes.settle_marked.Goals as goal

pub loop-drive-init : goal.loop-drive-init
loop-drive-init c k lt =
    marked_none c.args.circuit.now (lane k c.args.words.now) c.args.stale.now c.args.due.now c.next-drive.result c.requires.stale c.requires.due (c.requires.fit k lt) (c.requires.held k lt)
    c.next-drive.ensures.within c.next-drive.ensures.clear c.next-drive.ensures.set

pub loop-drive-preserved : goal.loop-drive-preserved
loop-drive-preserved c k lt =
    let m = c.args.circuit.now in
    let within : c.loop-drive.drive < length m.drives = search rules in
    marked_more m (lane k c.args.words.now) (lane k c.loop-drive.words) (lane k c.compute.new.words) c.loop-drive.stale c.compute.new.stale c.loop-drive.due c.compute.new.due c.loop-drive.drive c.loop-drive.computed c.next-drive-in-loop-drive.result
    (c.loop-drive.invariant k lt) within c.compute.ensures.stale c.compute.ensures.due (c.compute.ensures.fit k lt) (c.compute.ensures.held k lt) (c.compute.ensures.given k lt) c.compute.ensures.clear
    c.next-drive-in-loop-drive.ensures.later c.next-drive-in-loop-drive.ensures.within c.next-drive-in-loop-drive.ensures.clear c.next-drive-in-loop-drive.ensures.set

pub returns-clause-settled : goal.returns-clause-settled
returns-clause-settled c k lt =
    let past : length c.args.circuit.now.drives ≤ c.loop-drive.drive = search rules in
    marked_all c.args.circuit.now (lane k c.args.words.now) (lane k c.loop-drive.words) c.loop-drive.stale c.loop-drive.due c.loop-drive.drive c.loop-drive.computed past (c.loop-drive.invariant k lt)

pub returns-clause-given : goal.returns-clause-given
returns-clause-given c k lt = (c.loop-drive.invariant k lt).given

pub returns-clause-fit : goal.returns-clause-fit
returns-clause-fit c k lt = (c.loop-drive.invariant k lt).fit

pub returns-clause-held : goal.returns-clause-held
returns-clause-held c k lt = (c.loop-drive.invariant k lt).held

pub returns-clause-stale : goal.returns-clause-stale
returns-clause-stale c = (c.loop-drive.invariant 0 (omega arith)).drive_marks ∙ sym c.requires.stale

pub returns-clause-due : goal.returns-clause-due
returns-clause-due c = (c.loop-drive.invariant 0 (omega arith)).step_marks ∙ sym c.requires.due

pub compute-requires-clause-marked : goal.compute-requires-clause-marked
compute-requires-clause-marked c =
    let within : c.loop-drive.drive < length c.args.circuit.now.drives = search rules in
    (c.loop-drive.invariant 0 (omega arith)).marked within

pub compute-requires-clause-stale : goal.compute-requires-clause-stale
compute-requires-clause-stale c = (c.loop-drive.invariant 0 (omega arith)).drive_marks

pub compute-requires-clause-due : goal.compute-requires-clause-due
compute-requires-clause-due c = (c.loop-drive.invariant 0 (omega arith)).step_marks

pub compute-requires-clause-fit : goal.compute-requires-clause-fit
compute-requires-clause-fit c k lt = (c.loop-drive.invariant k lt).fit

pub compute-requires-clause-held : goal.compute-requires-clause-held
compute-requires-clause-held c k lt = (c.loop-drive.invariant k lt).held

pub loop-drive-smaller : goal.loop-drive-smaller
loop-drive-smaller c =
    let within : c.loop-drive.drive < length c.args.circuit.now.drives = search rules in
    let size = c.compute.ensures.stale ∙ (c.loop-drive.invariant 0 (omega arith)).drive_marks in
    let later = c.next-drive-in-loop-drive.ensures.later (omega (arith, within, size)) in
    omega (arith, within, later)

pub overflow_add-computed : goal.overflow_add-computed
overflow_add-computed c =
    let few = (c.loop-drive.invariant 0 (omega arith)).most in
    let within = c.loop-drive-test.true in
    let whole = c.drives.type_inv in
    omega (arith, few, within, whole)
