use Rattle.std.proofs.Common.{◌≤◌, ◌∙◌, sym, length, map, subst, arith}
use Rattle.std.proofs.lemmas.List.{length-map}
use Rattle.av_clock.proofs.Computing.{computes_none, have_settled}
use Rattle.av_clock.proofs.Settling.{assignment_takes, target_within}
use Rattle.av_lanes.specs.Seen.{lane}
use Rattle.av_lanes.specs.inner.Forms.{assignment_of}
use Rattle.av_lanes.proofs.ByLane.{lane_size}
use Rattle.av_lanes.proofs.Forming.{formed_at, formed_within, formed_one, formed_masked}
use Rattle.av_lanes.proofs.LanePasses.{lane_long, computes_lane}
use Rattle.av_lanes.proofs.passes.settle.Goals as goal

pub word_formed-requires-clause-takes : goal.word_formed-requires-clause-takes
word_formed-requires-clause-takes c k lt =
    let m = c.args.circuit.now in
    let one = formed_one m c.args.drives.now c.loop-drive.drive-index c.drive-item.result c.requires.formed c.loop-drive-test.true c.drive-item.is in
    assignment_takes m (lane k c.loop-drive.words) one.place (assignment_of c.drive-item.result) c.requires.sound (lane_long k m c.loop-drive.words (c.loop-drive.auto.words ∙ c.requires.size)) one.for (c.loop-drive.invariant k lt).fit

pub word_formed-requires-clause-masked : goal.word_formed-requires-clause-masked
word_formed-requires-clause-masked c = formed_masked c.args.circuit.now c.args.drives.now c.loop-drive.drive-index c.drive-item.result c.requires.formed c.loop-drive-test.true c.drive-item.is

pub bounds-words-drive : goal.bounds-words-drive
bounds-words-drive c =
    let m = c.args.circuit.now in
    let one = formed_one m c.args.drives.now c.loop-drive.drive-index c.drive-item.result c.requires.formed c.loop-drive-test.true c.drive-item.is in
    let lt = target_within m (lane 0 c.loop-drive.words) one.place (assignment_of c.drive-item.result) (lane_long 0 m c.loop-drive.words (c.loop-drive.auto.words ∙ c.requires.size)) one.for in
    omega (arith, lt, lane_size 0 c.loop-drive.words)

pub offset_bounds-words-drive : goal.offset_bounds-words-drive
offset_bounds-words-drive c =
    let m = c.args.circuit.now in
    let one = formed_one m c.args.drives.now c.loop-drive.drive-index c.drive-item.result c.requires.formed c.loop-drive-test.true c.drive-item.is in
    let lt = target_within m (lane 0 c.loop-drive.words) one.place (assignment_of c.drive-item.result) (lane_long 0 m c.loop-drive.words (c.loop-drive.auto.words ∙ c.requires.size)) one.for in
    omega (arith, lt, lane_size 0 c.loop-drive.words)

pub loop-drive-init : goal.loop-drive-init
loop-drive-init c k lt = computes_none c.args.circuit.now (map assignment_of c.args.drives.now) (lane k c.args.words.now) (c.requires.fit k lt)

pub loop-drive-preserved : goal.loop-drive-preserved
loop-drive-preserved c k lt =
    let m = c.args.circuit.now in
    let one = formed_one m c.args.drives.now c.loop-drive.drive-index c.drive-item.result c.requires.formed c.loop-drive-test.true c.drive-item.is in
    computes_lane k m (map assignment_of c.args.drives.now) c.args.words.now c.loop-drive.words c.loop-drive.drive-index (assignment_of c.drive-item.result) c.word_formed.result c.requires.sound (c.loop-drive.auto.words ∙ c.requires.size)
    (formed_within c.args.drives.now c.loop-drive.drive-index c.loop-drive-test.true) (formed_at c.args.drives.now c.loop-drive.drive-index c.drive-item.result c.loop-drive-test.true c.drive-item.is) one (c.word_formed.ensures k lt) (c.loop-drive.invariant k lt)

pub returns-clause-settled : goal.returns-clause-settled
returns-clause-settled c k lt =
    let m = c.args.circuit.now in
    let are = c.requires.formed.computed in
    let past : length (map assignment_of c.args.drives.now) ≤ c.loop-drive.drive-index = subst (λ n. n ≤ c.loop-drive.drive-index) (sym (length-map c.args.drives.now assignment_of)) c.loop-drive-test.false in
    (have_settled m are.assignments (map assignment_of c.args.drives.now) (lane k c.args.words.now) (lane k c.loop-drive.words) c.loop-drive.drive-index c.requires.sound (lane_long k m c.args.words.now c.requires.size) are.assigned are.filtered
    (c.requires.zeros k lt) past (c.loop-drive.invariant k lt)).settled

pub returns-clause-given : goal.returns-clause-given
returns-clause-given c k lt =
    let m = c.args.circuit.now in
    let are = c.requires.formed.computed in
    let past : length (map assignment_of c.args.drives.now) ≤ c.loop-drive.drive-index = subst (λ n. n ≤ c.loop-drive.drive-index) (sym (length-map c.args.drives.now assignment_of)) c.loop-drive-test.false in
    (have_settled m are.assignments (map assignment_of c.args.drives.now) (lane k c.args.words.now) (lane k c.loop-drive.words) c.loop-drive.drive-index c.requires.sound (lane_long k m c.args.words.now c.requires.size) are.assigned are.filtered
    (c.requires.zeros k lt) past (c.loop-drive.invariant k lt)).given

pub returns-clause-fit : goal.returns-clause-fit
returns-clause-fit c k lt = (c.loop-drive.invariant k lt).fit
