use Rattle.std.proofs.Common.{◌≡◌, ◌<◌, subst, arith}
use Rattle.std.specs.Prelude.{All}
use Rattle.std.proofs.lemmas.List.Elements.{All-weaker}
use Rattle.av_base.proofs.Lists.{all_at}
use Rattle.av_data.specs.declared.stimulus.Stimulus.{Stimulus}
use Rattle.av_lanes.specs.Seen.{lane}
use Rattle.av_commands.specs.inner.Watching.{watched}
use Rattle.av_commands.proofs.Watched.{tap_named}
use Rattle.av_commands.proofs.LanesWatched.{first_watching, lanes_go_on}
use Rattle.av_commands.proofs.lane_showing.clock_lanes_and_note.Goals as goal

pub loop-cycle-init : goal.loop-cycle-init
loop-cycle-init c =
    first_watching c.args.lanes.now.of c.args.stimuli.now c.args.lines.now c.args.lanes.now c.reset.new.self c.args.rows.now c.requires.sound c.requires.few c.reset.ensures.of c.reset.ensures.edge c.requires.left c.requires.zeros

pub loop-cycle-preserved : goal.loop-cycle-preserved
loop-cycle-preserved c =
    let m = c.args.lanes.now.of in
    let stimuli = c.args.stimuli.now in
    let lines = c.args.lines.now in
    let lt = c.loop-cycle-test.true in
    let early : All (λ (s : Stimulus). c.loop-cycle.cycle < s.cycles) stimuli = All-weaker (λ (s : Stimulus). s.cycles ≡ c.args.cycles) (λ (s : Stimulus). c.loop-cycle.cycle < s.cycles) (λ s same. omega (arith, lt, same)) stimuli c.requires.cycles in
    lanes_go_on m stimuli lines c.args.inputs c.loop-cycle.cycle c.loop-cycle.lanes c.present_in_lanes.new.lanes c.settle.new.self c.tick.new.self c.loop-cycle.next c.present_in_lanes.new.next c.loop-cycle.rows c.note_lanes.new.rows
    c.requires.sound c.requires.few c.requires.count c.loop-cycle.invariant (tap_named m lines c.args.taps.now c.requires.sound c.requires.taps)
    c.present_in_lanes.ensures.of c.settle.ensures.of c.tick.ensures.of c.present_in_lanes.ensures.ports c.present_in_lanes.ensures.registers c.settle.ensures.settled c.settle.ensures.given
    c.note_lanes.ensures c.tick.ensures.edge c.present_in_lanes.ensures.left early

pub returns : goal.returns
returns c = λ k s at stream run stimulated is.
    let end : c.loop-cycle.cycle ≡ s.cycles =
    (let test = c.loop-cycle-test.false in let last = c.loop-cycle.auto.cycle-end in let same = all_at (λ (t : Stimulus). t.cycles ≡ c.args.cycles) c.args.stimuli.now k s c.requires.cycles at in omega (arith, test, last, same)) in
    subst (λ n. lane k c.loop-cycle.rows ≡ watched run.in_cycle n c.args.lines.now) end (c.loop-cycle.invariant.watched_so k s at stream run stimulated is)
