use Rattle.std.proofs.Common.{◌∙◌, ap, length}
use Rattle.std.proofs.lemmas.List.{length-set}
use Rattle.av_lanes.specs.Seen.{lane, carried}
use Rattle.av_lanes.proofs.ByLane.{lane_size}
use Rattle.av_commands.proofs.Fed.{at_index}
use Rattle.av_commands.proofs.Watched.{tap_within, mixed_all}
use Rattle.av_commands.proofs.LanesWatched.{lane_noted, lane_passed}
use Rattle.av_commands.proofs.lane_showing.note_lanes.Goals as goal
use Rattle.av_commands.proofs.lane_showing.note_lanes.Goals.{then-line-cycle, else-line-cycle}

pub value-requires-clause-place : goal.value-requires-clause-place
value-requires-clause-place c =
    let lines = c.args.lines.now in
    tap_within c.args.lanes.now.of lines c.args.taps.now c.loop-i.i c.index-lines-i.result c.requires.taps (at_index lines c.loop-i.i c.index-lines-i.result c.loop-i-test.true c.index-lines-i.is)

pub loop-i-preserved : goal.loop-i-preserved
loop-i-preserved c =
    let lines = c.args.lines.now in
    let i = c.loop-i.i in
    let line = c.index-lines-i.result in
    let there = at_index lines i line c.loop-i-test.true c.index-lines-i.is in
    let inv = c.loop-i.invariant in
    elim c.if-line-cycle.branch [
      | then-line-cycle w ↦ (
        λ k lt.
            lane_noted c.args.lanes.now.of lines c.args.taps.now (carried k c.args.lanes.now) k c.args.cycle i line w.value.result c.args.rows.now c.loop-i.rows c.if-line-cycle.rows c.requires.taps there c.requires.room (inv.0 k lt)
            w.if-line-cycle.true (w.value.ensures.word k lt) (w.rows-is ∙ w.set.ensures),
        ap length (w.rows-is ∙ w.set.ensures) ∙ length-set c.loop-i.rows i w.value.result ∙ inv.1,
      )
      | else-line-cycle w ↦ (
        λ k lt. lane_passed lines (carried k c.args.lanes.now) k c.args.cycle i line c.args.rows.now c.loop-i.rows c.if-line-cycle.rows there c.requires.room (inv.0 k lt) w.if-line-cycle.false w.rows-is,
        ap length w.rows-is ∙ inv.1,
      )
    ]

pub returns : goal.returns
returns c = λ k lt.
    let start = c.args.rows.now in
    c.loop-i.invariant.0 k lt ∙ mixed_all (carried k c.args.lanes.now) c.args.cycle c.loop-i.i c.args.lines.now (lane k start) c.loop-i-test.false (lane_size k start ∙ c.requires.room)
