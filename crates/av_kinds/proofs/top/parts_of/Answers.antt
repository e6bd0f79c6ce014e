use Rattle.std.proofs.Common.{◌≡◌, ◌+◌, List, length, refl, ap, arith}
use Rattle.std.proofs.lemmas.List.{length-map}
use Rattle.av_kinds.specs.Written.{LaneMade, ProgramMade, lane_of, program_of}
use Rattle.av_kinds.proofs.Writing.{top_more, top_whole}
use Rattle.av_kinds.proofs.top.parts_of.Goals as goal

pub loop-number-preserved : goal.loop-number-preserved
loop-number-preserved c =
    top_more (program_of c.args.program.now) c.loop-number.number (c.loop-number.number + 1) c.loop-number.parts c.add_lane.new.parts refl c.loop-number.invariant c.in_ok-add_lane.ensures

pub returns : goal.returns
returns c =
    let lanes : c.program.inside.lanes ≡ c.args.program.now.lanes = ap (λ (p : ProgramMade). p.lanes) c.program.view_is in
    top_whole (program_of c.args.program.now) c.loop-number.number c.loop-number.parts
    (omega (arith, c.loop-number-test.false, c.len-number-end.ensures.count, ap (λ (xs : List LaneMade). length xs) lanes, length-map c.args.program.now.lanes lane_of)) c.loop-number.invariant
