use Rattle.std.proofs.Common.{◌≡◌, ◌∙◌, ◌+◌, ◌-◌, suc, List, map, take, drop, ap, arith}
use Rattle.av_kinds.specs.Written.{LaneMade, ProgramMade, lane_of}
use Rattle.av_kinds.proofs.Placing.{part_seen}
use Rattle.av_kinds.proofs.program.cell_lanes.Goals as goal

pub returns : goal.returns
returns c =
    let first = c.args.own.first in
    let n = c.args.own.value + 1 - first in
    let lanes = c.args.program.now.lanes in
    let all : c.as_slice.result.now ≡ lanes = c.as_slice.ensures ∙ ap (λ (p : ProgramMade). p.lanes) c.program.view_is in
    let many : n ≡ suc (c.args.own.value - first) = omega (arith, c.requires.bounds) in
    ap (λ (xs : List LaneMade). map lane_of (take n (drop first xs))) all ∙ part_seen lane_of lanes first n (suc (c.args.own.value - first)) many
