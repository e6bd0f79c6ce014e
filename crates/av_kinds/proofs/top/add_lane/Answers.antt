use Rattle.std.proofs.Common.{◌≡◌, ◌∙◌, List, get_or, ap}
use Rattle.std.proofs.lemmas.Result.{on_ok_weaker}
use Rattle.av_kinds.specs.Written.{LaneMade, ProgramMade, lane_of, program_of}
use Rattle.av_kinds.proofs.Placing.{read_mapped}
use Rattle.av_kinds.proofs.TopSteps.{lane_added}
use Rattle.av_kinds.proofs.top.add_lane.Goals as goal

pub returns : goal.returns
returns c =
    let q = c.args.number in
    let lanes = c.args.program.now.lanes in
    let x = c.index-as_slice-number.result in
    let all : c.as_slice.result.now ≡ lanes = c.as_slice.ensures ∙ ap (λ (p : ProgramMade). p.lanes) c.program.view_is in
    let is : x ≡ get_or lanes q x = c.index-as_slice-number.is ∙ ap (λ (ls : List LaneMade). get_or ls q x) all in
    on_ok_weaker c.add_steps.result
    (lane_added (program_of c.args.program.now) q c.lane_names-names.result (lane_of x) c.args.parts.now c.add_wire.new.wires c.add_registers.new.registers c.add_steps.new.steps c.lane.inside.width c.lane.inside.length
    c.lane_names-names.ensures (read_mapped lane_of lanes q x x c.requires is) (ap (λ (l : LaneMade). l.width) c.lane.view_is) (ap (λ (l : LaneMade). l.length) c.lane.view_is)
    c.in_ok-add_wire.ensures c.in_ok-add_registers.ensures)
    c.add_steps.ensures
