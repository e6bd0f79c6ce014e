use Rattle.av_kinds.proofs.Added.{on_ok_both}
use Rattle.av_kinds.proofs.KindSteps.{lane_written}
use Rattle.av_kinds.proofs.kind.add_lane.Goals as goal

pub returns : goal.returns
returns c =
    on_ok_both c.add_output.result
    (lane_written c.args.counter.now c.args.name c.args.width c.args.lane.now c.args.parts.now (record { first = c.len.result }) c.new-gates.result.items c.modes.new.gates.items c.in_ok-root.root c.add_output.new.outputs c.add_gates.new.wires c.add_gates.new.drives c.add_output.new.drives
    c.len.ensures.count c.new-gates.ensures.items c.in_ok-root.ensures c.in_ok-add_gates.ensures.wires c.in_ok-add_gates.ensures.drives)
    c.add_output.ensures.outputs c.add_output.ensures.drives
