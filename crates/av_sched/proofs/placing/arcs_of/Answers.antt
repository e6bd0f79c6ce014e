use Rattle.std.proofs.Common.{◌<◌, length, rules, arith}
use Rattle.std.proofs.lemmas.Grind.{common_steps}
use Rattle.av_sched.proofs.Settling.{zip_more}
use Rattle.av_sched.specs.Leads.{IsArcOf}
use Rattle.av_sched.proofs.placing.arcs_of.Goals as goal

pub loop-edge-preserved : goal.loop-edge-preserved
loop-edge-preserved c =
    let l : c.loop-edge.edge-index < length c.args.edges.now = search rules in
    rw c.in_ok-push.ensures.items (zip_more (IsArcOf c.args.linear.now) c.args.edges.now c.loop-edge.arcs.items c.loop-edge.edge-index c.edge-item.result c.arc_of.result l c.edge-item.is c.loop-edge.invariant c.arc_of.ensures)

pub returns : goal.returns
returns c = grind (arith, common_steps)
