use Rattle.std.proofs.Common.{List, [], sym, subst}
use Rattle.av_flat.specs.Trees.{view_system}
use Rattle.av_net.specs.declared.design.Entry.{Entry}
use Rattle.av_space.specs.declared.cells.InPort.{InPort}
use Rattle.av_space.specs.inner.NodePieces.{ArePortsOf}
use Rattle.av_space.proofs.Fed.{first_ports}
use Rattle.av_space.proofs.ports.input_ports.Goals as goal

pub add_nodes-requires : goal.add_nodes-requires
add_nodes-requires c =
    let t = c.args.scheduled.now.timed in
    let l = c.args.scheduled.now.layout in
    let first = first_ports (view_system t.flat) t.helpers l.placements l.cells in
    subst (λ (inputs : List InPort). ArePortsOf c.args.scheduled.now 0 0 0 (record { inputs = inputs; ins = c.new-2.result })) (sym c.new.ensures)
    (subst (λ (ins : List Entry). ArePortsOf c.args.scheduled.now 0 0 0 (record { inputs = []; ins = ins })) (sym c.new-2.ensures) first)
