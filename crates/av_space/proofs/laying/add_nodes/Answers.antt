use Rattle.std.proofs.Common.{List, arith, sym, subst, ℕ, []}
use Rattle.av_space.specs.inner.Laying.{AreCellsIn, AreFilled}
use Rattle.av_space.specs.declared.cells.Cell.{Cell}
use Rattle.av_flat.specs.Trees.{view_system}
use Rattle.av_space.proofs.Laid.{no_cells, none_filled}
use Rattle.av_space.proofs.laying.add_nodes.Goals as goal

pub loop-node-init : goal.loop-node-init
loop-node-init c =
    let s = view_system c.args.timed.now.flat in
    let ps = c.args.placements.now in
    record {
      are = subst (AreCellsIn s ps 0 0) (sym c.requires.cells) (no_cells s ps);
      filled = subst (λ (cs : List Cell). AreFilled s ps cs c.args.slots.now) (sym c.requires.cells) (subst (AreFilled s ps []) (sym c.requires.slots) (none_filled s ps));
    }

pub loop-node-preserved : goal.loop-node-preserved
loop-node-preserved c =
    let k = c.in_ok-add_node.ensures in
    record {
      are = k.cells c.args.placements.now c.placement_at-placement.ensures.is c.loop-node.invariant.are;
      filled = k.slots c.args.placements.now c.placement_at-placement.ensures.is c.loop-node.invariant.filled;
    }

pub returns-clause-cells : goal.returns-clause-cells
returns-clause-cells c =
    subst (λ (n : ℕ). AreCellsIn (view_system c.args.timed.now.flat) c.args.placements.now 0 n c.loop-node.cells) (omega (arith, c.loop-node-test.false, c.loop-node.auto.node-end, c.len-node-end.ensures.count)) c.loop-node.invariant.are
