use Rattle.std.proofs.Common.{rules, ◌≡◌, ◌≤◌, ◌+◌, List, ℕ, sym, subst, arith}
use Rattle.av_tree.specs.Trees.{Text}
use Rattle.av_space.specs.inner.Showing.{AreWires}
use Rattle.av_space.proofs.ShownLines.{no_wires, wire_more}
use Rattle.av_space.proofs.shown.wires_of.Goals as goal

pub loop-cell-init : goal.loop-cell-init
loop-cell-init c = subst (λ (ws : List Text). AreWires c.args.outputs.now 0 ws) (sym c.new-wires.ensures) (no_wires c.args.outputs.now)

pub loop-cell-preserved : goal.loop-cell-preserved
loop-cell-preserved c =
    subst (λ (ws : List Text). AreWires c.args.outputs.now (c.loop-cell.cell + 1) ws) (sym c.in_ok-push.ensures.ok) (wire_more c.args.outputs.now c.loop-cell.cell c.loop-cell.wires c.in_ok-wire_of.field-0 c.in_ok-wire_of.ensures c.loop-cell.invariant)

pub returns : goal.returns
returns c =
    let over : c.args.count ≤ c.loop-cell.cell = search rules in
    let end : c.loop-cell.cell ≤ c.args.count = search rules in
    let same : c.loop-cell.cell ≡ c.args.count = omega (arith, over, end) in
    subst (λ (n : ℕ). AreWires c.args.outputs.now n c.loop-cell.wires) same c.loop-cell.invariant
