use Rattle.std.proofs.Common.{rules, ◌≡◌, ◌∙◌, ◌<◌, ◌≤◌, ℕ, List, true, false, length, sym, ap, subst, arith}
use Rattle.av_tree.specs.Trees.{Text}
use Rattle.av_flat.specs.Nodes.{nodes}
use Rattle.av_flat.specs.Signatures.{is_shown}
use Rattle.av_flat.specs.Trees.{view_system, view_variable}
use Rattle.av_space.specs.declared.cells.Cell.{Cell}
use Rattle.av_space.specs.inner.Showing.{AreWires, AreLinesBelow}
use Rattle.av_space.proofs.ShownLines.{outputs_rise, no_lines, not_shown, whole_system}
use Rattle.av_space.proofs.shown.at_lines.Goals as goal

pub loop-node-init : goal.loop-node-init
loop-node-init c =
    let l = c.args.scheduled.now.layout in
    let s = view_system c.args.scheduled.now.timed.flat in
    subst (AreLinesBelow c.args.scheduled.now c.args.outputs.now 0) (sym c.new-lines.ensures) (no_lines s l.placements l.cells c.args.outputs.now (λ m z. m < 0) (λ m z lt. absurd (omega (arith, lt))))

pub loop-node-preserved-then-not-is_shown : goal.loop-node-preserved-then-not-is_shown
loop-node-preserved-then-not-is_shown c =
    let l = c.args.scheduled.now.layout in
    let s = view_system c.args.scheduled.now.timed.flat in
    let v = view_variable c.variable-var.result.now in
    let f : c.is_shown.result ≡ false = search rules in
    let hidden : is_shown v.kind ≡ false = sym c.is_shown.ensures ∙ f in
    not_shown s l.placements l.cells c.args.outputs.now c.loop-node.node v c.loop-node.lines c.variable-var.ensures (λ t. absurd cc) c.loop-node.invariant

pub wires_of-requires-clause-order : goal.wires_of-requires-clause-order
wires_of-requires-clause-order c = outputs_rise (view_system c.args.scheduled.now.timed.flat) c.args.scheduled.now.layout.cells c.args.outputs.now c.requires

pub wires_of-requires-clause-few : goal.wires_of-requires-clause-few
wires_of-requires-clause-few c = let many = ap (λ (cells : List Cell). length cells) c.cells-cells.ensures.is in let few = c.cells-cells.ensures.scheduled.layout.few_cells in omega (arith, many, few)

pub add_lines-requires-clause-node : goal.add_lines-requires-clause-node
add_lines-requires-clause-node c =
    let outputs = c.args.outputs.now in
    let t : c.is_shown.result ≡ true = search rules in
    let many = ap (λ (cells : List Cell). length cells) c.cells-cells.ensures.is in
    record {
      scheduled = c.cells-cells.ensures.scheduled;
      outputs = c.requires;
      wires = subst (λ (wires : List Text). AreWires outputs (length c.args.scheduled.now.layout.cells) wires) (sym c.as_slice-wires.ensures) (subst (λ (n : ℕ). AreWires outputs n c.in_ok-names.names) many c.in_ok-names.ensures);
      is_variable = c.variable-var.ensures;
      is_shown = sym c.is_shown.ensures ∙ t;
    }

pub add_lines-requires-clause-old : goal.add_lines-requires-clause-old
add_lines-requires-clause-old c = c.loop-node.invariant

pub loop-node-preserved : goal.loop-node-preserved
loop-node-preserved c = c.in_ok-add_lines.ensures

pub returns : goal.returns
returns c =
    let t = c.args.scheduled.now.timed in
    let l = c.args.scheduled.now.layout in
    let s = view_system t.flat in
    let over : c.node_count-node-end.result ≤ c.loop-node.node = search rules in
    let many : length (nodes s) ≤ c.loop-node.node = (let count = c.node_count-node-end.ensures in omega (arith, over, count)) in
    whole_system s l.placements l.cells c.args.outputs.now c.loop-node.node c.loop-node.lines many c.loop-node.invariant
