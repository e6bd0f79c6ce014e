use Rattle.std.proofs.Common.{rules, ◌≡◌, ◌∙◌, ◌<◌, ◌++◌, ◌∷◌, [], ℕ, List, true, false, Some, length, sym, ap}
use Rattle.std.specs.Prelude.{slice_get}
use Rattle.av_flat.specs.declared.flat.Kind.TheVariants as kind
use Rattle.av_flat.specs.Nodes.{nodes}
use Rattle.av_flat.specs.Signatures.{is_kind}
use Rattle.av_flat.specs.Trees.{view_system, view_variable}
use Rattle.av_space.proofs.ByPlace.{read_at}
use Rattle.av_space.proofs.OnCells.{node_within}
use Rattle.av_space.proofs.OutputCells.{one_output_more, no_output_more}
use Rattle.av_space.proofs.shown.output_cells.Goals as goal
use Rattle.av_space.proofs.shown.output_cells.Goals.{then-is_output+in_ok-push, else-is_output}

pub variable-var-requires : goal.variable-var-requires
variable-var-requires c =
    let s = view_system c.args.scheduled.now.timed.flat in
    let l = c.args.scheduled.now.layout in
    let x = c.cell-item.result in
    let lt : c.loop-number.number < length c.cells-cell-items.result.now = search rules in
    let here = read_at l.cells c.cells-cell-items.result.now c.loop-number.number x c.cells-cell-items.ensures.is lt c.cell-item.is in
    node_within s l.placements l.cells c.loop-number.number x c.cells-cell-items.ensures.scheduled.layout.are_cells here

pub loop-number-preserved : goal.loop-number-preserved
loop-number-preserved c =
    let s = view_system c.args.scheduled.now.timed.flat in
    let l = c.args.scheduled.now.layout in
    let k = c.loop-number.number in
    let x = c.cell-item.result in
    let v = view_variable c.variable-var.result.now in
    let lt : k < length c.cells-cell-items.result.now = search rules in
    let here = read_at l.cells c.cells-cell-items.result.now k x c.cells-cell-items.ensures.is lt c.cell-item.is in
    let var : slice_get (nodes s) x.node ≡ Some v = c.variable-var.ensures in
    elim c.if-is_output.branch [
      | then-is_output+in_ok-push w ↦
          let new : c.if-is_output.outputs ≡ c.loop-number.outputs ++ k ∷ [] = w.outputs-is ∙ w.in_ok-push.ensures.ok in
          let t : is_kind v.kind kind.Output ≡ true = sym c.is_output.ensures ∙ w.if-is_output.true in
          new ∙ ap (λ (xs : List ℕ). xs ++ k ∷ []) c.loop-number.invariant ∙ sym (one_output_more s l.cells k x v here var t)
      | else-is_output w ↦
          let same : c.if-is_output.outputs ≡ c.loop-number.outputs = w.outputs-is in
          let f : is_kind v.kind kind.Output ≡ false = sym c.is_output.ensures ∙ w.if-is_output.false in
          same ∙ c.loop-number.invariant ∙ sym (no_output_more s l.cells k x v here var f)
    ]
