use Rattle.std.proofs.Common.{◌≡◌, ◌∙◌, sym, ap, subst, List, Option, All}
use Rattle.std.specs.Prelude.{slice_get}
use Rattle.std.specs.List.{flat_map}
use Rattle.std.proofs.lemmas.Result.{IfOk-weaker}
use Rattle.av_tree.specs.Points.{Point}
use Rattle.av_flat.specs.declared.flat.Piece.{Piece as PieceMade}
use Rattle.av_flat.specs.Trees.{Variable, view, view_variable, view_system}
use Rattle.av_flat.specs.Nodes.{nodes}
use Rattle.av_flat.specs.Broadcasts.{references}
use Rattle.av_sched.specs.Order.{references_of}
use Rattle.av_sched.specs.inner.Ways.{HasSmallReferences, ways_of}
use Rattle.av_flat.proofs.NodeNumbers.{chained_node}
use Rattle.av_sched.proofs.Ways.{small_seen, pieces_seen}
use Rattle.av_sched.proofs.cost.ways_of_node.Goals as goal

pub ways_of_pieces-requires : goal.ways_of_pieces-requires
ways_of_pieces-requires c =
    let s = view_system c.args.flat.now in
    let a = c.variable_of-var.result.now in
    subst (All (λ (p : PieceMade). HasSmallReferences (view p.tree))) (sym c.as_slice.ensures) (small_seen s a (chained_node s c.args.node.0 (view_variable a) c.requires.chained c.variable_of-var.ensures))

pub returns : goal.returns
returns c =
    let s = view_system c.args.flat.now in
    let a = c.variable_of-var.result.now in
    let seen = ap ways_of (ap (λ (ps : List PieceMade). flat_map (λ (p : PieceMade). references (view p.tree)) ps) c.as_slice.ensures ∙ sym (pieces_seen a.pieces)) in
    let whole = seen ∙ ap (λ (o : Option Variable). ways_of (references_of o)) (sym c.variable_of-var.ensures) in
    IfOk-weaker c.ways_of_pieces.result (λ (ways : List (List Point)). ways ≡ ways_of (flat_map (λ (p : PieceMade). references (view p.tree)) c.as_slice.result.now)) (λ (ways : List (List Point)). ways ≡ ways_of (references_of (slice_get (nodes s) c.args.node.0)))
    (λ ways e. e ∙ whole) c.ways_of_pieces.ensures
