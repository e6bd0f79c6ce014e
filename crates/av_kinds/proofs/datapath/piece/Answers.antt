use Rattle.std.proofs.Common.{◌≡◌, ◌∙◌, List, length, subst, ap, arith}
use Rattle.av_net.specs.declared.operation.Operand.{Operand}
use Rattle.av_flat.specs.declared.tree.Tree.{Tree as TreeMade}
use Rattle.av_flat.specs.Trees.{view}
use Rattle.av_kinds.specs.declared.choice.Tap.{Tap}
use Rattle.av_kinds.specs.inner.Cells.{operand_at, taps_built, piece_built}
use Rattle.av_kinds.specs.Programs.{site_count}
use Rattle.av_kinds.specs.inner.Trees.{tree_built}
use Rattle.av_kinds.specs.inner.Numbered.{wire_in}
use Rattle.av_kinds.specs.inner.Added.{AddsBuilt, DatapathMade}
use Rattle.av_kinds.proofs.Added.{if_ok_map}
use Rattle.av_kinds.proofs.Steps.{tree_added, piece_over, taken_many}
use Rattle.av_kinds.proofs.datapath.piece.Goals as goal

pub tree-requires : goal.tree-requires
tree-requires c =
    let taps : c.as_slice-taps.result.now ≡ c.args.datapath.now.taps = c.as_slice-taps.ensures ∙ ap (λ (p : DatapathMade). p.taps) c.datapath.view_is in
    let tree : c.datapath.inside.tree.now ≡ c.args.datapath.now.tree = ap (λ (p : DatapathMade). p.tree) c.datapath.view_is in
    let taken = c.in_ok-operands-in_default.ensures in
    let many : length c.as_slice.result.now ≡ length c.as_slice-taps.result.now =
    ap (λ (xs : List Operand). length xs) (c.as_slice.ensures ∙ taken.operands_are) ∙ taken_many (wire_in c.args.names) c.args.width c.args.counter.now (length c.args.gates.now.items) c.as_slice-taps.result.now in
    let same : length c.as_slice-taps.result.now ≡ length c.args.datapath.now.taps = ap (λ (xs : List Tap). length xs) taps in
    let counted : site_count (view c.datapath.inside.tree.now) ≡ site_count (view c.args.datapath.now.tree) = ap (λ (t : TreeMade). site_count (view t)) tree in
    omega (arith, many, same, counted, c.requires)

pub returns-in_ok-operands-in_default : goal.returns-in_ok-operands-in_default
returns-in_ok-operands-in_default c =
    let name = wire_in c.args.names in
    let w = c.args.width in
    let counter = c.args.counter.now in
    let g0 = c.args.gates.now.items in
    let g1 = c.selections.new.gates.items in
    let g2 = c.tree.new.gates.items in
    let t = c.datapath.inside.tree.now in
    let taps : c.as_slice-taps.result.now ≡ c.args.datapath.now.taps = c.as_slice-taps.ensures ∙ ap (λ (p : DatapathMade). p.taps) c.datapath.view_is in
    let tree : t ≡ c.args.datapath.now.tree = ap (λ (p : DatapathMade). p.tree) c.datapath.view_is in
    if_ok_map _ _ (λ root h.
    subst (λ (u : TreeMade). AddsBuilt g0 g2 (piece_built name w counter (length g0) c.args.datapath.now.taps (view u)) root) tree
    (subst (λ (xs : List Tap). AddsBuilt g0 g2 (piece_built name w counter (length g0) xs (view t)) root) taps
    (piece_over name w counter g0 g2 c.as_slice-taps.result.now t root c.in_default.not-Ref c.in_default.not-Pick
    (tree_added name w g0 g1 g2 (taps_built name w counter (length g0) c.as_slice-taps.result.now) c.in_ok-operands-in_default.operands (view t) root c.in_ok-operands-in_default.ensures
    (subst (λ (xs : List Operand). AddsBuilt g1 g2 (tree_built name w (operand_at w xs) (length g1) 0 (view t)) root) c.as_slice.ensures h)))))
    c.tree.result c.tree.ensures.root
