use Rattle.std.proofs.Common.{◌≡◌, ◌<◌, ◌+◌, ◌∙◌, ℕ, List, ap, sym, subst, arith, length}
use Rattle.std.specs.Prelude.{slice_index_or}
use Rattle.av_tree.specs.Points.{Point}
use Rattle.av_flat.specs.Trees.{view_system}
use Rattle.av_flat.specs.Nodes.{nodes}
use Rattle.av_sched.specs.Parts.{AreParts}
use Rattle.av_sched.proofs.Steps.{parts_at}
use Rattle.av_best.specs.inner.Spans.{ArePointsOf, AreSpansAt, AreSpansTo}
use Rattle.av_best.proofs.Every.{as_many, node_there}
use Rattle.av_best.proofs.Spanning.{parts_small, points_fit, lists_spanned}
use Rattle.av_best.proofs.span.spans_of.Goals as goal

pub points_of-requires-clause-within : goal.points_of-requires-clause-within
points_of-requires-clause-within c =
    let l = c.loop-k-test.true in
    let one = c.requires.lists.2.one_each in
    let e = ap length c.requires.nodes ∙ as_many (view_system c.args.flat.now) in
    omega (arith, l, one, e)

pub spans_at-requires-clause-some : goal.spans_at-requires-clause-some
spans_at-requires-clause-some c = (subst (ArePointsOf (view_system c.args.flat.now) c.loop-k.k) (sym c.as_slice.ensures) c.in_ok-points.ensures).some

pub spans_at-requires-clause-parts : goal.spans_at-requires-clause-parts
spans_at-requires-clause-parts c =
    let s = view_system c.args.flat.now in
    let size = c.requires.lists.0 in
    let k = c.loop-k.k in
    let ns = c.args.nodes.now in
    let items = c.as_slice-in-loop-k.result.now in
    let one = c.requires.lists.2.one_each in
    let t = c.loop-k-test.true in
    let e = ap length c.requires.nodes ∙ as_many s in
    let l : k < length ns = omega (arith, t, one) in
    let within : k < length (nodes s) = omega (arith, t, one, e) in
    let there : slice_index_or ns k 0 ≡ k = ap (λ (xs : List ℕ). slice_index_or xs k 0) c.requires.nodes ∙ node_there s k 0 within in
    let are = subst (λ (n : ℕ). AreParts s size n items) there (parts_at s size ns c.args.lists.now k c.index-lists-k.result items c.requires.lists.2 l c.index-lists-k.is c.as_slice-in-loop-k.ensures) in
    parts_small s size k items c.requires.chained c.requires.lists.1 within are

pub spans_at-requires-clause-fits : goal.spans_at-requires-clause-fits
spans_at-requires-clause-fits c =
    let s = view_system c.args.flat.now in
    let size = c.requires.lists.0 in
    let k = c.loop-k.k in
    let ns = c.args.nodes.now in
    let items = c.as_slice-in-loop-k.result.now in
    let one = c.requires.lists.2.one_each in
    let t = c.loop-k-test.true in
    let e = ap length c.requires.nodes ∙ as_many s in
    let l : k < length ns = omega (arith, t, one) in
    let within : k < length (nodes s) = omega (arith, t, one, e) in
    let there : slice_index_or ns k 0 ≡ k = ap (λ (xs : List ℕ). slice_index_or xs k 0) c.requires.nodes ∙ node_there s k 0 within in
    let are = subst (λ (n : ℕ). AreParts s size n items) there (parts_at s size ns c.args.lists.now k c.index-lists-k.result items c.requires.lists.2 l c.index-lists-k.is c.as_slice-in-loop-k.ensures) in
    points_fit s size k items c.requires.chained c.requires.lists.1 within are c.as_slice.result.now (subst (ArePointsOf s k) (sym c.as_slice.ensures) c.in_ok-points.ensures)

pub loop-k-preserved : goal.loop-k-preserved
loop-k-preserved c =
    let s = view_system c.args.flat.now in
    let k = c.loop-k.k in
    let own = subst (λ (xs : List Point). AreSpansAt s k xs c.in_ok-spans_at.field-0) c.as_slice-in-loop-k.ensures (c.in_ok-spans_at.ensures s k (subst (ArePointsOf s k) (sym c.as_slice.ensures) c.in_ok-points.ensures)) in
    subst (AreSpansTo s (k + 1) c.args.lists.now) (sym c.in_ok-push.ensures.ok)
    (lists_spanned s k c.args.lists.now c.loop-k.spans c.index-lists-k.result c.in_ok-spans_at.field-0 c.loop-k-test.true c.index-lists-k.is own c.loop-k.invariant)
