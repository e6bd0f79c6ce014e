use Rattle.std.proofs.Common.{rules, ◌≡◌, ◌∙◌, ◌<◌, ◌++◌, ◌∷◌, [], sym, ap, length, List, false, IsTrue}
use Rattle.av_poly.specs.Points.{Has}
use Rattle.av_tree.specs.Points.{Point}
use Rattle.av_flat.specs.Points.{has}
use Rattle.av_depend.proofs.Listed.{filter_more, filter_same, has_true, has_false}
use Rattle.av_depend.proofs.listing.points_within.Goals as goal

pub loop-point-preserved-then-not-contains : goal.loop-point-preserved-then-not-contains
loop-point-preserved-then-not-contains c =
    let set = c.args.set.now in
    let z = c.point-item.result in
    let l : c.loop-point.point-index < length c.args.points.now = search rules in
    let f : c.contains.result ≡ false = search rules in
    let none : Has set z → ⊥ = λ h. let t = c.contains.ensures.1 h in cc in
    c.loop-point.invariant ∙ sym (filter_same (has set) c.args.points.now c.loop-point.point-index z l c.point-item.is (has_false set z none))

pub loop-point-preserved : goal.loop-point-preserved
loop-point-preserved c =
    let set = c.args.set.now in
    let z = c.point-item.result in
    let l : c.loop-point.point-index < length c.args.points.now = search rules in
    let t : IsTrue c.contains.result = search rules in
    c.in_ok-push.ensures.ok ∙ ap (λ (p : Point). c.loop-point.to ++ p ∷ []) c.copy_point.ensures ∙ ap (λ (ps : List Point). ps ++ z ∷ []) c.loop-point.invariant
    ∙ sym (filter_more (has set) c.args.points.now c.loop-point.point-index z l c.point-item.is (has_true set z (c.contains.ensures.0 t)))
