use Rattle.std.proofs.Common.{◌∙◌, ◌++◌, ◌∷◌, [], sym, ap, subst, List}
use Rattle.std.proofs.lemmas.List.{append-nil}
use Rattle.av_poly.specs.Points.{Has}
use Rattle.av_tree.specs.Points.{Point}
use Rattle.av_flat.specs.Points.{has}
use Rattle.av_depend.proofs.Listed.{filter_kept, filter_left, has_true, has_false}
use Rattle.av_depend.proofs.listing.add_point.Goals as goal

pub returns-in_ok-push : goal.returns-in_ok-push
returns-in_ok-push c =
    let set = c.args.set.now in
    let z = c.args.entries.now in
    let there : Has set z = subst (Has set) c.from_slice-point.ensures (c.contains.ensures.0 c.if-contains.true) in
    c.in_ok-push.ensures.ok ∙ ap (λ (p : Point). c.args.points.now ++ p ∷ []) c.from_slice-point.ensures ∙ ap (λ (ps : List Point). c.args.points.now ++ ps) (sym (filter_kept (has set) z (has_true set z there)))

pub returns-else-contains : goal.returns-else-contains
returns-else-contains c =
    let set = c.args.set.now in
    let z = c.args.entries.now in
    let none : Has set z → ⊥ = λ h. let t = c.contains.ensures.1 (subst (Has set) (sym c.from_slice-point.ensures) h) in let f = c.if-contains.false in cc in
    sym (append-nil c.args.points.now) ∙ ap (λ (ps : List Point). c.args.points.now ++ ps) (sym (filter_left (has set) z (has_false set z none)))
