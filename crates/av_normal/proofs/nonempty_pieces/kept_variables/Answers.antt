use Rattle.std.proofs.Common.{◌≡◌, ◌++◌, [], map, List, inl, inr, ⊎_elim, sym, subst, ◌∙◌, arith}
use Rattle.std.specs.Vec.Iter.{into_iter_items}
use Rattle.std.proofs.lemmas.List.{length-map}
use Rattle.std.proofs.lemmas.Grind.{common_steps}
use Rattle.av_flat.specs.Trees.{Variable, view_variable}
use Rattle.av_normal.specs.Pairwise.{Pairwise}
use Rattle.av_normal.specs.inner.NonemptyPieces.{HasNonemptyPieces, IsHeld}
use Rattle.av_normal.proofs.Firsts.{made_along, none_left}
use Rattle.av_normal.proofs.nonempty_pieces.kept_variables.Goals as goal

pub returns : goal.returns
returns c =
    let all = map view_variable c.args.vars in
    let made = map view_variable c.loop-var.kept in
    let vars = into_iter_items c.loop-var.var-iterator.a in
    let extents = c.loop-var.var-iterator.b.rest.now in
    let gone : map view_variable vars ≡ [] =
    none_left IsHeld (map view_variable vars) extents c.loop-var.invariant.held
    (⊎_elim (λ h. inl (length-map vars view_variable ∙ sym c.loop-var.invariant.left ∙ h.1.0)) (λ h. inr h.1.0) c.in-None.ensures.steps) in
    made_along HasNonemptyPieces all made
    (subst (λ (vs : List Variable). (rest : List Variable) → Pairwise HasNonemptyPieces vs rest → Pairwise HasNonemptyPieces all (made ++ rest)) gone c.loop-var.invariant.made)

pub loop-var-preserved : goal.loop-var-preserved
loop-var-preserved c = grind (arith, common_steps)
