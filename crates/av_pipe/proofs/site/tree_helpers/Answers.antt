use Rattle.std.proofs.Common.{◌≡◌, ◌++◌, ◌∙◌, List, sym, ap, subst}
use Rattle.std.specs.List.{AllByRecursion}
use Rattle.std.proofs.lemmas.Result.{on_ok_weaker}
use Rattle.av_flat.specs.Trees.{view}
use Rattle.av_flat.specs.Broadcasts.{Reference, references}
use Rattle.av_flat.proofs.Reading.{each_reference}
use Rattle.av_pipe.specs.inner.Helping.{IsFineMap, HasFineMaps}
use Rattle.av_pipe.specs.Pipelines.{of_references}
use Rattle.av_pipe.proofs.site.tree_helpers.Goals as goal

pub reference_helpers-requires-clause-fine : goal.reference_helpers-requires-clause-fine
reference_helpers-requires-clause-fine c =
    subst (AllByRecursion (λ (r : Reference). IsFineMap c.args.piece.now.points.now r.map)) (sym (c.as_slice.ensures ∙ c.in_ok-found.ensures))
    (each_reference (HasFineMaps c.args.piece.now.points.now) (λ g l r h. h) (λ l o r x y h. h) (view c.args.tree.now) c.requires.maps)

pub returns : goal.returns
returns c =
    let are : c.as_slice.result.now ≡ references (view c.args.tree.now) = c.as_slice.ensures ∙ c.in_ok-found.ensures in
    on_ok_weaker c.reference_helpers.result (λ e. e ∙ ap (λ (rs : List Reference). c.args.helpers.now ++ of_references c.args.piece.now.place.0 c.args.piece.now.number c.args.piece.now.linear.now 0 rs) are) c.reference_helpers.ensures
