use Rattle.std.proofs.Common.{min, map, sym, ap, ◌∙◌, ◌-◌, ◌^◌, List}
use Rattle.av_flat.specs.declared.tree.Tree.{Tree as TreeMade}
use Rattle.av_flat.specs.Trees.{view, trees_of}
use Rattle.av_flat.specs.Quantities.{piece_count, piece_count_of_all}
use Rattle.av_flat.proofs.Views.{view_case}
use Rattle.av_normal.proofs.Capped.{capped_four}
use Rattle.av_normal.proofs.count.+count.Goals as goal

pub piece_count-returns-in-Choose : goal.piece_count-returns-in-Choose
piece_count-returns-in-Choose t c =
    let counted : TreeMade → _ = λ (u : TreeMade). min (piece_count (view u)) (2 ^ 128 - 1) in
    capped_four (piece_count (view c.in-Choose.left.value)) (piece_count (view c.in-Choose.right.value)) (piece_count (view c.in-Choose.yes.value)) (piece_count (view c.in-Choose.no.value))
    _ _ _ _ _ _ _
    (c.piece_count-in-Choose.ensures ∙ ap counted c.deref-in-Choose.ensures)
    (c.piece_count-in-Choose-2.ensures ∙ ap counted c.deref-in-Choose-2.ensures)
    (c.piece_count-in-Choose-3.ensures ∙ ap counted c.deref-in-Choose-3.ensures)
    (c.piece_count-in-Choose-4.ensures ∙ ap counted c.deref-in-Choose-4.ensures)
    c.saturating_mul-compared.ensures c.saturating_mul-first.ensures c.saturating_mul-in-Choose.ensures
    ∙ ap counted (sym c.in-Choose.is)

pub piece_count-returns-in-Case : goal.piece_count-returns-in-Case
piece_count-returns-in-Case t c =
    c.piece_count_of_all.ensures
    ∙ ap (λ (ts : List TreeMade). min (piece_count_of_all (trees_of (map view ts))) (2 ^ 128 - 1)) c.as_slice.ensures
    ∙ ap (λ u. min (piece_count u) (2 ^ 128 - 1)) (sym (view_case c.in-Case.branches))
    ∙ ap (λ (u : TreeMade). min (piece_count (view u)) (2 ^ 128 - 1)) (sym c.in-Case.is)
