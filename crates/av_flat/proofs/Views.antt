-- A case of the program's tree, by the list of its branches.
use Rattle.std.proofs.Common.{◌≡◌, List, map, refl, ap, sym, ◌∙◌}
use Rattle.av_flat.specs.declared.tree.Tree.{Tree as TreeMade, Row_of-Tree, end_of-Tree, more_of-Tree, items-the_row-Tree, items_hidden-the_row-Tree-0}
use Rattle.av_flat.specs.declared.tree.Tree.TheBlock.{hidden-the_row-Tree-0}
use Rattle.av_flat.specs.declared.tree.Tree.TheVariants as made
use Rattle.av_flat.specs.Trees.{Tree, cases, more, trees_of, view, view_row}

abbrev trees : List TreeMade → List Tree
trees ts = map view ts

-- a row of branches, read as a list
view_row_is : (n : _) (row : Row_of-Tree n) → view_row row ≡ trees_of (trees (items-the_row-Tree n row))
view_row_is _ end_of-Tree = refl
view_row_is _ (more_of-Tree t rest) = ap (more (view t)) (view_row_is _ rest)

pub view_case : (ts : List TreeMade) → view (made.Case ts) ≡ cases (trees_of (map view ts))
view_case ts = ap cases (view_row_is _ (hidden-the_row-Tree-0 ts) ∙ ap (λ us. trees_of (trees us)) (items_hidden-the_row-Tree-0 ts))

-- cases with the same branches are the same
pub same_case : (ts us : List TreeMade) → map view ts ≡ map view us → view (made.Case ts) ≡ view (made.Case us)
same_case ts us e = view_case ts ∙ ap (λ vs. cases (trees_of vs)) e ∙ sym (view_case us)
