use Rattle.std.proofs.Common.{map, sym, ap, ◌∙◌, arith}
use Rattle.std.proofs.lemmas.Grind.{common_steps}
use Rattle.av_flat.specs.Trees.{view}
use Rattle.av_flat.proofs.Views.{same_case}
use Rattle.av_flat.proofs.copy.+copy.Goals as goal

pub copy_tree-returns-in_ok-copy_trees-in-Case : goal.copy_tree-returns-in_ok-copy_trees-in-Case
copy_tree-returns-in_ok-copy_trees-in-Case t c =
    same_case c.in_ok-copy_trees-in-Case.field-0 c.in-Case.branches (c.in_ok-copy_trees-in-Case.ensures ∙ ap (λ ts. map view ts) c.as_slice.ensures) ∙ ap view (sym c.in-Case.is)

pub copy_tree-returns-in_ok-no-in-Choose : goal.copy_tree-returns-in_ok-no-in-Choose
copy_tree-returns-in_ok-no-in-Choose t c = grind (arith, common_steps)

pub copy_tree-returns-in_ok-boxed-in-Reduce : goal.copy_tree-returns-in_ok-boxed-in-Reduce
copy_tree-returns-in_ok-boxed-in-Reduce t c = grind (arith, common_steps)

pub copy_tree-returns-in_ok-boxed-in-Restrict : goal.copy_tree-returns-in_ok-boxed-in-Restrict
copy_tree-returns-in_ok-boxed-in-Restrict t c = grind (arith, common_steps)

pub copy_tree-returns-in_ok-right-in-Binary : goal.copy_tree-returns-in_ok-right-in-Binary
copy_tree-returns-in_ok-right-in-Binary t c = grind (arith, common_steps)

pub copy_tree-returns-in_ok-boxed-in-Depend : goal.copy_tree-returns-in_ok-boxed-in-Depend
copy_tree-returns-in_ok-boxed-in-Depend t c = grind (arith, common_steps)

pub copy_trees-loop-tree-preserved : goal.copy_trees-loop-tree-preserved
copy_trees-loop-tree-preserved t c = grind (arith, common_steps)
