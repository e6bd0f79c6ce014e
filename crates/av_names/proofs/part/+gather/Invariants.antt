use Rattle.std.proofs.Common.{◌≡◌, ◌++◌, map, take}
use Rattle.av_tree.specs.Trees.{view_all}
use Rattle.av_names.specs.Parts as list
use Rattle.av_names.specs.inner.Seen.{part, context}
use Rattle.av_names.proofs.part.+gather.Given as goal

abbrev pub invariant-gather_all-loop-branch : goal.invariant-gather_all-loop-branch
invariant-gather_all-loop-branch l =
    map part l.parts.items ≡ map part l.fn.parts.items ++ list.parts_of_all l.reduced (context l.context) (view_all (take l.branch-index l.branches))
