use Rattle.std.proofs.Common.{◌≡◌, drop}
use Rattle.av_tree.specs.Trees.{view_all}
use Rattle.av_names.specs.Reductions as rules
use Rattle.av_names.proofs.reductions_in.+holds.Given as goal

abbrev pub invariant-one_holds_reduction-loop-branch : goal.invariant-one_holds_reduction-loop-branch
invariant-one_holds_reduction-loop-branch l =
    rules.hold_reduction (view_all l.branches) ≡ rules.hold_reduction (view_all (drop l.branch-index l.branches))
