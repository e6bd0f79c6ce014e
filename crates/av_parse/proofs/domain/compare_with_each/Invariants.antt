use Rattle.std.proofs.Common.{◌≡◌, ◌++◌, take}
use Rattle.av_tree.specs.IndexGrammar.{with_each}
use Rattle.av_parse.proofs.domain.compare_with_each.Given as goal

abbrev pub invariant-loop-right : goal.invariant-loop-right
invariant-loop-right l = l.found ≡ l.fn.found ++ with_each l.left l.fn.relation (take l.right-index l.rights)
