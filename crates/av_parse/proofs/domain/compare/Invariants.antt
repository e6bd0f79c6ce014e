use Rattle.std.proofs.Common.{◌≡◌, ◌++◌, take}
use Rattle.av_tree.specs.IndexGrammar.{compared}
use Rattle.av_parse.proofs.domain.compare.Given as goal

abbrev pub invariant-loop-left : goal.invariant-loop-left
invariant-loop-left l = l.found ≡ l.fn.found ++ compared (take l.left-index l.lefts) l.fn.relation l.rights
