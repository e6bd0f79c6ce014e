use Rattle.std.proofs.Common.{◌≡◌, take}
use Rattle.av_tree.proofs.terms.copies.Given as goal

abbrev pub invariant-loop-term : goal.invariant-loop-term
invariant-loop-term l = l.copies ≡ take l.term-index l.terms
