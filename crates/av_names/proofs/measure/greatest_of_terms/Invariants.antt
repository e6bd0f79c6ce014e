use Rattle.std.proofs.Common.{◌≡◌, map, drop, max}
use Rattle.av_tree.specs.Rows.{coefficient}
use Rattle.av_names.specs.Quantities.{greatest}
use Rattle.av_names.proofs.measure.greatest_of_terms.Given as goal

abbrev pub invariant-loop-name : goal.invariant-loop-name
invariant-loop-name l = max l.most (greatest (map (coefficient l.terms) (drop l.name-index l.names))) ≡ greatest (map (coefficient l.terms) l.names)
