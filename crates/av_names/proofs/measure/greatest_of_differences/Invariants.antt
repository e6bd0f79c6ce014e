use Rattle.std.proofs.Common.{◌≡◌, ◌-ℤ◌, map, drop, max}
use Rattle.av_tree.specs.Rows.{coefficient}
use Rattle.av_names.specs.Quantities.{greatest}
use Rattle.av_names.proofs.measure.greatest_of_differences.Given as goal

abbrev pub invariant-loop-name : goal.invariant-loop-name
invariant-loop-name l =
    max l.most (greatest (map (λ name. coefficient l.left name -ℤ coefficient l.right name) (drop l.name-index l.names)))
    ≡ greatest (map (λ name. coefficient l.left name -ℤ coefficient l.right name) l.names)
