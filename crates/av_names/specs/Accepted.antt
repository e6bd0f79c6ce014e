-- What the grammar says of a system beside its tree.
use Rattle.std.specs.Prelude.{◌≢◌, All}
use Rattle.av_tree.specs.declared.relation.Relation.TheVariants as relation
use Rattle.av_tree.specs.Trees.{System}
use Rattle.av_names.specs.Written.{all_written}

-- as the grammar has it, no domain has an inequality
abbrev pub HasNoInequality : System → Type 0
HasNoInequality s = All (λ w. All (λ c. c.relation ≢ relation.Unequal) w.constraints) (all_written s)
