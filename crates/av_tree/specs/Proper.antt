-- Proper systems: bounded domains, and just one word at each point that is computed (Wilde's reports; own profile).
use Rattle.std.specs.Prelude.{◌≡◌, length, All}
use Rattle.av_tree.specs.Domains.{variables, context}
use Rattle.av_tree.specs.Counts.{Instance, count}
use Rattle.av_tree.specs.Rows.{IsUnbounded, rows_of}
use Rattle.av_tree.specs.Solutions.{AtEachPoint}

pub record IsProper (i : Instance) : Type 0 where
  pub bounded : All (λ d. IsUnbounded (length d.domain.names) (rows_of i.sizes d.domain) → ⊥) (variables i.system)
  pub counted : AtEachPoint i (λ e z. count i (context i.system e) e.right z ≡ 1)
