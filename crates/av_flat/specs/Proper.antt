-- Proper systems: bounded domains, and just one word at each point that is computed (Wilde's reports; own profile).
use Rattle.std.specs.Prelude.{◌≡◌, All}
use Rattle.av_flat.specs.Trees.{FlatSystem, right_side}
use Rattle.av_flat.specs.Signatures.{signatures}
use Rattle.av_flat.specs.Counts.{count}
use Rattle.av_flat.specs.Sets.{IsUnbounded}
use Rattle.av_flat.specs.Solutions.{AtEachPoint}

pub record IsProper (s : FlatSystem) : Type 0 where
  pub bounded : All (λ v. IsUnbounded v.domain → ⊥) s.variables
  pub counted : AtEachPoint s (λ v z. count (signatures s) (right_side v) z ≡ 1)
