-- Places of computed variables.
use Rattle.std.specs.Prelude.{Bool, false, Option, Some, None}
use Rattle.av_flat.specs.Trees.{Variable}
use Rattle.av_flat.specs.Signatures.{is_computed}

abbrev pub computed_at : Option Variable → Bool
computed_at None = false
computed_at (Some v) = is_computed v.kind
