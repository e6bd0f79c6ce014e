-- Parts by their number, and the variables that they read. Only private contracts cite this.
use Rattle.std.specs.Prelude.{ℕ, List, drop, map}
use Rattle.av_flat.specs.declared.flat.Var.{Var}
use Rattle.av_flat.specs.Trees.{view_variable}
use Rattle.av_flat.specs.Signatures.{Signature, signature}
use Rattle.av_flat.specs.Pieces.{Part, first_part}

-- the part with this number, from 0
abbrev pub part_at : List Part → ℕ → Part
part_at ps number = first_part (drop number ps)

-- what is declared of these variables
abbrev pub signatures_of : List Var → List Signature
signatures_of vars = map signature (map view_variable vars)
