-- Names that the program borrows from a text.
use Rattle.std.specs.Prelude.{ℕ, List, map}
use denote.Ref.{Bor}

abbrev pub Bytes : Type 0
Bytes = List ℕ

-- their bytes
abbrev pub texts : List (Bor Bytes) → List Bytes
texts names = map (λ name. name.now) names
