-- The first line of a text.
use Rattle.std.specs.Prelude.{ℕ, List, [], ◌∷◌, if◌then◌else◌, nat_eq}

-- up to the first line feed, or all bytes
abbrev pub first_line : List ℕ → List ℕ
first_line [] = []
first_line (b ∷ bytes) = if nat_eq b 10 then b ∷ [] else b ∷ first_line bytes
