-- The lines of data, and the parts of a line.
use Rattle.std.specs.Prelude.{ℕ, Bool, false, not, ◌&&◌, ◌||◌, if◌then◌else◌, nat_eq, List, [], ◌∷◌}
use Rattle.av_net.specs.Listed.{longer, begins_feed}
use Rattle.av_base.specs.Spelling.{begins_comment}

-- the lines: a line feed ends one, with a carriage return directly before it or without, and bytes after the
-- last line feed are one too
abbrev pub data_lines : List ℕ → List (List ℕ)
data_lines [] = []
data_lines (b ∷ bytes) =
    if nat_eq b 10 then [] ∷ data_lines bytes
    else (if nat_eq b 13 && begins_feed bytes then data_lines bytes else longer b (data_lines bytes))

-- what stands on a line before its comment, which begins with --
abbrev pub uncommented : List ℕ → List ℕ
uncommented [] = []
uncommented (b ∷ bytes) = if begins_comment 45 (b ∷ bytes) then [] else b ∷ uncommented bytes

-- a blank or a tab
abbrev pub is_gap : ℕ → Bool
is_gap b = nat_eq b 32 || nat_eq b 9

-- a part that began before these bytes goes on with them
abbrev pub goes_on : List ℕ → Bool
goes_on [] = false
goes_on (b ∷ bytes) = not (is_gap b)

-- the parts that blanks and tabs separate
abbrev pub separated : List ℕ → List (List ℕ)
separated [] = []
separated (b ∷ bytes) = if is_gap b then separated bytes else (if goes_on bytes then longer b (separated bytes) else (b ∷ []) ∷ separated bytes)

-- the parts of a line
abbrev pub parts_of : List ℕ → List (List ℕ)
parts_of line = separated (uncommented line)
