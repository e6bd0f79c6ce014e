-- The lines of a text, found one after another, and what stands between certain bytes.
use Rattle.std.specs.Prelude.{ℕ, ◌+◌, ◌-◌, Bool, not, ◌&&◌, if◌then◌else◌, nat_eq, nat_lt, List, take, drop, length, slice_index, Option, Some, None}
use Rattle.std.specs.List.{prefix_len}
use Rattle.av_base.specs.Spelling.{is_not_feed}

abbrev pub is_not : ℕ → ℕ → Bool
is_not byte b = not (nat_eq b byte)

-- what stands before the first such byte, and what stands after it
abbrev pub cut : ℕ → List ℕ → Option (List ℕ × List ℕ)
cut byte text =
    if nat_lt (prefix_len (is_not byte) text) (length text) then Some (take (prefix_len (is_not byte) text) text, drop (prefix_len (is_not byte) text + 1) text)
    else None

-- the text ends with a carriage return
abbrev pub ends_with_return : List ℕ → Bool
ends_with_return text = nat_lt 0 (length text) && nat_eq (slice_index text (length text - 1)) 13

-- without a carriage return at the end
abbrev pub trimmed : List ℕ → List ℕ
trimmed text = if ends_with_return text then take (length text - 1) text else text

-- how many bytes come before the first line feed
abbrev pub line_len : List ℕ → ℕ
line_len text = prefix_len is_not_feed text

-- the first line, of this many bytes before its line feed, if there is one
abbrev pub line_by : ℕ → List ℕ → List ℕ
line_by len text = if nat_lt len (length text) then trimmed (take len text) else text

abbrev pub first_line_of : List ℕ → List ℕ
first_line_of text = line_by (line_len text) text
