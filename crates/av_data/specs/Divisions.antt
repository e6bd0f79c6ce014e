-- A text and what stands behind it, which the first line `%%` divides.
use Rattle.std.specs.Prelude.{◌≡◌, ℕ, ◌+◌, ◌<◌, Bool, not, ◌||◌, if◌then◌else◌, nat_eq, List, [], ◌∷◌, take, drop, length, codes}
use Rattle.std.specs.List.{prefix_len, flat_map}
use Rattle.std.specs.Str.{bytes_eq}
use Rattle.av_net.specs.Listed.{longer}

-- the lines, each with the line feed that ends it; bytes after the last line feed are a line too
abbrev pub whole_lines : List ℕ → List (List ℕ)
whole_lines [] = []
whole_lines (b ∷ bytes) = if nat_eq b 10 then (b ∷ []) ∷ whole_lines bytes else longer b (whole_lines bytes)

-- the line is `%%`, with whatever ends it
abbrev pub is_mark : List ℕ → Bool
is_mark line = bytes_eq line (codes "%%") || (bytes_eq line (codes "%%\n") || bytes_eq line (codes "%%\r\n"))

-- how many lines stand before the first `%%`
abbrev pub lines_before : List ℕ → ℕ
lines_before bytes = prefix_len (λ line. not (is_mark line)) (whole_lines bytes)

abbrev pub joined : List (List ℕ) → List ℕ
joined lines = flat_map (λ line. line) lines

-- the text before the line, and what follows it, whose first line has this number
pub record IsDivided (bytes text rest : List ℕ) (first : ℕ) : Type 0 where
  pub marked : lines_before bytes < length (whole_lines bytes)
  pub text_is : text ≡ joined (take (lines_before bytes) (whole_lines bytes))
  pub rest_is : rest ≡ joined (drop (lines_before bytes + 1) (whole_lines bytes))
  pub number : first ≡ lines_before bytes + 2

-- no line is `%%`
abbrev pub HasNoMark : List ℕ → Type 0
HasNoMark bytes = lines_before bytes ≡ length (whole_lines bytes)
