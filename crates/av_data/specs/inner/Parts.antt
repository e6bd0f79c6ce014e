-- The parts of a line of data, from left to right: runs of letters, digits, `_` and `-`, and any other byte alone.
use Rattle.std.specs.Prelude.{ℕ, ◌+◌, Bool, false, ◌&&◌, ◌||◌, if◌then◌else◌, nat_eq, List, [], ◌∷◌, take, drop}
use Rattle.std.specs.List.{prefix_len}
use Rattle.av_base.specs.Tokens.{is_word_byte}
use Rattle.av_net.specs.Listed.{longer}
use Rattle.av_data.specs.Lines.{is_gap}
use Rattle.av_data.specs.Reading.{without_gap}

-- a byte that stands with its neighbours in one part
abbrev pub is_joined : ℕ → Bool
is_joined b = is_word_byte b || nat_eq b 45

abbrev pub goes_on : List ℕ → Bool
goes_on [] = false
goes_on (b ∷ bytes) = is_joined b

abbrev pub pieces_of : List ℕ → List (List ℕ)
pieces_of [] = []
pieces_of (b ∷ bytes) = if is_gap b then pieces_of bytes else (if is_joined b && goes_on bytes then longer b (pieces_of bytes) else (b ∷ []) ∷ pieces_of bytes)

-- how many bytes the first part has, where a text begins with one
abbrev pub piece_len : List ℕ → ℕ
piece_len [] = 0
piece_len (b ∷ bytes) = if is_joined b then 1 + prefix_len is_joined bytes else 1

-- the first part, or nothing
abbrev pub first_piece : List ℕ → List ℕ
first_piece text = take (piece_len (without_gap text)) (without_gap text)

-- what follows it
abbrev pub after_piece : List ℕ → List ℕ
after_piece text = drop (piece_len (without_gap text)) (without_gap text)
