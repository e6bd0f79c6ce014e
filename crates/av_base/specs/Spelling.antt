-- Tests of how a text is spelled.
use Rattle.std.specs.Prelude.{ℕ, Bool, false, not, ◌&&◌, nat_eq, List, [], ◌∷◌}
use Rattle.std.specs.List.{list_all, list_any}
use Rattle.std.specs.Char.{is_ascii_alphabetic}
use Rattle.std.specs.Str.{bytes_eq}
use Rattle.av_base.specs.Tokens.{reserved_words, is_word_byte}

-- a byte that ends no line
abbrev pub is_not_feed : ℕ → Bool
is_not_feed b = not (nat_eq b 10)

-- the text is a reserved word
abbrev pub is_reserved : List ℕ → Bool
is_reserved text = list_any (bytes_eq text) reserved_words

-- a letter, then letters, digits and _, and no reserved word
abbrev pub is_name : List ℕ → Bool
is_name [] = false
is_name (b ∷ text) = is_ascii_alphabetic b && (list_all is_word_byte text && not (is_reserved (b ∷ text)))

-- the text begins with this byte twice
abbrev pub begins_comment : ℕ → List ℕ → Bool
begins_comment mark (b ∷ c ∷ bytes) = nat_eq b mark && nat_eq c mark
begins_comment mark _ = false
