-- Tests of how a text of a design is spelled.
use Rattle.std.specs.Prelude.{ℕ, Bool, false, not, ◌&&◌, List, [], ◌∷◌}
use Rattle.std.specs.List.{list_all, list_any}
use Rattle.std.specs.Str.{bytes_eq}
use Rattle.av_base.specs.Tokens.{is_word_byte}
use Rattle.av_net.specs.Lexemes.{reserved_words, begins_name}

-- a letter or _, then letters, digits and _
abbrev pub is_identifier : List ℕ → Bool
is_identifier [] = false
is_identifier (b ∷ bytes) = begins_name b && list_all is_word_byte bytes

-- the text is a reserved word
abbrev pub is_reserved : List ℕ → Bool
is_reserved text = list_any (bytes_eq text) reserved_words

-- a word that is not reserved
abbrev pub is_name : List ℕ → Bool
is_name text = is_identifier text && not (is_reserved text)
