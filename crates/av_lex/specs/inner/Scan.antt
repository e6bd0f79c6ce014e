-- What stands at the front of a text, found byte by byte.
use Rattle.std.specs.Prelude.{ℕ, ◌^◌, Bool, true, false, ◌||◌, if◌then◌else◌, nat_eq, nat_lt, List, take, codes}
use Rattle.std.specs.List.{prefix_len, list_any}
use Rattle.std.specs.Char.{is_ascii_digit, is_ascii_alphabetic}
use Rattle.av_base.specs.declared.token_kind.TokenKind.{TokenKind}
use Rattle.av_base.specs.declared.token_kind.TokenKind.TheVariants as kind
use Rattle.av_base.specs.Tokens.{is_word_byte, number_of}
use Rattle.av_base.specs.Spelling.{is_reserved}
use Rattle.av_base.specs.declared.lexeme.Lexeme.{Lexeme}
use Rattle.av_base.specs.declared.lexeme.Lexeme.TheVariants as piece
use Rattle.av_base.specs.Reading.{piece_by, symbol_by, begins_pair as begins_pair_by}

-- a symbol of one byte
abbrev pub is_single : ℕ → Bool
is_single b = list_any (nat_eq b) (codes "(){}[]|:;,.=<>+-*")

-- a symbol of two bytes
abbrev pub is_pair : ℕ → ℕ → Bool
is_pair b c =
    if nat_eq b 60 then nat_eq c 61 || nat_eq c 62
    else (if nat_eq b 62 then nat_eq c 61 else (if nat_eq b 45 then nat_eq c 62 else false))

-- the text begins with a symbol of two bytes
abbrev pub begins_pair : List ℕ → Bool
begins_pair = begins_pair_by is_pair

-- the symbol at the front
unfoldable pub symbol_of : ℕ → List ℕ → Lexeme TokenKind
symbol_of first text = symbol_by kind.Symbol is_single is_pair first text

-- what a word is
abbrev pub word_kind : List ℕ → TokenKind
word_kind text = if is_reserved text then kind.Reserved else kind.Name

-- the token at the front, where no blank and no comment stands there
unfoldable pub token_of : ℕ → List ℕ → Lexeme TokenKind
token_of first text =
    if is_ascii_alphabetic first then piece.Token (word_kind (take (prefix_len is_word_byte text) text)) (prefix_len is_word_byte text)
    else (if is_ascii_digit first then piece.Token kind.Number (prefix_len is_ascii_digit text) else symbol_of first text)

-- what stands at the front; a comment begins with --
abbrev pub piece_of : ℕ → List ℕ → Lexeme TokenKind
piece_of first text = piece_by 45 token_of first text

-- a number's value fits 64 bits
abbrev pub is_in_range : TokenKind → List ℕ → Bool
is_in_range kind.Number text = nat_lt (number_of text) (2 ^ 64)
is_in_range _ text = true
