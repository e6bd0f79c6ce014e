-- The tokens of a program text: which bytes spell which token.
-- (Mauras 1989; Wilde's report on the language Alpha, 1994, for its words and symbols.)
use Rattle.std.specs.Prelude.{ℕ, ◌+◌, ◌-◌, ◌*◌, ◌^◌, ◌<◌, Bool, ◌||◌, IsTrue, nat_eq, List, [], ◌∷◌, codes, All, Contains}
use Rattle.std.specs.Char.{is_ascii_alphabetic, is_ascii_digit}
use Rattle.av_base.specs.declared.place.Place.{Place}
use Rattle.av_base.specs.declared.token_kind.TokenKind.{TokenKind}
use Rattle.av_base.specs.declared.token_kind.TokenKind.TheVariants as kind
use Rattle.av_base.specs.Lexicon as lexing
pub use Rattle.av_base.specs.Lexicon.{start, next_place, moved, is_blank, IsLineEnd, end, blank, comment, token}

-- ---- the table of tokens

-- the words that are no names
abbrev pub reserved_words : List (List ℕ)
reserved_words =
    codes "system" ∷ codes "returns" ∷ codes "var" ∷ codes "let" ∷ codes "tel" ∷ codes "case" ∷ codes "esac" ∷ codes "if" ∷ codes "then"
    ∷ codes "else" ∷ codes "reduce" ∷ codes "min" ∷ codes "max" ∷ codes "of" ∷ codes "integer" ∷ codes "word" ∷ []

-- the symbols, of one byte or two
abbrev pub symbols : List (List ℕ)
symbols =
    codes "(" ∷ codes ")" ∷ codes "{" ∷ codes "}" ∷ codes "[" ∷ codes "]" ∷ codes "|" ∷ codes ":" ∷ codes ";" ∷ codes "," ∷ codes "."
    ∷ codes "=" ∷ codes "<>" ∷ codes "<" ∷ codes "<=" ∷ codes ">" ∷ codes ">=" ∷ codes "+" ∷ codes "-" ∷ codes "*" ∷ codes "->" ∷ []

-- a byte that may stand in a name after its first letter
abbrev pub is_word_byte : ℕ → Bool
is_word_byte b = is_ascii_alphabetic b || is_ascii_digit b || nat_eq b 95

-- a letter, then letters, digits and _
abbrev pub IsWord : List ℕ → Type 0
IsWord [] = ⊥
IsWord (b ∷ bytes) = IsTrue (is_ascii_alphabetic b) × All (λ x. IsTrue (is_word_byte x)) bytes

-- one or more digits
abbrev pub IsDigits : List ℕ → Type 0
IsDigits [] = ⊥
IsDigits (b ∷ bytes) = IsTrue (is_ascii_digit b) × All (λ x. IsTrue (is_ascii_digit x)) bytes

-- the decimal value of digits that follow those of n
abbrev pub number_from : ℕ → List ℕ → ℕ
number_from n [] = n
number_from n (b ∷ digits) = number_from (10 * n + (b - 48)) digits

-- the decimal value of digits
abbrev pub number_of : List ℕ → ℕ
number_of digits = number_from 0 digits

-- the bytes have the shape of a token of this kind
abbrev pub IsSpelled : TokenKind → List ℕ → Type 0
IsSpelled kind.Name text = IsWord text × (Contains reserved_words text → ⊥)
IsSpelled kind.Reserved text = Contains reserved_words text
IsSpelled kind.Number text = IsDigits text
IsSpelled kind.Symbol text = Contains symbols text
IsSpelled kind.End text = ⊥

-- a number's value is at most 18446744073709551615
abbrev pub IsInRange : TokenKind → List ℕ → Type 0
IsInRange kind.Number text = number_of text < 2 ^ 64
IsInRange _ text = Unit {0}

-- how a program text spells its tokens; its comments begin with --
abbrev pub program_texts : lexing.Lexicon TokenKind
program_texts = record { last = kind.End; IsSpelled = IsSpelled; IsInRange = IsInRange; mark = 45 }

-- ---- whole texts

-- a token, with its bytes
abbrev pub Token : Type 0
Token = lexing.Token TokenKind

-- `IsText p bytes tokens`: the bytes, which stand from the place p on, spell the tokens
abbrev pub IsText : Place → List ℕ → List Token → Type 0
IsText = lexing.IsText program_texts
