-- The bytes of a token are ASCII, and those of a number that is in range are a number of 64 bits.
use Rattle.std.proofs.Common.{◌≡◌, ℕ, ◌^◌, ◌<◌, true, List, length, take, drop, get_or, refl}
use Rattle.std.specs.Str.{IsAscii}
use borrow.Author.Tests.{ltb-true}
use Rattle.av_base.specs.declared.lexeme.Lexeme.TheVariants as piece
use Rattle.av_base.specs.declared.token_kind.TokenKind.{TokenKind}
use Rattle.av_base.specs.declared.token_kind.TokenKind.TheVariants as kind
use Rattle.av_base.specs.Tokens.{reserved_words, symbols, IsSpelled, number_of, program_texts}
use Rattle.av_base.proofs.LowBytes.{is_low, low, word_ascii, digits_ascii, token_spelled}
use Rattle.av_base.proofs.Tables.{tells}
use Rattle.av_lex.specs.inner.Reading.{scanner}
use Rattle.av_lex.specs.inner.Scan.{piece_of, is_in_range}
use Rattle.av_lex.proofs.Longest.{finds}

spelled_ascii : (k : TokenKind) (text : List ℕ) → IsSpelled k text → IsAscii text
spelled_ascii kind.Name text s = word_ascii text s.0
spelled_ascii kind.Reserved text s = low text (tells is_low reserved_words refl text s)
spelled_ascii kind.Number text s = digits_ascii text s
spelled_ascii kind.Symbol text s = low text (tells is_low symbols refl text s)
spelled_ascii kind.End text s = absurd s

-- the token at an index is ASCII
pub token_ascii : (bytes : List ℕ) (at : ℕ) (k : TokenKind) (n : ℕ) → at < length bytes
    → piece.Token k n ≡ piece_of (get_or bytes at 0) (drop at bytes) → IsAscii (take n (drop at bytes))
token_ascii bytes at k n lt e = spelled_ascii k (take n (drop at bytes)) (token_spelled program_texts scanner finds bytes at k n lt e)

pub number_fits : (k : TokenKind) (text : List ℕ) → is_in_range k text ≡ true → k ≡ kind.Number → number_of text < 2 ^ 64
number_fits kind.Name text h e = absurd cc
number_fits kind.Reserved text h e = absurd cc
number_fits kind.Number text h e = ltb-true _ _ h
number_fits kind.Symbol text h e = absurd cc
number_fits kind.End text h e = absurd cc
