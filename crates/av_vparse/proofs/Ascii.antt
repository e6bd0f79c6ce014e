-- The bytes of a token are ASCII.
use Rattle.std.proofs.Common.{◌≡◌, ℕ, ◌<◌, List, [], ◌∷◌, ◌++◌, length, take, drop, get_or, refl, sym, subst, arith}
use Rattle.std.specs.Prelude.{codes, IsTrue}
use Rattle.std.specs.Str.{IsAscii}
use Rattle.std.proofs.lemmas.List.Elements.{All-weaker, All-cons}
use Rattle.std.proofs.lemmas.Str.{IsAscii-append}
use Rattle.std.proofs.lemmas.Str.Ascii.{IsAscii-from_all}
use Rattle.av_base.specs.declared.lexeme.Lexeme.TheVariants as piece
use Rattle.av_base.specs.Tokens.{is_word_byte}
use Rattle.av_net.specs.declared.token_kind.DesignTokenKind.{DesignTokenKind}
use Rattle.av_net.specs.declared.token_kind.DesignTokenKind.TheVariants as kind
use Rattle.av_net.specs.Lexemes.{symbols, begins_name, IsIdentifier, IsSpelled, design_texts}
use Rattle.av_vparse.specs.inner.Lexing.{scanner}
use Rattle.av_vparse.specs.inner.Scan.{piece_of}
use Rattle.av_base.proofs.LowBytes.{is_low, low, word_byte_below, digits_ascii, token_spelled}
use Rattle.av_base.proofs.Tables.{tells}
use Rattle.av_vparse.proofs.Tables.{reserved_word}
use Rattle.av_vparse.proofs.Longest.{finds}

first_below : (b : ℕ) → IsTrue (begins_name b) → b < 128
first_below b e = grind arith

identifier_ascii : (text : List ℕ) → IsIdentifier text → IsAscii text
identifier_ascii [] w = absurd w
identifier_ascii (b ∷ bytes) w =
    IsAscii-from_all (b ∷ bytes) (All-cons (λ x. x < 128) b bytes (first_below b w.0) (All-weaker (λ x. IsTrue (is_word_byte x)) (λ x. x < 128) word_byte_below bytes w.1))

spelled_ascii : (k : DesignTokenKind) (text : List ℕ) → IsSpelled k text → IsAscii text
spelled_ascii kind.Name text s = identifier_ascii text s.0
spelled_ascii kind.Reserved text s = identifier_ascii text (reserved_word text s)
spelled_ascii kind.System text s = subst IsAscii (sym s) (low (codes "$signed") refl)
spelled_ascii kind.Number text s = digits_ascii text s
spelled_ascii kind.Literal text s =
    subst IsAscii (sym s.spelled) (IsAscii-append s.size (codes "'d" ++ s.digits) (digits_ascii s.size s.sized) (IsAscii-append (codes "'d") s.digits (low (codes "'d") refl) (digits_ascii s.digits s.valued)))
spelled_ascii kind.Symbol text s = low text (tells is_low symbols refl text s)
spelled_ascii kind.End text s = absurd s

-- the token at an index is ASCII
pub token_ascii : (bytes : List ℕ) (at : ℕ) (k : DesignTokenKind) (n : ℕ) → at < length bytes → piece.Token k n ≡ piece_of (get_or bytes at 0) (drop at bytes) → IsAscii (take n (drop at bytes))
token_ascii bytes at k n lt e = spelled_ascii k (take n (drop at bytes)) (token_spelled design_texts scanner finds bytes at k n lt e)
