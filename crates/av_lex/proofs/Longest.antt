-- The scanner of program texts finds their tokens.
use Rattle.std.proofs.Common.{◌≡◌, ℕ, Bool, true, false, cond, not, ◌&&◌, List, [], ◌∷◌, ◌++◌, length, take, refl, arith, inl, inr}
use Rattle.std.specs.Prelude.{Contains}
use Rattle.std.specs.List.{prefix_len}
use Rattle.std.specs.Char.{is_ascii_alphabetic, is_ascii_digit}
use borrow.Author.Tests.{ltb-true}
use Rattle.av_base.specs.declared.token_kind.TokenKind.{TokenKind}
use Rattle.av_base.specs.declared.token_kind.TokenKind.TheVariants as kind
use Rattle.av_base.specs.declared.lexeme.Lexeme.TheVariants as piece
use Rattle.av_base.specs.Spelling.{is_reserved}
use Rattle.av_base.specs.Tokens.{reserved_words, is_word_byte, is_blank, IsWord, IsSpelled, IsInRange, program_texts}
use Rattle.av_lex.specs.inner.Reading.{scanner}
use Rattle.av_lex.specs.inner.Scan.{is_single, is_pair, begins_pair, word_kind, symbol_of, token_of, is_in_range}
use Rattle.av_base.proofs.Longest.{Covers, run_token_covers, run_fits, Fits, fits_as, IsNoGap, no_gap_either, Finds}
use Rattle.av_base.proofs.Runs.{chosen, blank_or}
use Rattle.av_base.proofs.Symbols.{symbol_covers, symbol_fits}
use Rattle.av_base.proofs.Tables.{is_found, is_there, not_there, none_there, none_short}
use Rattle.av_lex.proofs.Tables.{reserved_word, is_other, symbol_is, single_symbol, pair_symbol}

-- ---- what is spelled is covered by the token that is found

alphabetic_word : (b : ℕ) → is_ascii_alphabetic b ≡ true → is_word_byte b ≡ true
alphabetic_word b h = rw h refl

digit_not_letter : (b : ℕ) → is_ascii_digit b ≡ true → is_ascii_alphabetic b ≡ false
digit_not_letter b h = grind arith

name_kind : (text : List ℕ) → (Contains reserved_words text → ⊥) → word_kind text ≡ kind.Name
name_kind text h = rw (not_there text reserved_words h) refl

reserved_kind : (text : List ℕ) → Contains reserved_words text → word_kind text ≡ kind.Reserved
reserved_kind text h = rw (is_found text reserved_words h) refl

at_letter : (b : ℕ) (text : List ℕ) → is_ascii_alphabetic b ≡ true → token_of b text ≡ piece.Token (word_kind (take (prefix_len is_word_byte text) text)) (prefix_len is_word_byte text)
unfolding token_of
at_letter b text h = rw h refl

word_covers : (k : TokenKind) (front back : List ℕ) → IsWord front → word_kind front ≡ k → (b : ℕ) (bytes : List ℕ) → front ++ back ≡ b ∷ bytes → Covers k (length front) (token_of b (front ++ back))
word_covers k [] back s w b bytes e = absurd s
word_covers k (x ∷ front) back s w b bytes e = run_token_covers word_kind is_ascii_alphabetic is_word_byte token_of alphabetic_word at_letter k x front back s.0 s.1 w b bytes e

other_symbol : (b : ℕ) (text : List ℕ) → is_other b ≡ true → token_of b text ≡ symbol_of b text
unfolding token_of
other_symbol b text h = go (is_ascii_alphabetic b) (is_ascii_digit b) refl refl h
  where
    go : (t u : Bool) → is_ascii_alphabetic b ≡ t → is_ascii_digit b ≡ u → (not t && not u) ≡ true → token_of b text ≡ symbol_of b text
    go true u e f k = absurd cc
    go false true e f k = absurd cc
    go false false e f k = rw (e, f) refl

at_digit : (b : ℕ) (text : List ℕ) → is_ascii_digit b ≡ true → token_of b text ≡ piece.Token kind.Number (prefix_len is_ascii_digit text)
unfolding token_of
at_digit b text h = rw (digit_not_letter b h, h) refl

covers : (k : TokenKind) (front back : List ℕ) → IsSpelled k front → (b : ℕ) (bytes : List ℕ) → front ++ back ≡ b ∷ bytes → Covers k (length front) (token_of b (front ++ back))
unfolding token_of symbol_of
covers kind.Name front back s b bytes e = word_covers kind.Name front back s.0 (name_kind front s.1) b bytes e
covers kind.Reserved front back s b bytes e = word_covers kind.Reserved front back (reserved_word front s) (reserved_kind front s) b bytes e
covers kind.Number [] back s b bytes e = absurd s
covers kind.Number (x ∷ front) back s b bytes e =
    run_token_covers (λ text. kind.Number) is_ascii_digit is_ascii_digit token_of (λ x h. h) at_digit kind.Number x front back s.0 s.1 refl b bytes e
covers kind.Symbol front back s b bytes e = symbol_covers kind.Symbol is_other is_single is_pair token_of (λ x more. other_symbol x (x ∷ more)) front back (symbol_is front s) b bytes e
covers kind.End front back s b bytes e = absurd s

-- ---- the token that is found is spelled

word_spelled : (text : List ℕ) → IsWord text → IsSpelled (word_kind text) text
word_spelled text w = go (is_reserved text) refl
  where
    go : (t : Bool) → is_reserved text ≡ t → IsSpelled (cond t kind.Reserved kind.Name) text
    go true e = is_there text reserved_words e
    go false e = (w, none_there text reserved_words e)

token_fits : (b : ℕ) (bytes : List ℕ) (k : TokenKind) (n : ℕ) → token_of b (b ∷ bytes) ≡ piece.Token k n → Fits program_texts k n (b ∷ bytes)
unfolding token_of symbol_of
token_fits b bytes k n e =
    elim (chosen (is_ascii_alphabetic b) (piece.Token (word_kind (take (prefix_len is_word_byte (b ∷ bytes)) (b ∷ bytes))) (prefix_len is_word_byte (b ∷ bytes))) (cond (is_ascii_digit b) (piece.Token kind.Number (prefix_len is_ascii_digit (b ∷ bytes))) (symbol_of b (b ∷ bytes))) (piece.Token k n) e) [
      | inl p ↦
          fits_as program_texts k (word_kind (take (prefix_len is_word_byte (b ∷ bytes)) (b ∷ bytes))) (prefix_len is_word_byte (b ∷ bytes)) n (b ∷ bytes) p.1
          (run_fits program_texts word_kind is_word_byte b bytes (alphabetic_word b p.0) (λ run all. word_spelled (b ∷ run) (p.0, all)))
      | inr p ↦ elim (chosen (is_ascii_digit b) (piece.Token kind.Number (prefix_len is_ascii_digit (b ∷ bytes))) (symbol_of b (b ∷ bytes)) (piece.Token k n) p.1) [
        | inl q ↦
            fits_as program_texts k kind.Number (prefix_len is_ascii_digit (b ∷ bytes)) n (b ∷ bytes) q.1
            (run_fits program_texts (λ text. kind.Number) is_ascii_digit b bytes q.0 (λ run all. (q.0, all)))
        | inr q ↦ symbol_fits program_texts kind.Symbol is_single is_pair single_symbol pair_symbol b bytes k n q.1
      ]
    ]

-- ---- what else is known of it

token_no_gap : (b : ℕ) (text : List ℕ) → IsNoGap (token_of b text)
unfolding token_of symbol_of
token_no_gap b text =
    no_gap_either (is_ascii_alphabetic b) _ _ tt (no_gap_either (is_ascii_digit b) _ _ tt (no_gap_either (begins_pair text) _ _ tt (no_gap_either (is_single b) _ _ tt tt)))

spelled_some : (k : TokenKind) → IsSpelled k [] → ⊥
spelled_some kind.Name s = s.0
spelled_some kind.Reserved s = reserved_word [] s
spelled_some kind.Number s = s
spelled_some kind.Symbol s = none_short is_other is_single is_pair (symbol_is [] s)
spelled_some kind.End s = s

in_range : (k : TokenKind) (text : List ℕ) → is_in_range k text ≡ true → IsInRange k text
in_range kind.Name text h = tt
in_range kind.Reserved text h = tt
in_range kind.Number text h = ltb-true _ _ h
in_range kind.Symbol text h = tt
in_range kind.End text h = tt

is_ranged : (k : TokenKind) (text : List ℕ) → IsInRange k text → is_in_range k text ≡ true
is_ranged kind.Name text h = refl
is_ranged kind.Reserved text h = refl
is_ranged kind.Number text h = grind arith
is_ranged kind.Symbol text h = refl
is_ranged kind.End text h = refl

blank_bad : (b : ℕ) (bytes : List ℕ) → is_blank b ≡ true → token_of b (b ∷ bytes) ≡ piece.Bad
unfolding token_of symbol_of
blank_bad b [] h = blank_or b (λ z. token_of z (z ∷ []) ≡ piece.Bad) h refl refl refl refl
blank_bad b (c ∷ bytes) h = blank_or b (λ z. token_of z (z ∷ c ∷ bytes) ≡ piece.Bad) h refl refl refl refl

pub finds : Finds program_texts scanner
finds = record { covers = covers; fits = token_fits; no_gap = token_no_gap; some = spelled_some; ranged = in_range; in_range = is_ranged; at_blank = blank_bad; no_blank = refl }
