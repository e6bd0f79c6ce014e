-- The bytes of words, digits and tokens are ASCII.
use Rattle.std.proofs.Common.{◌≡◌, ℕ, ◌+◌, ◌<◌, Bool, true, List, [], ◌∷◌, length, take, drop, get_or, sym, ap, subst, ◌∙◌, arith, drop-cons, suc}
use Rattle.std.specs.Prelude.{nat_lt, IsTrue}
use Rattle.std.specs.Str.{IsAscii}
use Rattle.std.specs.Char.{is_ascii_alphabetic, is_ascii_digit}
use Rattle.std.specs.List.{list_all}
use Rattle.std.proofs.lemmas.List.Elements.{All-weaker, All-cons}
use Rattle.std.proofs.lemmas.List.Sums.{AllPass-from_list_all}
use Rattle.std.proofs.lemmas.Str.Ascii.{IsAscii-from_all}
use Rattle.av_base.specs.declared.lexeme.Lexeme.{Lexeme}
use Rattle.av_base.specs.declared.lexeme.Lexeme.TheVariants as piece
use Rattle.av_base.specs.Lexicon.{Lexicon}
use Rattle.av_base.specs.Reading.{Scanner, piece_by}
use Rattle.av_base.specs.Tokens.{is_word_byte, IsWord, IsDigits}
use Rattle.av_base.specs.Spelling.{is_name}
use Rattle.av_base.proofs.Longest.{Finds}
use Rattle.av_base.proofs.Pieces.{IsPiece, a_blank, a_comment, a_token, no_piece, is_piece}
use Rattle.av_base.proofs.Spelled.{name_is}

-- ---- bytes below 128

abbrev pub is_low : List ℕ → Bool
is_low text = list_all (λ b. nat_lt b 128) text

low_below : (b : ℕ) → IsTrue (nat_lt b 128) → b < 128
low_below b e = grind arith

pub low : (text : List ℕ) → is_low text ≡ true → IsAscii text
low text h = IsAscii-from_all text (All-weaker (λ b. IsTrue (nat_lt b 128)) (λ b. b < 128) low_below text (AllPass-from_list_all (λ b. nat_lt b 128) text h))

pub word_byte_below : (b : ℕ) → IsTrue (is_word_byte b) → b < 128
word_byte_below b e = grind arith

letter_below : (b : ℕ) → IsTrue (is_ascii_alphabetic b) → b < 128
letter_below b e = grind arith

digit_below : (b : ℕ) → IsTrue (is_ascii_digit b) → b < 128
digit_below b e = grind arith

-- ---- words, names and numbers

pub word_bytes_ascii : (text : List ℕ) → list_all is_word_byte text ≡ true → IsAscii text
word_bytes_ascii text h = IsAscii-from_all text (All-weaker (λ b. IsTrue (is_word_byte b)) (λ b. b < 128) word_byte_below text (AllPass-from_list_all is_word_byte text h))

pub word_ascii : (text : List ℕ) → IsWord text → IsAscii text
word_ascii [] w = absurd w
word_ascii (b ∷ bytes) w =
    IsAscii-from_all (b ∷ bytes) (All-cons (λ x. x < 128) b bytes (letter_below b w.0) (All-weaker (λ x. IsTrue (is_word_byte x)) (λ x. x < 128) word_byte_below bytes w.1))

pub name_ascii : (text : List ℕ) → is_name text ≡ true → IsAscii text
name_ascii text h = word_ascii text ((name_is text h).0)

pub digits_ascii : (text : List ℕ) → IsDigits text → IsAscii text
digits_ascii [] w = absurd w
digits_ascii (b ∷ bytes) w =
    IsAscii-from_all (b ∷ bytes) (All-cons (λ x. x < 128) b bytes (digit_below b w.0) (All-weaker (λ x. IsTrue (is_ascii_digit x)) (λ x. x < 128) digit_below bytes w.1))

-- ---- tokens

-- what a token that is found is spelled as
abbrev FoundSpelled : {Kind : Type 0} → Lexicon Kind → List ℕ → Lexeme Kind → Type 0
FoundSpelled lexicon bytes (piece.Token k n) = lexicon.IsSpelled k (take n bytes)
FoundSpelled lexicon bytes _ = Unit {0}

found_spelled : {Kind : Type 0} (lexicon : Lexicon Kind) {bytes : List ℕ} {found : Lexeme Kind} → IsPiece lexicon bytes found → FoundSpelled lexicon bytes found
found_spelled lexicon (a_blank h) = tt
found_spelled lexicon (a_comment s w c) = tt
found_spelled lexicon (a_token h f) = f.longest.spelled
found_spelled lexicon (no_piece h c f) = tt

-- the token at an index is spelled as one of its kind
pub token_spelled : {Kind Fault : Type 0} (lexicon : Lexicon Kind) (scanner : Scanner Kind Fault) → Finds lexicon scanner
    → (bytes : List ℕ) (at : ℕ) (k : Kind) (n : ℕ) → at < length bytes
    → piece.Token k n ≡ piece_by lexicon.mark scanner.token_of (get_or bytes at 0) (drop at bytes) → lexicon.IsSpelled k (take n (drop at bytes))
token_spelled lexicon scanner finds bytes at k n lt e =
    let b : ℕ = get_or bytes at 0 in
    let here : drop at bytes ≡ b ∷ drop (at + 1) bytes = drop-cons bytes at 0 lt ∙ ap (λ m. b ∷ drop m bytes) (let e : suc at ≡ at + 1 = omega arith in e) in
    let is : piece_by lexicon.mark scanner.token_of b (b ∷ drop (at + 1) bytes) ≡ piece.Token k n = sym (e ∙ ap (piece_by lexicon.mark scanner.token_of b) here) in
    subst (λ (z : List ℕ). lexicon.IsSpelled k (take n z)) (sym here) (found_spelled lexicon (is_piece lexicon scanner finds b (drop (at + 1) bytes) (piece.Token k n) is))
