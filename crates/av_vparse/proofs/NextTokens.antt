-- Which texts are the next token, by what follows them.
use Rattle.std.proofs.Common.{◌≡◌, ℕ, suc, ◌+◌, Bool, true, false, cond, not, List, [], ◌∷◌, ◌++◌, length, take, drop, refl, sym, ap, ◌∙◌, arith, true≢false, append_assoc}
use Rattle.std.specs.Prelude.{◌&&◌, nat_eq, nat_le, codes, Contains}
use Rattle.std.specs.List.{prefix_len, list_any, AllByRecursion}
use Rattle.std.specs.Char.{is_ascii_digit}
use Rattle.std.proofs.Math.Numerals.{one-add}
use Rattle.std.proofs.Math.Seq.{take-append_seam, drop-append_seam}
use Rattle.std.proofs.lemmas.List.Elements.{recursion_from_All}
use Rattle.av_base.specs.Tokens.{is_word_byte, IsDigits}
use Rattle.av_net.specs.declared.token_kind.DesignTokenKind.{DesignTokenKind}
use Rattle.av_net.specs.declared.token_kind.DesignTokenKind.TheVariants as kind
use Rattle.av_net.specs.Lexemes.{reserved_words, begins_name, IsIdentifier, IsName}
use Rattle.av_base.specs.declared.lexeme.Lexeme.{Lexeme}
use Rattle.av_base.specs.declared.lexeme.Lexeme.TheVariants as piece
use Rattle.av_vparse.specs.inner.Scan.{is_single, is_pair, begins_pair, tail_len, number_of, word_kind, symbol_of, token_of}
use Rattle.av_vparse.proofs.Tables.{and_false, is_other, reserved_word}
use Rattle.av_vparse.proofs.Longest.{name_kind, reserved_kind, other_symbol, digits_all, at_digit, literal_number, sized_length}
use Rattle.av_vparse.proofs.Spaced.{IsNext}
use Rattle.av_base.proofs.Truths.{both, not_true}

-- the first byte belongs to no word, no literal and no operator that began before it
abbrev pub is_clear : List ℕ → Bool
is_clear [] = true
is_clear (b ∷ bytes) = not (is_word_byte b) && (not (nat_eq b 39) && not (nat_eq b 61))

-- ---- words

stops_at : (p : ℕ → Bool) (front rest : List ℕ) → AllByRecursion (λ x. p x ≡ true) front → prefix_len p rest ≡ 0 → prefix_len p (front ++ rest) ≡ length front
stops_at p [] rest h e = e
stops_at p (b ∷ front) rest h e = rw (h.0, stops_at p front rest h.1 e) (one-add (length front))

no_word : (rest : List ℕ) → is_clear rest ≡ true → prefix_len is_word_byte rest ≡ 0
no_word [] c = refl
no_word (b ∷ rest) c = go (is_word_byte b) refl (both (not (is_word_byte b)) _ c).0
  where
    go : (t : Bool) → is_word_byte b ≡ t → not t ≡ true → cond t (1 + prefix_len is_word_byte rest) 0 ≡ 0
    go true e h = absurd (true≢false (sym h))
    go false e h = refl

no_slash : (b : ℕ) → begins_name b ≡ true → nat_eq b 47 ≡ false
no_slash b h = grind arith

abbrev word_piece : List ℕ → ℕ → Lexeme DesignTokenKind
word_piece bytes n = piece.Token (word_kind (take n bytes)) n

word_found : (b : ℕ) (bytes : List ℕ) → begins_name b ≡ true → token_of b bytes ≡ word_piece bytes (prefix_len is_word_byte bytes)
unfolding token_of
word_found b bytes h = rw h refl

word_next : (k : DesignTokenKind) (text rest : List ℕ) → IsIdentifier text → word_kind text ≡ k → is_clear rest ≡ true → IsNext k text rest
word_next k [] rest w e c = absurd w
word_next k (b ∷ text) rest w e c =
    let all : AllByRecursion (λ x. is_word_byte x ≡ true) (b ∷ text) = (first b w.0, recursion_from_All (λ x. is_word_byte x ≡ true) text w.1) in
    let len : prefix_len is_word_byte (b ∷ text ++ rest) ≡ suc (length text) = stops_at is_word_byte (b ∷ text) rest all (no_word rest c) in
    let letter : begins_name b ≡ true = w.0 in
    let front : take (suc (length text)) (b ∷ text ++ rest) ≡ b ∷ text = take-append_seam (b ∷ text) rest in
    record { first = b; later = text; is = refl; no_slash = no_slash b w.0; found = found letter len front }
  where
    first : (b : ℕ) → begins_name b ≡ true → is_word_byte b ≡ true
    first b h = grind arith

    found : begins_name b ≡ true → prefix_len is_word_byte (b ∷ text ++ rest) ≡ suc (length text) → take (suc (length text)) (b ∷ text ++ rest) ≡ b ∷ text
        → token_of b (b ∷ text ++ rest) ≡ piece.Token k (suc (length text))
    found letter len front =
        word_found b (b ∷ text ++ rest) letter ∙ ap (word_piece (b ∷ text ++ rest)) len ∙ ap (λ z. piece.Token (word_kind z) (suc (length text))) front
        ∙ ap (λ z. piece.Token z (suc (length text))) e

pub name_next : (text rest : List ℕ) → IsName text → is_clear rest ≡ true → IsNext kind.Name text rest
name_next text rest n c = word_next kind.Name text rest n.0 (name_kind text n.1) c

pub reserved_next : (text rest : List ℕ) → Contains reserved_words text → is_clear rest ≡ true → IsNext kind.Reserved text rest
reserved_next text rest h c = word_next kind.Reserved text rest (reserved_word text h) (reserved_kind text h) c

-- ---- symbols

-- a symbol of one byte that begins none of two
abbrev pub is_plain : ℕ → Bool
is_plain b = is_other b && (is_single b && (not (list_any (nat_eq b) (codes "<>=!")) && not (nat_eq b 47)))

symbol_next : (b : ℕ) (rest : List ℕ) → is_other b ≡ true → is_single b ≡ true → nat_eq b 47 ≡ false → begins_pair (b ∷ rest) ≡ false → IsNext kind.Symbol (b ∷ []) rest
unfolding symbol_of
symbol_next b rest o s h e = record { first = b; later = []; is = refl; no_slash = h; found = other_symbol b rest o ∙ rw (e, s) refl }

pub plain_next : (b : ℕ) (rest : List ℕ) → is_plain b ≡ true → IsNext kind.Symbol (b ∷ []) rest
plain_next b rest p =
    let o = both (is_other b) _ p in
    let s = both (is_single b) _ o.1 in
    let q = both (not (list_any (nat_eq b) (codes "<>=!"))) (not (nat_eq b 47)) s.1 in
    symbol_next b rest o.0 s.0 (not_true (nat_eq b 47) q.1) (alone rest (not_true (list_any (nat_eq b) (codes "<>=!")) q.0))
  where
    alone : (rest : List ℕ) → list_any (nat_eq b) (codes "<>=!") ≡ false → begins_pair (b ∷ rest) ≡ false
    alone [] e = refl
    alone (c ∷ rest) e = ap (λ t. t && nat_eq c 61) e

-- a symbol of one byte before what is none of its second byte
pub single_next : (b : ℕ) (rest : List ℕ) → (is_other b && (is_single b && not (nat_eq b 47))) ≡ true → is_clear rest ≡ true → IsNext kind.Symbol (b ∷ []) rest
single_next b rest p c =
    let o = both (is_other b) _ p in
    let s = both (is_single b) (not (nat_eq b 47)) o.1 in
    symbol_next b rest o.0 s.0 (not_true (nat_eq b 47) s.1) (alone rest c)
  where
    alone : (rest : List ℕ) → is_clear rest ≡ true → begins_pair (b ∷ rest) ≡ false
    alone [] e = refl
    alone (c ∷ rest) e =
        let x = both (not (is_word_byte c)) _ e in
        let y = both (not (nat_eq c 39)) (not (nat_eq c 61)) x.1 in
        and_false (list_any (nat_eq b) (codes "<>=!")) (nat_eq c 61) (not_true (nat_eq c 61) y.1)

pub pair_next : (b c : ℕ) (rest : List ℕ) → (is_other b && (is_pair b c && not (nat_eq b 47))) ≡ true → IsNext kind.Symbol (b ∷ c ∷ []) rest
unfolding symbol_of
pair_next b c rest p =
    let o = both (is_other b) _ p in
    let s = both (is_pair b c) (not (nat_eq b 47)) o.1 in
    record { first = b; later = c ∷ []; is = refl; no_slash = not_true (nat_eq b 47) s.1; found = other_symbol b (c ∷ rest) o.0 ∙ rw s.0 refl }

pub signed_next : (rest : List ℕ) → IsNext kind.System (codes "$signed") rest
unfolding token_of
signed_next rest =
    let long : nat_le 7 (length (codes "$signed" ++ rest)) ≡ true = grind arith in
    record { first = 36; later = codes "signed"; is = refl; no_slash = refl; found = rw long refl }

-- ---- numbers

no_digit : (rest : List ℕ) → is_clear rest ≡ true → prefix_len is_ascii_digit rest ≡ 0
no_digit [] c = refl
no_digit (b ∷ rest) c = go (is_ascii_digit b) refl (no_digit_byte b (not_true (is_word_byte b) (both (not (is_word_byte b)) _ c).0))
  where
    no_digit_byte : (b : ℕ) → is_word_byte b ≡ false → is_ascii_digit b ≡ false
    no_digit_byte b h = grind arith

    go : (t : Bool) → is_ascii_digit b ≡ t → is_ascii_digit b ≡ false → cond t (1 + prefix_len is_ascii_digit rest) 0 ≡ 0
    go true e h = absurd (true≢false (sym e ∙ h))
    go false e h = refl

no_tail : (rest : List ℕ) → is_clear rest ≡ true → tail_len rest ≡ 0
no_tail [] c = refl
no_tail (b ∷ []) c = refl
no_tail (b ∷ d ∷ rest) c =
    let x = both (not (is_word_byte b)) _ c in
    let y = both (not (nat_eq b 39)) (not (nat_eq b 61)) x.1 in
    rw (not_true (nat_eq b 39) y.0) refl

digit_slash : (b : ℕ) → is_ascii_digit b ≡ true → nat_eq b 47 ≡ false
digit_slash b h = grind arith

pub number_next : (text rest : List ℕ) → IsDigits text → is_clear rest ≡ true → IsNext kind.Number text rest
unfolding number_of
number_next [] rest d c = absurd d
number_next (b ∷ text) rest d c =
    let len : prefix_len is_ascii_digit (b ∷ text ++ rest) ≡ suc (length text) = stops_at is_ascii_digit (b ∷ text) rest (digits_all (b ∷ text) d) (no_digit rest c) in
    record { first = b; later = text; is = refl; no_slash = digit_slash b d.0; found = at_digit b (b ∷ text ++ rest) d.0 ∙ found (b ∷ text ++ rest) (suc (length text)) len (drop-append_seam (b ∷ text) rest) }
  where
    found : (bytes : List ℕ) (n : ℕ) → prefix_len is_ascii_digit bytes ≡ n → drop n bytes ≡ rest → number_of bytes ≡ piece.Token kind.Number n
    found bytes n e f = rw (e, f, no_tail rest c) refl

pub literal_next : (size digits rest : List ℕ) → IsDigits size → IsDigits digits → is_clear rest ≡ true → IsNext kind.Literal (size ++ (39 ∷ 100 ∷ digits)) rest
literal_next [] digits rest s d c = absurd s
literal_next (b ∷ size) digits rest s d c =
    let run : prefix_len is_ascii_digit (digits ++ rest) ≡ length digits = stops_at is_ascii_digit digits rest (digits_all digits d) (no_digit rest c) in
    let whole : b ∷ size ++ (39 ∷ 100 ∷ digits) ++ rest ≡ b ∷ size ++ (39 ∷ 100 ∷ (digits ++ rest)) = append_assoc (b ∷ size) (39 ∷ 100 ∷ digits) rest in
    record {
      first = b;
      later = size ++ (39 ∷ 100 ∷ digits);
      is = refl;
      no_slash = digit_slash b s.0;
      found =
          ap (token_of b) whole ∙ at_digit b (b ∷ size ++ (39 ∷ 100 ∷ (digits ++ rest))) s.0 ∙ literal_number (b ∷ size) digits rest s d
          ∙ ap (λ n. piece.Token kind.Literal (length (b ∷ size) + (2 + n))) run ∙ ap (piece.Token kind.Literal) (sym (sized_length (b ∷ size) digits));
    }
