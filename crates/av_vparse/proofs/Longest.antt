-- The scanner of design texts finds their tokens.
use Rattle.std.proofs.Common.{◌≡◌, ℕ, suc, ◌+◌, ◌<◌, ◌≤◌, Bool, true, false, cond, not, ◌&&◌, List, [], ◌∷◌, ◌++◌, length, take, drop, refl, sym, ap, subst, ◌∙◌, arith, inl, inr, true≢false, append_assoc, take-add}
use Rattle.std.specs.Prelude.{Contains, codes, nat_eq, nat_le}
use Rattle.std.specs.List.{prefix_len, AllByRecursion}
use Rattle.std.specs.Char.{is_ascii_digit}
use Rattle.std.specs.Str.{bytes_eq}
use Rattle.std.proofs.Math.Numerals.{one-add}
use Rattle.std.proofs.Math.Seq.{drop-append_seam}
use Rattle.std.proofs.lemmas.List.{length-drop}
use Rattle.std.proofs.lemmas.List.Elements.{All-from_recursion, recursion_from_All}
use Rattle.std.proofs.lemmas.List.Sums.{prefix_len-le-length}
use Rattle.std.proofs.lemmas.Slice.Eq.{bytes_eq-Decides}
use Rattle.std.proofs.lemmas.Bool.{eqb-true}
use Rattle.av_base.specs.declared.lexeme.Lexeme.{Lexeme}
use Rattle.av_base.specs.declared.lexeme.Lexeme.TheVariants as piece
use Rattle.av_base.specs.Tokens.{is_word_byte, is_blank, IsDigits}
use Rattle.av_net.specs.declared.token_kind.DesignTokenKind.{DesignTokenKind}
use Rattle.av_net.specs.declared.token_kind.DesignTokenKind.TheVariants as kind
use Rattle.av_net.specs.Lexemes.{reserved_words, begins_name, IsIdentifier, IsSized, IsSpelled, design_texts}
use Rattle.av_net.specs.Spelling.{is_reserved}
use Rattle.av_vparse.specs.inner.Lexing.{scanner}
use Rattle.av_vparse.specs.inner.Scan.{is_single, is_pair, begins_pair, is_signed, based_len, tail_len, number_by, number_of, word_kind, symbol_of, token_of}
use Rattle.av_base.proofs.Tables.{is_found, is_there, not_there, none_there, none_short}
use Rattle.av_base.proofs.Runs.{chosen, run_all, run_covers, blank_or}
use Rattle.av_base.proofs.Longest.{Covers, run_token_covers, run_fits, Fits, fits_as, IsNoGap, no_gap_either, Finds}
use Rattle.av_base.proofs.Symbols.{symbol_covers, symbol_fits}
use Rattle.av_vparse.proofs.Tables.{reserved_word, is_other, symbol_is, single_symbol, pair_symbol}
use Rattle.av_base.proofs.Truths.{both}

-- ---- what is spelled is covered by the token that is found

alphabetic_word : (b : ℕ) → begins_name b ≡ true → is_word_byte b ≡ true
alphabetic_word b h = grind arith

digit_not_letter : (b : ℕ) → is_ascii_digit b ≡ true → begins_name b ≡ false
digit_not_letter b h = grind arith

pub name_kind : (text : List ℕ) → (Contains reserved_words text → ⊥) → word_kind text ≡ kind.Name
name_kind text h = rw (not_there text reserved_words h) refl

pub reserved_kind : (text : List ℕ) → Contains reserved_words text → word_kind text ≡ kind.Reserved
reserved_kind text h = rw (is_found text reserved_words h) refl

at_letter : (b : ℕ) (text : List ℕ) → begins_name b ≡ true → token_of b text ≡ piece.Token (word_kind (take (prefix_len is_word_byte text) text)) (prefix_len is_word_byte text)
unfolding token_of
at_letter b text h = rw h refl

word_covers : (k : DesignTokenKind) (front back : List ℕ) → IsIdentifier front → word_kind front ≡ k → (b : ℕ) (bytes : List ℕ) → front ++ back ≡ b ∷ bytes → Covers k (length front) (token_of b (front ++ back))
word_covers k [] back s w b bytes e = absurd s
word_covers k (x ∷ front) back s w b bytes e = run_token_covers word_kind begins_name is_word_byte token_of alphabetic_word at_letter k x front back s.0 s.1 w b bytes e

-- what begins with $signed begins with that byte
signed_first : (b : ℕ) (bytes : List ℕ) → is_signed (b ∷ bytes) ≡ true → nat_eq b 36 ≡ true
signed_first b bytes h =
    let z = both (nat_le 7 (length (b ∷ bytes))) (bytes_eq (take 7 (b ∷ bytes)) (codes "$signed")) h in
    (both (nat_eq b 36) _ z.1).0

pub not_signed : (b : ℕ) (bytes : List ℕ) → nat_eq b 36 ≡ false → is_signed (b ∷ bytes) ≡ false
not_signed b bytes h = go (is_signed (b ∷ bytes)) refl
  where
    go : (t : Bool) → is_signed (b ∷ bytes) ≡ t → is_signed (b ∷ bytes) ≡ false
    go true e = absurd (true≢false (sym (signed_first b bytes e) ∙ h))
    go false e = e

pub other_symbol : (b : ℕ) (bytes : List ℕ) → is_other b ≡ true → token_of b (b ∷ bytes) ≡ symbol_of b (b ∷ bytes)
unfolding token_of
other_symbol b bytes h = go (begins_name b) (is_ascii_digit b) (is_signed (b ∷ bytes)) refl refl refl h
  where
    go : (t u v : Bool) → begins_name b ≡ t → is_ascii_digit b ≡ u → is_signed (b ∷ bytes) ≡ v → (not t && (not u && not (nat_eq b 36))) ≡ true → token_of b (b ∷ bytes) ≡ symbol_of b (b ∷ bytes)
    go true u v e f g k = absurd cc
    go false true v e f g k = absurd cc
    go false false true e f g k = let q = signed_first b bytes g in let w : not (nat_eq b 36) ≡ true = k in absurd (true≢false (sym w ∙ ap not q))
    go false false false e f g k = rw (e, f, g) refl

system_covers : (back : List ℕ) (b : ℕ) (bytes : List ℕ) → codes "$signed" ++ back ≡ b ∷ bytes → Covers kind.System 7 (token_of b (codes "$signed" ++ back))
unfolding token_of
system_covers back b bytes e =
    let head : 36 ≡ b = cc in
    let long : nat_le 7 (length (codes "$signed" ++ back)) ≡ true = grind arith in
    subst (λ z. Covers kind.System 7 (token_of z (codes "$signed" ++ back))) head
    (record { kind = kind.System; len' = 7; is = rw long refl; no_less = omega arith; same = λ h. refl })

-- ---- numbers

-- a number's run and its tail
by_tail : (n tail : ℕ) → Covers kind.Number n (number_by n tail)
by_tail n tail = go (nat_eq tail 0) refl
  where
    go : (t : Bool) → nat_eq tail 0 ≡ t → Covers kind.Number n (cond t (piece.Token kind.Number n) (piece.Token kind.Literal (n + tail)))
    go true e = record { kind = kind.Number; len' = n; is = refl; no_less = omega arith; same = λ h. refl }
    go false e =
        let some : 0 < tail = grind arith in
        record { kind = kind.Literal; len' = n + tail; is = refl; no_less = omega arith; same = λ h. absurd (omega arith) }

-- a token that covers more covers less, where the kind is told by the greater length
less_covers : (m n : ℕ) (found : Lexeme DesignTokenKind) → m ≤ n → Covers kind.Number n found → Covers kind.Number m found
less_covers m n found le c = record {
  kind = c.kind;
  len' = c.len';
  is = c.is;
  no_less = omega (arith, c.no_less);
  same = λ h. c.same (omega (arith, c.no_less));
}

-- digits end at a byte that is none
pub run_stops : (front : List ℕ) (c : ℕ) (back : List ℕ) → AllByRecursion (λ x. is_ascii_digit x ≡ true) front → is_ascii_digit c ≡ false → prefix_len is_ascii_digit (front ++ (c ∷ back)) ≡ length front
run_stops [] c back h e = rw e refl
run_stops (b ∷ front) c back h e = rw (h.0, run_stops front c back h.1 e) (omega arith)

pub digits_all : (text : List ℕ) → IsDigits text → AllByRecursion (λ x. is_ascii_digit x ≡ true) text
digits_all [] d = absurd d
digits_all (b ∷ text) d = (d.0, recursion_from_All (λ x. is_ascii_digit x ≡ true) text d.1)

pub digits_some : (text : List ℕ) → IsDigits text → 0 < length text
digits_some [] d = absurd d
digits_some (b ∷ text) d = omega arith

pub tail_of : (digits back : List ℕ) → IsDigits digits → tail_len (39 ∷ 100 ∷ (digits ++ back)) ≡ 2 + prefix_len is_ascii_digit (digits ++ back)
tail_of digits back d =
    let some : 0 < prefix_len is_ascii_digit (digits ++ back) = omega (arith, digits_some digits d, run_covers is_ascii_digit digits back (digits_all digits d)) in
    let e : nat_eq (prefix_len is_ascii_digit (digits ++ back)) 0 ≡ false = grind arith in
    rw e refl

pub literal_number : (size digits back : List ℕ) → IsDigits size → IsDigits digits
    → number_of (size ++ (39 ∷ 100 ∷ (digits ++ back))) ≡ piece.Token kind.Literal (length size + (2 + prefix_len is_ascii_digit (digits ++ back)))
unfolding number_of
literal_number size digits back s d =
    let run : prefix_len is_ascii_digit (size ++ (39 ∷ 100 ∷ (digits ++ back))) ≡ length size = run_stops size 39 (100 ∷ (digits ++ back)) (digits_all size s) refl in
    let after : drop (length size) (size ++ (39 ∷ 100 ∷ (digits ++ back))) ≡ 39 ∷ 100 ∷ (digits ++ back) = drop-append_seam size (39 ∷ 100 ∷ (digits ++ back)) in
    let tail : tail_len (39 ∷ 100 ∷ (digits ++ back)) ≡ 2 + prefix_len is_ascii_digit (digits ++ back) = tail_of digits back d in
    let none : nat_eq (2 + prefix_len is_ascii_digit (digits ++ back)) 0 ≡ false = grind arith in
    rw (run, after, tail, none) refl

pub sized_length : (size digits : List ℕ) → length (size ++ (codes "'d" ++ digits)) ≡ length size + (2 + length digits)
sized_length [] digits = omega arith
sized_length (b ∷ size) digits = omega (arith, sized_length size digits)

-- the token at a digit is a number
pub at_digit : (b : ℕ) (text : List ℕ) → is_ascii_digit b ≡ true → token_of b text ≡ number_of text
unfolding token_of
at_digit b text h = rw (digit_not_letter b h, h) refl

literal_covers : (size digits back : List ℕ) → IsDigits size → IsDigits digits → (b : ℕ) (bytes : List ℕ)
    → size ++ (39 ∷ 100 ∷ (digits ++ back)) ≡ b ∷ bytes → Covers kind.Literal (length size + (2 + length digits)) (token_of b (size ++ (39 ∷ 100 ∷ (digits ++ back))))
literal_covers [] digits back s d b bytes e = absurd s
literal_covers (x ∷ size) digits back s d b bytes e =
    let head : x ≡ b = cc in
    let digit : is_ascii_digit b ≡ true = subst (λ z. is_ascii_digit z ≡ true) head s.0 in
    let more = run_covers is_ascii_digit digits back (digits_all digits d) in
    record {
      kind = kind.Literal;
      len' = length (x ∷ size) + (2 + prefix_len is_ascii_digit (digits ++ back));
      is = at_digit b (x ∷ size ++ (39 ∷ 100 ∷ (digits ++ back))) digit ∙ literal_number (x ∷ size) digits back s d;
      no_less = omega (arith, more);
      same = λ h. refl;
    }

number_covers : (front back : List ℕ) → IsDigits front → (b : ℕ) (bytes : List ℕ) → front ++ back ≡ b ∷ bytes → Covers kind.Number (length front) (token_of b (front ++ back))
unfolding number_of
number_covers [] back s b bytes e = absurd s
number_covers (x ∷ front) back s b bytes e =
    let head : x ≡ b = cc in
    let digit : is_ascii_digit b ≡ true = subst (λ z. is_ascii_digit z ≡ true) head s.0 in
    let text : List ℕ = x ∷ front ++ back in
    let n : ℕ = prefix_len is_ascii_digit text in
    rw (at_digit b text digit) (less_covers (length (x ∷ front)) n (number_of text) (run_covers is_ascii_digit (x ∷ front) back (digits_all (x ∷ front) s)) (by_tail n (tail_len (drop n text))))

covers : (k : DesignTokenKind) (front back : List ℕ) → IsSpelled k front → (b : ℕ) (bytes : List ℕ) → front ++ back ≡ b ∷ bytes → Covers k (length front) (token_of b (front ++ back))
unfolding token_of symbol_of
covers kind.Name front back s b bytes e = word_covers kind.Name front back s.0 (name_kind front s.1) b bytes e
covers kind.Reserved front back s b bytes e = word_covers kind.Reserved front back (reserved_word front s) (reserved_kind front s) b bytes e
covers kind.System front back s b bytes e =
    subst (λ (z : List ℕ). Covers kind.System (length z) (token_of b (z ++ back))) (sym s) (system_covers back b bytes (ap (λ z. z ++ back) (sym s) ∙ e))
covers kind.Number front back s b bytes e = number_covers front back s b bytes e
covers kind.Literal front back s b bytes e =
    let whole : front ++ back ≡ s.size ++ (39 ∷ 100 ∷ (s.digits ++ back)) = ap (λ z. z ++ back) s.spelled ∙ append_assoc s.size (39 ∷ 100 ∷ s.digits) back in
    let len : length front ≡ length s.size + (2 + length s.digits) = ap length s.spelled ∙ sized_length s.size s.digits in
    subst (λ n. Covers kind.Literal n (token_of b (front ++ back))) (sym len)
    (subst (λ (z : List ℕ). Covers kind.Literal (length s.size + (2 + length s.digits)) (token_of b z)) (sym whole) (literal_covers s.size s.digits back s.sized s.valued b bytes (sym whole ∙ e)))
covers kind.Symbol front back s b bytes e = symbol_covers kind.Symbol is_other is_single is_pair token_of other_symbol front back (symbol_is front s) b bytes e
covers kind.End front back s b bytes e = absurd s

-- ---- the token that is found is spelled

word_spelled : (text : List ℕ) → IsIdentifier text → IsSpelled (word_kind text) text
word_spelled text w = go (is_reserved text) refl
  where
    go : (t : Bool) → is_reserved text ≡ t → IsSpelled (cond t kind.Reserved kind.Name) text
    go true e = is_there text reserved_words e
    go false e = (w, none_there text reserved_words e)

-- the digits that are found, and their tail
run_digits : (b : ℕ) (bytes : List ℕ) → is_ascii_digit b ≡ true → (0 < prefix_len is_ascii_digit (b ∷ bytes)) × IsDigits (take (prefix_len is_ascii_digit (b ∷ bytes)) (b ∷ bytes))
run_digits b bytes h =
    let at : prefix_len is_ascii_digit (b ∷ bytes) ≡ suc (prefix_len is_ascii_digit bytes) = rw h (one-add _) in
    rw at (omega arith, (h, All-from_recursion (λ x. is_ascii_digit x ≡ true) (take (prefix_len is_ascii_digit bytes) bytes) (run_all is_ascii_digit bytes)))

pub first_digits : (text : List ℕ) → 0 < prefix_len is_ascii_digit text → IsDigits (take (prefix_len is_ascii_digit text) text)
first_digits [] h = absurd (omega arith)
first_digits (b ∷ bytes) h = go (is_ascii_digit b) refl
  where
    go : (t : Bool) → is_ascii_digit b ≡ t → IsDigits (take (prefix_len is_ascii_digit (b ∷ bytes)) (b ∷ bytes))
    go true e = (run_digits b bytes e).1
    go false e = absurd (let z : prefix_len is_ascii_digit (b ∷ bytes) ≡ 0 = rw e refl in omega (arith, z))

-- a tail is 'd and digits
pub record IsTail (tail : ℕ) (text : List ℕ) : Type 0 where
  pub digits : List ℕ
  pub is : take tail text ≡ codes "'d" ++ digits
  pub valued : IsDigits digits
  pub within : tail ≤ length text

based_tail : (text : List ℕ) → (n : ℕ) → prefix_len is_ascii_digit text ≡ n → 0 < based_len n → IsTail (based_len n) (39 ∷ 100 ∷ text)
based_tail text n e h = go (nat_eq n 0) refl
  where
    go : (t : Bool) → nat_eq n 0 ≡ t → IsTail (based_len n) (39 ∷ 100 ∷ text)
    go true f = absurd (let z : based_len n ≡ 0 = rw f refl in omega (arith, z))
    go false f =
        let is : based_len n ≡ suc (suc n) = rw f (omega arith) in
        let some : 0 < n = grind arith in
        let fits = prefix_len-le-length is_ascii_digit text in
        rw is (record {
          digits = take n text;
          is = refl;
          valued = subst (λ m. IsDigits (take m text)) e (first_digits text (rw e some));
          within = omega (arith, e);
        })

tail_is : (text : List ℕ) → 0 < tail_len text → IsTail (tail_len text) text
tail_is [] h = absurd (omega arith)
tail_is (b ∷ []) h = absurd (omega arith)
tail_is (b ∷ c ∷ text) h = go (nat_eq b 39) (nat_eq c 100) refl refl h
  where
    n : ℕ
    n = prefix_len is_ascii_digit text

    go : (t u : Bool) → nat_eq b 39 ≡ t → nat_eq c 100 ≡ u → 0 < cond (t && u) (based_len n) 0 → IsTail (cond (t && u) (based_len n) 0) (b ∷ c ∷ text)
    go true true e f k = rw (eqb-true b 39 e, eqb-true c 100 f) (based_tail text n refl k)
    go true false e f k = absurd (omega arith)
    go false u e f k = absurd (omega arith)

take_both : (n m : ℕ) (text : List ℕ) → n ≤ length text → take (n + m) text ≡ take n text ++ take m (drop n text)
take_both n m text h = take-add n m text

number_fits : (b : ℕ) (bytes : List ℕ) (k : DesignTokenKind) (n : ℕ) → is_ascii_digit b ≡ true → number_of (b ∷ bytes) ≡ piece.Token k n → Fits design_texts k n (b ∷ bytes)
unfolding number_of
number_fits b bytes k n h e =
    elim (chosen (nat_eq tail 0) (piece.Token kind.Number m) (piece.Token kind.Literal (m + tail)) (piece.Token k n) e) [
      | inl p ↦ fits_as design_texts k kind.Number m n text p.1 (record { spelled = r.1; some = r.0; within = within })
      | inr p ↦
          let some : 0 < tail = let q = p.0 in grind arith in
          let t = tail_is (drop m text) some in
          fits_as design_texts k kind.Literal (m + tail) n text p.1 (record {
            spelled = record { size = take m text; digits = t.digits; spelled = take_both m tail text within ∙ ap (λ z. take m text ++ z) t.is; sized = r.1; valued = t.valued };
            some = omega arith;
            within = let w = t.within in let l = length-drop m text in omega (arith, within);
          })
    ]
  where
    text : List ℕ
    text = b ∷ bytes

    m : ℕ
    m = prefix_len is_ascii_digit (b ∷ bytes)

    tail : ℕ
    tail = tail_len (drop (prefix_len is_ascii_digit (b ∷ bytes)) (b ∷ bytes))

    r : (0 < prefix_len is_ascii_digit (b ∷ bytes)) × IsDigits (take (prefix_len is_ascii_digit (b ∷ bytes)) (b ∷ bytes))
    r = run_digits b bytes h

    within : prefix_len is_ascii_digit (b ∷ bytes) ≤ length (b ∷ bytes)
    within = prefix_len-le-length is_ascii_digit (b ∷ bytes)

signed_fits : (b : ℕ) (bytes : List ℕ) → is_signed (b ∷ bytes) ≡ true → Fits design_texts kind.System 7 (b ∷ bytes)
signed_fits b bytes h =
    let z = both (nat_le 7 (length (b ∷ bytes))) (bytes_eq (take 7 (b ∷ bytes)) (codes "$signed")) h in
    record { spelled = (bytes_eq-Decides (take 7 (b ∷ bytes)) (codes "$signed")).0 z.1; some = omega arith; within = let q = z.0 in grind arith }

token_fits : (b : ℕ) (bytes : List ℕ) (k : DesignTokenKind) (n : ℕ) → token_of b (b ∷ bytes) ≡ piece.Token k n → Fits design_texts k n (b ∷ bytes)
unfolding token_of symbol_of
token_fits b bytes k n e =
    elim (chosen (begins_name b) (piece.Token (word_kind (take (prefix_len is_word_byte (b ∷ bytes)) (b ∷ bytes))) (prefix_len is_word_byte (b ∷ bytes))) (cond (is_ascii_digit b) (number_of (b ∷ bytes)) (cond (is_signed (b ∷ bytes)) (piece.Token kind.System 7) (symbol_of b (b ∷ bytes)))) (piece.Token k n) e) [
      | inl p ↦
          fits_as design_texts k (word_kind (take (prefix_len is_word_byte (b ∷ bytes)) (b ∷ bytes))) (prefix_len is_word_byte (b ∷ bytes)) n (b ∷ bytes) p.1
          (run_fits design_texts word_kind is_word_byte b bytes (alphabetic_word b p.0) (λ run all. word_spelled (b ∷ run) (p.0, all)))
      | inr p ↦ elim (chosen (is_ascii_digit b) (number_of (b ∷ bytes)) (cond (is_signed (b ∷ bytes)) (piece.Token kind.System 7) (symbol_of b (b ∷ bytes))) (piece.Token k n) p.1) [
        | inl q ↦ number_fits b bytes k n q.0 q.1
        | inr q ↦ elim (chosen (is_signed (b ∷ bytes)) (piece.Token kind.System 7) (symbol_of b (b ∷ bytes)) (piece.Token k n) q.1) [
          | inl r ↦ fits_as design_texts k kind.System 7 n (b ∷ bytes) r.1 (signed_fits b bytes r.0)
          | inr r ↦ symbol_fits design_texts kind.Symbol is_single is_pair single_symbol pair_symbol b bytes k n r.1
        ]
      ]
    ]

-- ---- what else is known of it

number_no_gap : (text : List ℕ) → IsNoGap (number_of text)
unfolding number_of
number_no_gap text = no_gap_either (nat_eq (tail_len (drop (prefix_len is_ascii_digit text) text)) 0) _ _ tt tt

token_no_gap : (b : ℕ) (text : List ℕ) → IsNoGap (token_of b text)
unfolding token_of symbol_of
token_no_gap b text =
    no_gap_either (begins_name b) _ _ tt
    (no_gap_either (is_ascii_digit b) _ _ (number_no_gap text) (no_gap_either (is_signed text) _ _ tt (no_gap_either (begins_pair text) _ _ tt (no_gap_either (is_single b) _ _ tt tt))))

no_sized : IsSized [] → ⊥
no_sized s = go s.size s.spelled
  where
    go : (size : List ℕ) → [] ≡ size ++ (39 ∷ 100 ∷ s.digits) → ⊥
    go [] e = cc
    go (b ∷ size) e = cc

spelled_some : (k : DesignTokenKind) → IsSpelled k [] → ⊥
spelled_some kind.Name s = s.0
spelled_some kind.Reserved s = reserved_word [] s
spelled_some kind.System s = absurd cc
spelled_some kind.Number s = s
spelled_some kind.Literal s = no_sized s
spelled_some kind.Symbol s = none_short is_other is_single is_pair (symbol_is [] s)
spelled_some kind.End s = s

blank_bad : (b : ℕ) (bytes : List ℕ) → is_blank b ≡ true → token_of b (b ∷ bytes) ≡ piece.Bad
unfolding token_of symbol_of
blank_bad b [] h = blank_or b (λ z. token_of z (z ∷ []) ≡ piece.Bad) h refl refl refl refl
blank_bad b (c ∷ bytes) h =
    blank_or b (λ z. token_of z (z ∷ c ∷ bytes) ≡ piece.Bad) h (rw (not_signed 32 (c ∷ bytes) refl) refl) (rw (not_signed 9 (c ∷ bytes) refl) refl)
    (rw (not_signed 13 (c ∷ bytes) refl) refl) (rw (not_signed 10 (c ∷ bytes) refl) refl)

pub finds : Finds design_texts scanner
finds = record { covers = covers; fits = token_fits; no_gap = token_no_gap; some = spelled_some; ranged = λ k text h. tt; in_range = λ k text h. refl; at_blank = blank_bad; no_blank = refl }
