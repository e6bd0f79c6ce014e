-- Numbers are read from their decimal digits.
use Rattle.std.proofs.Common.{◌≡◌, ℕ, zero, suc, ◌+◌, ◌^◌, ◌<◌, ◌≤◌, Bool, true, false, cond, not, List, [], ◌∷◌, length, get_or, Option, Some, None, refl, sym, ap, subst, ◌∙◌, arith, rules, true≢false}
use Rattle.std.specs.Prelude.{◌&&◌, ◌||◌, nat_eq, nat_lt, nat_le, ℤ, pos, negsuc, nat_abs, decimal}
use Rattle.std.specs.Fmt.{signed_decimal}
use Rattle.std.specs.Char.{is_ascii_digit}
use Rattle.std.specs.List.{prefix_len}
use Rattle.std.specs.Str.{all_ascii_digits}
use Rattle.std.proofs.Math.Numerals.{one-add}
use Rattle.std.proofs.lemmas.Bool.{ltb-true, leb-true, eqb-true}
use Rattle.std.proofs.lemmas.Fmt.{digits_decimal, digits_value-decimal, decimal-digits_value, decimal_digit, first_decimal, decimal_nonempty}
use Rattle.std.proofs.lemmas.Str.Parse.{IsNumeralModel, numerals_by_fold, tells_all_ascii_digits}
use Rattle.av_base.specs.Tokens.{number_of, number_from}
use Rattle.av_vparse.specs.Digits.{are_digits}
use Rattle.av_vread.specs.inner.Entries.{is_numeral, numeral_of, below_zero, not_below, index_of}
use Rattle.av_vread.specs.inner.Lines.{is_not}
use Rattle.av_vread.proofs.Cuts.{Without}
use Rattle.av_base.proofs.Truths.{and_true, both}

own : IsNumeralModel (λ ds. all_ascii_digits ds ≡ true) number_of
own = numerals_by_fold _ tells_all_ascii_digits number_from (search rules)

-- ---- digits

digits_all : (text : List ℕ) → nat_eq (prefix_len is_ascii_digit text) (length text) ≡ true → all_ascii_digits text ≡ true
digits_all [] e = refl
digits_all (b ∷ text) e = go (is_ascii_digit b) refl e (digits_all text)
  where
    go : (t : Bool) → is_ascii_digit b ≡ t → nat_eq (cond t (1 + prefix_len is_ascii_digit text) 0) (suc (length text)) ≡ true
        → (nat_eq (prefix_len is_ascii_digit text) (length text) ≡ true → all_ascii_digits text ≡ true) → (t && all_ascii_digits text) ≡ true
    go true h f ih = ih (let same = eqb-true (1 + prefix_len is_ascii_digit text) (suc (length text)) f in grind arith)
    go false h f ih = absurd (let same = eqb-true 0 (suc (length text)) f in omega arith)

all_digits : (text : List ℕ) → all_ascii_digits text ≡ true → nat_eq (prefix_len is_ascii_digit text) (length text) ≡ true
all_digits [] e = refl
all_digits (b ∷ text) e =
    let z = both (is_ascii_digit b) (all_ascii_digits text) e in
    let ih = eqb-true (prefix_len is_ascii_digit text) (length text) (all_digits text z.1) in
    rw (z.0, one-add) (grind arith)

-- ---- numbers

pub record IsNumeral (text : List ℕ) (n : ℕ) : Type 0 where
  pub spelled : text ≡ decimal n
  pub most : n ≤ 4095

either_or : (a b : Bool) → (a || b) ≡ true → a ≡ false → b ≡ true
either_or true b e f = absurd (true≢false f)
either_or false b e f = e

number_some : (m n : ℕ) → ◌≡◌ {A = Option ℕ} (Some m) (Some n) → m ≡ n
number_some m n e = cc

pub numeral_is : (text : List ℕ) (n : ℕ) → numeral_of text ≡ Some n → IsNumeral text n
numeral_is text n e = go (is_numeral text) refl e
  where
    is : is_numeral text ≡ true → IsNumeral text (number_of text)
    is h =
        let a = both (are_digits text) _ h in
        let b = both (nat_eq (length text) 1 || not (nat_eq (get_or text 0 0) 48)) (nat_le (number_of text) 4095) a.1 in
        let c = both (nat_lt 0 (length text)) (nat_eq (prefix_len is_ascii_digit text) (length text)) a.0 in
        let most = leb-true (number_of text) 4095 b.1 in
        record { spelled = sym (decimal-digits_value own text (digits_all text c.1) (ltb-true 0 (length text) c.0) (λ z. one z b.0) (omega arith)); most = most }
      where
        one : get_or text 0 0 ≡ 48 → (nat_eq (length text) 1 || not (nat_eq (get_or text 0 0) 48)) ≡ true → length text ≡ 1
        one z h = by (nat_eq (length text) 1) refl
          where
            by : (t : Bool) → nat_eq (length text) 1 ≡ t → length text ≡ 1
            by true e = eqb-true (length text) 1 e
            by false e = absurd (true≢false (sym (ap (λ m. not (nat_eq m 48)) (sym z) ∙ either_or _ _ h e)))

    go : (t : Bool) → is_numeral text ≡ t → cond t (Some (number_of text)) None ≡ Some n → IsNumeral text n
    go true h e = subst (IsNumeral text) (number_some (number_of text) n e) (is h)
    go false h e = absurd cc

pub decimal_digits : (n : ℕ) → n ≤ 4095 → all_ascii_digits (decimal n) ≡ true
decimal_digits n most = digits_decimal own n (omega arith)

pub numeral_gives : (n : ℕ) → n ≤ 4095 → numeral_of (decimal n) ≡ Some n
numeral_gives n most = rw (is, value) refl
  where
    small : n < 2 ^ 64
    small = omega arith

    value : number_of (decimal n) ≡ n
    value = digits_value-decimal own n small

    some : nat_lt 0 (length (decimal n)) ≡ true
    some = let z = decimal_nonempty n small in grind arith

    no_zero : (m : ℕ) → n ≡ m → (nat_eq (length (decimal n)) 1 || not (nat_eq (get_or (decimal n) 0 0) 48)) ≡ true
    no_zero zero e = rw (e, decimal_digit 0 (omega arith)) refl
    no_zero (suc m) e = let z = first_decimal n (omega arith) small in grind arith

    is : is_numeral (decimal n) ≡ true
    is = and_true (are_digits (decimal n)) _ (and_true (nat_lt 0 (length (decimal n))) _ some (all_digits (decimal n) (decimal_digits n most)))
        (and_true (nat_eq (length (decimal n)) 1 || not (nat_eq (get_or (decimal n) 0 0) 48)) (nat_le (number_of (decimal n)) 4095) (no_zero n refl) (rw value (grind arith)))

-- ---- indices

-- the first byte of a number is no sign
first_digit : (text : List ℕ) → all_ascii_digits text ≡ true → Without 45 text
first_digit [] e = tt
first_digit (b ∷ text) e =
    let z = both (is_ascii_digit b) (all_ascii_digits text) e in
    (digit_no_sign b z.0, first_digit text z.1)
  where
    digit_no_sign : (b : ℕ) → is_ascii_digit b ≡ true → is_not 45 b ≡ true
    digit_no_sign b h = grind arith

pub record IsIndex (text : List ℕ) (i : ℤ) : Type 0 where
  pub spelled : text ≡ signed_decimal i
  pub most : nat_abs i ≤ 4095

index_some : (i j : ℤ) → ◌≡◌ {A = Option ℤ} (Some i) (Some j) → i ≡ j
index_some i j e = cc

below_suc : (n : ℕ) → below_zero (Some (suc n)) ≡ Some (negsuc n)
below_suc n = rw (some n) refl
  where
    some : (n : ℕ) → nat_eq (suc n) 0 ≡ false
    some n = grind arith

below_is : (text : List ℕ) (r : Option ℕ) (i : ℤ) → numeral_of text ≡ r → below_zero r ≡ Some i → IsIndex (45 ∷ text) i
below_is text None i e f = absurd cc
below_is text (Some zero) i e f = absurd cc
below_is text (Some (suc n)) i e f =
    let h = numeral_is text (suc n) e in
    subst (IsIndex (45 ∷ text)) (index_some (negsuc n) i (sym (below_suc n) ∙ f)) (record { spelled = ap (λ z. 45 ∷ z) h.spelled; most = h.most })

above_is : (text : List ℕ) (r : Option ℕ) (i : ℤ) → numeral_of text ≡ r → not_below r ≡ Some i → IsIndex text i
above_is text None i e f = absurd cc
above_is text (Some n) i e f =
    let h = numeral_is text n e in
    subst (IsIndex text) (index_some (pos n) i f) (record { spelled = h.spelled; most = h.most })

pub index_is : (text : List ℕ) (i : ℤ) → index_of text ≡ Some i → IsIndex text i
index_is [] i e = absurd cc
index_is (b ∷ text) i e = go (nat_eq b 45) refl e
  where
    go : (t : Bool) → nat_eq b 45 ≡ t → cond t (below_zero (numeral_of text)) (not_below (numeral_of (b ∷ text))) ≡ Some i → IsIndex (b ∷ text) i
    go true h e =
        let same : b ≡ 45 = eqb-true b 45 h in
        subst (λ c. IsIndex (c ∷ text) i) (sym same) (below_is text (numeral_of text) i refl e)
    go false h e = above_is (b ∷ text) (numeral_of (b ∷ text)) i refl e

above_gives : (text : List ℕ) (n : ℕ) → Without 45 text → 0 < length text → numeral_of text ≡ Some n → index_of text ≡ Some (pos n)
above_gives [] n h lt e = absurd (omega arith)
above_gives (b ∷ text) n h lt e = go (nat_eq b 45) refl h.0
  where
    go : (t : Bool) → nat_eq b 45 ≡ t → not t ≡ true → cond t (below_zero (numeral_of text)) (not_below (numeral_of (b ∷ text))) ≡ Some (pos n)
    go true f k = absurd (true≢false (sym k))
    go false f k = ap not_below e

pub index_gives : (i : ℤ) → nat_abs i ≤ 4095 → index_of (signed_decimal i) ≡ Some i
index_gives (pos n) most = above_gives (decimal n) n (first_digit (decimal n) (decimal_digits n most)) (decimal_nonempty n (omega arith)) (numeral_gives n most)
index_gives (negsuc n) most = ap below_zero (numeral_gives (suc n) most) ∙ below_suc n

-- ---- numbers of 64 bits

pub number_value : (n : ℕ) → n < 2 ^ 64 → number_of (decimal n) ≡ n
number_value n small = digits_value-decimal own n small
