-- Digits in binary and in decimal, and what is read of them.
use Rattle.std.proofs.Common.{◌≡◌, ◌≢◌, ℕ, zero, suc, ◌+◌, ◌-◌, ◌*◌, ◌/◌, ◌%◌, ◌^◌, ◌<◌, ◌≤◌, List, [], ◌∷◌, ◌++◌, length, get_or, take, drop, eqb, true, false, true≢false, Bool, refl, sym, ◌∙◌, ap, arith, drop-cons, inl, inr, ◌⊎◌, subst}
use Rattle.std.specs.Prelude.{if◌then◌else◌, ◌==◌, decimal}
use Rattle.std.specs.Char.{is_ascii_digit}
use Rattle.std.specs.Fmt.{digits, digits_onto, digit_glyph}
use Rattle.std.specs.List.{prefix_len}
use Rattle.std.proofs.lemmas.Bool.{eqb-true, cases_lt}
use Rattle.std.proofs.lemmas.Fmt.{decimal_by_steps, decimal_step, decimal_digit}
use Rattle.std.proofs.lemmas.List.{take-append-drop, drop_at}
use Rattle.av_base.proofs.Lists.{same_head, same_tail, each_append}
use Rattle.av_base.proofs.Runs.{run_all}
use Rattle.av_wave.specs.Dumps.{binary}
use Rattle.av_wave.specs.inner.Codes.{binary_from, binary_value, AreDigits}

-- ---- binary numbers are read back

glyph : (d : ℕ) → d < 2 → digit_glyph false d ≡ 48 + d
glyph zero lt = refl
glyph (suc zero) lt = refl
glyph (suc (suc d)) lt = absurd (omega arith)

-- one digit more
glyph_value : (before n : ℕ) → n ≡ 2 * before + n % 2 → 2 * before + (digit_glyph false (n % 2) - 48) ≡ n
glyph_value before n e = let g : digit_glyph false (n % 2) ≡ 48 + n % 2 = glyph (n % 2) (omega arith) in omega arith

from_onto : (most n : ℕ) (written : List ℕ) → n < 2 ^ suc most → binary_from 0 (digits_onto (suc most) 2 false n written) ≡ binary_from n written
from_onto zero n written lt =
    let none : n / 2 ≡ 0 = omega arith in
    rw none (ap (λ k. binary_from k written) (glyph_value 0 n (omega arith)))
from_onto (suc most) n written lt = by_test (eqb (n / 2) 0) refl (from_onto most (n / 2) (digit_glyph false (n % 2) ∷ written) (omega arith))
  where
    by_test : (b : Bool) → eqb (n / 2) 0 ≡ b → binary_from 0 (digits_onto (suc most) 2 false (n / 2) (digit_glyph false (n % 2) ∷ written)) ≡ binary_from (n / 2) (digit_glyph false (n % 2) ∷ written)
        → binary_from 0 (digits_onto (suc (suc most)) 2 false n written) ≡ binary_from n written
    by_test true e rest =
        let none : n / 2 ≡ 0 = eqb-true (n / 2) 0 e in
        rw e (ap (λ k. binary_from k written) (glyph_value 0 n (omega arith)))
    by_test false e rest = rw e (rest ∙ ap (λ k. binary_from k written) (glyph_value (n / 2) n (omega arith)))

pub binary_read : (n : ℕ) → n < 2 ^ 64 → binary_value (binary n) ≡ n
unfolding digits
binary_read n small = from_onto 63 n [] small

pub binary_injective : (m n : ℕ) → m < 2 ^ 64 → n < 2 ^ 64 → binary m ≡ binary n → m ≡ n
binary_injective m n small little e = sym (binary_read m small) ∙ ap binary_value e ∙ binary_read n little

-- a bit is one digit
pub bit_digit : (n : ℕ) → n < 2 → binary n ≡ (48 + n) ∷ []
unfolding digits
bit_digit zero lt = refl
bit_digit (suc zero) lt = refl
bit_digit (suc (suc n)) lt = absurd (omega arith)

-- ---- the value of digits as they are read

-- more digits make no number less
pub binary_grows : (n : ℕ) (digits : List ℕ) → n ≤ binary_from n digits
binary_grows n [] = omega arith
binary_grows n (b ∷ digits) = omega (arith, binary_grows (2 * n + (b - 48)) digits)

-- a number whose first digits are above a bound is above it
pub binary_above : (n count bound : ℕ) (digits : List ℕ) → count < length digits → bound ≤ 2 * n + (get_or digits count 0 - 48) → bound ≤ binary_from n (drop count digits)
binary_above n count bound digits lt above =
    let first = ap (binary_from n) (drop-cons digits count 0 lt) in
    let grows = binary_grows (2 * n + (get_or digits count 0 - 48)) (drop (suc count) digits) in
    omega (arith, first)

-- ---- digits

onto_digits : (most n : ℕ) (written : List ℕ) → AreDigits written → AreDigits (digits_onto most 2 false n written)
onto_digits zero n written are = are
onto_digits (suc most) n written are =
    let first : is_ascii_digit (digit_glyph false (n % 2)) ≡ true = by_bit (n % 2) (omega arith) in
    by_test (n / 2 == 0) (first, are) (onto_digits most (n / 2) (digit_glyph false (n % 2) ∷ written) (first, are))
  where
    by_bit : (d : ℕ) → d < 2 → is_ascii_digit (digit_glyph false d) ≡ true
    by_bit zero lt = refl
    by_bit (suc zero) lt = refl
    by_bit (suc (suc d)) lt = absurd (omega arith)

    by_test : (b : Bool) → AreDigits (digit_glyph false (n % 2) ∷ written) → AreDigits (digits_onto most 2 false (n / 2) (digit_glyph false (n % 2) ∷ written))
        → AreDigits (if b then digit_glyph false (n % 2) ∷ written else digits_onto most 2 false (n / 2) (digit_glyph false (n % 2) ∷ written))
    by_test true this rest = this
    by_test false this rest = rest

pub binary_digits : (n : ℕ) → AreDigits (binary n)
unfolding digits
binary_digits n = onto_digits 64 n [] tt

one_digit : (n : ℕ) → n < 10 → is_ascii_digit (48 + n) ≡ true
one_digit zero lt = refl
one_digit (suc zero) lt = refl
one_digit (suc (suc zero)) lt = refl
one_digit (suc (suc (suc zero))) lt = refl
one_digit (suc (suc (suc (suc zero)))) lt = refl
one_digit (suc (suc (suc (suc (suc zero))))) lt = refl
one_digit (suc (suc (suc (suc (suc (suc zero)))))) lt = refl
one_digit (suc (suc (suc (suc (suc (suc (suc zero))))))) lt = refl
one_digit (suc (suc (suc (suc (suc (suc (suc (suc zero)))))))) lt = refl
one_digit (suc (suc (suc (suc (suc (suc (suc (suc (suc zero))))))))) lt = refl
one_digit (suc (suc (suc (suc (suc (suc (suc (suc (suc (suc n)))))))))) lt = absurd (omega arith)

pub decimal_digits : (n : ℕ) → n < 2 ^ 64 → AreDigits (decimal n)
decimal_digits = decimal_by_steps (λ n ds. AreDigits ds) (λ n lt. (one_digit n lt, tt)) (λ n ds ge are. each_append (λ d. is_ascii_digit d ≡ true) ds ((48 + n % 10) ∷ []) are (one_digit (n % 10) (omega arith), tt))

-- ---- a blank ends digits

no_digit : (b : ℕ) → b ≡ 32 → is_ascii_digit b ≡ true → ⊥
no_digit b e h = true≢false (sym h ∙ ap is_ascii_digit e)

pub blank_once : (d e r s : List ℕ) → AreDigits d → AreDigits e → d ++ 32 ∷ r ≡ e ++ 32 ∷ s → (d ≡ e) × (r ≡ s)
blank_once [] [] r s are be same = (refl, same_tail 32 32 r s same)
blank_once [] (y ∷ e) r s are be same = absurd (no_digit y (sym (same_head 32 y r (e ++ 32 ∷ s) same)) be.0)
blank_once (x ∷ d) [] r s are be same = absurd (no_digit x (same_head x 32 (d ++ 32 ∷ r) s same) are.0)
blank_once (x ∷ d) (y ∷ e) r s are be same =
    let rest = blank_once d e r s are.1 be.1 (same_tail x y (d ++ 32 ∷ r) (e ++ 32 ∷ s) same) in
    let first : x ≡ y = same_head x y (d ++ 32 ∷ r) (e ++ 32 ∷ s) same in
    (ap (λ z. z ∷ d) first ∙ ap (λ more. y ∷ more) rest.0, rest.1)

pub digits_end : (d r : List ℕ) → AreDigits d → prefix_len is_ascii_digit (d ++ 32 ∷ r) ≡ length d
digits_end [] r are = refl
digits_end (x ∷ d) r are = rw are.0 (omega (arith, digits_end d r are.1))

-- ---- the parts of a text

pub parted_is : (text rest : List ℕ) (len : ℕ) → len ≡ prefix_len is_ascii_digit text → drop len text ≡ 32 ∷ rest → AreDigits (take len text) × (text ≡ take len text ++ 32 ∷ rest)
parted_is text rest len is at =
    (subst (λ n. AreDigits (take n text)) (sym is) (run_all is_ascii_digit text), sym (take-append-drop len text) ∙ ap (λ back. take len text ++ back) at)

pub parted_none : (text : List ℕ) (len : ℕ) → len ≡ prefix_len is_ascii_digit text → ((rest : List ℕ) → drop len text ≢ 32 ∷ rest) → (digits rest : List ℕ) → AreDigits digits → text ≡ digits ++ 32 ∷ rest → ⊥
parted_none text len is none digits rest are e =
    let count : length digits ≡ len = sym (is ∙ ap (prefix_len is_ascii_digit) e ∙ digits_end digits rest are) in
    none rest (ap (drop len) e ∙ drop_at digits (32 ∷ rest) len count)

-- ---- numbers below a hundred

pub two_decimal : (t o : ℕ) → 0 < t → t < 10 → o < 10 → decimal (10 * t + o) ≡ (48 + t) ∷ (48 + o) ∷ []
two_decimal t o some small little =
    let high : (10 * t + o) / 10 ≡ t = omega arith in
    let low : (10 * t + o) % 10 ≡ o = omega arith in
    decimal_step (10 * t + o) (omega arith) (omega arith) ∙ ap (λ n. decimal n ++ (48 + (10 * t + o) % 10) ∷ []) high ∙ ap (λ front. front ++ (48 + (10 * t + o) % 10) ∷ []) (decimal_digit t small)
    ∙ ap (λ n. (48 + t) ∷ (48 + n) ∷ []) low

-- the digits of such a number
pub record AreOf (n : ℕ) (digits : List ℕ) : Type 0 where
  pub ends : ((n < 10) × (digits ≡ (48 + n) ∷ [])) ⊎ ((t : ℕ) × (o : ℕ) × (0 < t) × (t < 10) × (o < 10) × (n ≡ 10 * t + o) × (digits ≡ (48 + t) ∷ (48 + o) ∷ []))

pub small_decimal : (n : ℕ) → n < 100 → AreOf n (decimal n)
small_decimal n small = elim (cases_lt n 10) [
  | inl lt ↦ record { ends = inl (lt, decimal_digit n lt) }
  | inr ge ↦
      let whole : n ≡ 10 * (n / 10) + n % 10 = omega arith in
      record { ends = inr (n / 10, n % 10, omega arith, omega arith, omega arith, whole, ap decimal whole ∙ two_decimal (n / 10) (n % 10) (omega arith) (omega arith) (omega arith)) }
]

-- and what they are, where there are two
pub two_of : (number high low : ℕ) → number < 100 → decimal number ≡ high ∷ low ∷ [] → (t : ℕ) × (o : ℕ) × (0 < t) × (t < 10) × (o < 10) × (high ≡ 48 + t) × (low ≡ 48 + o)
two_of number high low small e = elim (small_decimal number small).ends [
  | inl one ↦ absurd (let f : high ∷ low ∷ [] ≡ (48 + number) ∷ [] = sym e ∙ one.1 in cc)
  | inr two ↦
      let f : high ∷ low ∷ [] ≡ (48 + two.0) ∷ (48 + two.1) ∷ [] = sym e ∙ two.6 in
      (two.0, two.1, two.2, two.3, two.4, same_head _ _ _ _ f, same_head _ _ _ _ (same_tail _ _ _ _ f))
]

-- or one
pub one_of : (number only : ℕ) → number < 100 → decimal number ≡ only ∷ [] → (number < 10) × (only ≡ 48 + number)
one_of number only small e = elim (small_decimal number small).ends [
  | inl one ↦ (one.0, same_head _ _ _ _ (sym e ∙ one.1))
  | inr two ↦ absurd (let f : only ∷ [] ≡ (48 + two.0) ∷ (48 + two.1) ∷ [] = sym e ∙ two.6 in cc)
]

pub count_of : (number : ℕ) → number < 100 → (0 < length (decimal number)) × (length (decimal number) < 3)
count_of number small = elim (small_decimal number small).ends [
  | inl one ↦ (let n : length (decimal number) ≡ 1 = ap length one.1 in (omega arith, omega arith))
  | inr two ↦ (let n : length (decimal number) ≡ 2 = ap length two.6 in (omega arith, omega arith))
]
