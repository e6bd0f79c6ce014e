-- Codes of ports: written digit by digit, and read back.
use Rattle.std.proofs.Common.{◌≡◌, ◌≢◌, ℕ, zero, suc, ◌+◌, ◌-◌, ◌*◌, ◌/◌, ◌%◌, ◌^◌, ◌<◌, ◌≤◌, List, [], ◌∷◌, ◌++◌, length, get_or, set, take, drop, eqb, true, false, Bool, refl, sym, ◌∙◌, ap, arith, append_assoc, append-nil, subst, inl, inr}
use Rattle.std.specs.Prelude.{if◌then◌else◌, ◌==◌}
use Rattle.std.specs.Str.{IsAscii}
use Rattle.std.proofs.lemmas.Bool.{eqb-true, cases_lt}
use Rattle.std.specs.List.{AllByRecursion}
use Rattle.std.proofs.lemmas.List.{take_more_set}
use Rattle.std.proofs.Math.ListN.{length-set}
use Rattle.av_wave.specs.Dumps.{code_of, code}
use Rattle.av_wave.specs.inner.Codes.{code_value}

-- the digits of what is left, where something is
abbrev pub later : ℕ → ℕ → List ℕ
later most left = if left == 0 then [] else code_of most left

-- of a number with that many digits the digits are read back
pub read_back : (most n : ℕ) → n < 94 ^ most → code_value (code_of most n) ≡ n
read_back zero n lt = omega arith
read_back (suc most) n lt = either (eqb (n / 94) 0) refl (λ below. read_back most (n / 94) below)
  where
    either : (b : Bool) → eqb (n / 94) 0 ≡ b → (n / 94 < 94 ^ most → code_value (code_of most (n / 94)) ≡ n / 94) → code_value (code_of (suc most) n) ≡ n
    either true e back = let none : n / 94 ≡ 0 = eqb-true (n / 94) 0 e in rw e (omega arith)
    either false e back =
        let rest : code_value (code_of most (n / 94)) ≡ n / 94 = back (omega arith) in
        rw e (omega arith)

-- a number is below as many powers of 94
enough : (n : ℕ) → n < 94 ^ suc n
enough zero = omega arith
enough (suc n) = omega (arith, enough n)

one_digit : (most n : ℕ) → n < 94 → code_of (suc most) n ≡ (33 + n % 94) ∷ []
one_digit most n lt = let none : n / 94 ≡ 0 = omega arith in rw none refl

more_digits : (most n : ℕ) → 94 ≤ n → code_of (suc most) n ≡ (33 + n % 94) ∷ code_of most (n / 94)
more_digits most n ge = by_test (eqb (n / 94) 0) refl
  where
    by_test : (b : Bool) → eqb (n / 94) 0 ≡ b → code_of (suc most) n ≡ (33 + n % 94) ∷ code_of most (n / 94)
    by_test true e = let none : n / 94 ≡ 0 = eqb-true (n / 94) 0 e in absurd (omega arith)
    by_test false e = rw e refl

-- a number has the same digits wherever there is room for them
same_digits : (a b n : ℕ) → n < 94 ^ suc a → n < 94 ^ suc b → code_of (suc a) n ≡ code_of (suc b) n
same_digits zero b n in_a in_b = one_digit zero n (omega arith) ∙ sym (one_digit b n (omega arith))
same_digits (suc a) zero n in_a in_b = one_digit (suc a) n (omega arith) ∙ sym (one_digit zero n (omega arith))
same_digits (suc a) (suc b) n in_a in_b = elim (cases_lt n 94) [
  | inl lt ↦ one_digit (suc a) n lt ∙ sym (one_digit (suc b) n lt)
  | inr ge ↦ more_digits (suc a) n ge ∙ ap (λ more. (33 + n % 94) ∷ more) (same_digits a b (n / 94) (omega arith) (omega arith)) ∙ sym (more_digits (suc b) n ge)
]

pub code_is : (n : ℕ) → n < 2 ^ 32 → code n ≡ code_of 64 n
unfolding code
code_is n small = same_digits n 63 n (enough n) (omega arith)

-- as many digits as are written are there
abbrev pub most_left : ℕ → ℕ
most_left (suc zero) = 45691142
most_left (suc (suc zero)) = 486077
most_left (suc (suc (suc zero))) = 5172
most_left (suc (suc (suc (suc zero)))) = 56
most_left _ = 1

-- digits that were written, and what is left to write
pub record Writes (n : ℕ) (digits : List ℕ) (used left : ℕ) : Type 0 where
  pub whole : code_of 64 n ≡ take used digits ++ later (64 - used) left
  pub room : length digits ≡ 5
  pub some : 1 ≤ used
  pub few : used ≤ 5
  pub small : left < most_left used

-- something is left: its lowest digit, and what is left then
later_some : (most left : ℕ) → 0 < left → later (suc most) left ≡ (33 + left % 94) ∷ later most (left / 94)
later_some most left some = by_test (eqb left 0) refl
  where
    by_test : (b : Bool) → eqb left 0 ≡ b → later (suc most) left ≡ (33 + left % 94) ∷ later most (left / 94)
    by_test true e = let none : left ≡ 0 = eqb-true left 0 e in absurd (omega arith)
    by_test false e = rw e refl

-- after the first digit
pub writes_first : (n : ℕ) (digits : List ℕ) → n < 2 ^ 32 → length digits ≡ 5 → Writes n (set digits 0 (33 + n % 94)) 1 (n / 94)
writes_first n [] small room = absurd (omega arith)
writes_first n (d ∷ digits) small room = record {
  whole = refl;
  room = room;
  some = omega arith;
  few = omega arith;
  small = omega arith;
}

-- what is left gets smaller
fewer : (used left : ℕ) → 1 ≤ used → 0 < left → left < most_left used → (used < 5) × (left / 94 < most_left (used + 1))
fewer zero left some any small = absurd (omega arith)
fewer (suc zero) left some any small = (omega arith, omega arith)
fewer (suc (suc zero)) left some any small = (omega arith, omega arith)
fewer (suc (suc (suc zero))) left some any small = (omega arith, omega arith)
fewer (suc (suc (suc (suc zero)))) left some any small = (omega arith, omega arith)
fewer (suc (suc (suc (suc (suc used))))) left some any small = absurd (omega arith)

-- there is room for one more
pub writes_room : (n : ℕ) (digits : List ℕ) (used left : ℕ) → 0 < left → Writes n digits used left → used < 5
writes_room n digits used left any so_far = (fewer used left so_far.some any so_far.small).0

-- one digit more
pub writes_more : (n : ℕ) (digits : List ℕ) (used left : ℕ) → 0 < left → Writes n digits used left → Writes n (set digits used (33 + left % 94)) (used + 1) (left / 94)
writes_more n digits used left any so_far =
    let step = fewer used left so_far.some any so_far.small in
    let within : used < 5 = step.0 in
    let room : length digits ≡ 5 = so_far.room in
    let d = 33 + left % 94 in
    let most : 64 - used ≡ suc (63 - used) = omega arith in
    let most' : 64 - (used + 1) ≡ 63 - used = omega arith in
    record {
      whole = so_far.whole
          ∙ ap (λ k. take used digits ++ later k left) most
          ∙ ap (λ more. take used digits ++ more) (later_some (63 - used) left any)
          ∙ sym (append_assoc (take used digits) (d ∷ []) (later (63 - used) (left / 94)))
          ∙ ap (λ front. front ++ later (63 - used) (left / 94)) (sym (take_more_set digits used d (omega arith)))
          ∙ ap (λ k. take (used + 1) (set digits used d) ++ later k (left / 94)) (sym most');
      room = length-set digits used d ∙ room;
      some = omega arith;
      few = omega arith;
      small = step.1;
    }

-- nothing is left
pub written : (n : ℕ) (digits : List ℕ) (used left : ℕ) → n < 2 ^ 32 → left ≡ 0 → Writes n digits used left → take used digits ≡ code n
written n digits used left small none so_far = sym (code_is n small ∙ so_far.whole ∙ ap (λ k. take used digits ++ later (64 - used) k) none ∙ append-nil (take used digits))

-- ---- bytes of a code

ascii_more : (b : ℕ) (bytes : List ℕ) → b < 128 → IsAscii bytes → IsAscii (b ∷ bytes)
ascii_more b bytes small rest zero = small
ascii_more b bytes small rest (suc i) = rest i

codes_ascii : (most n : ℕ) → IsAscii (code_of most n)
codes_ascii zero n = λ i. omega arith
codes_ascii (suc most) n = by_test (eqb (n / 94) 0) refl (codes_ascii most (n / 94))
  where
    none : IsAscii []
    none i = omega arith

    by_test : (b : Bool) → eqb (n / 94) 0 ≡ b → IsAscii (code_of most (n / 94)) → IsAscii (code_of (suc most) n)
    by_test true e rest = subst (λ b. IsAscii ((33 + n % 94) ∷ (if b then [] else code_of most (n / 94)))) (sym e) (ascii_more (33 + n % 94) [] (omega arith) none)
    by_test false e rest = subst (λ b. IsAscii ((33 + n % 94) ∷ (if b then [] else code_of most (n / 94)))) (sym e) (ascii_more (33 + n % 94) (code_of most (n / 94)) (omega arith) rest)

pub code_ascii : (n : ℕ) → IsAscii (code n)
unfolding code
code_ascii n = codes_ascii (suc n) n

-- ---- reading

-- one digit more, from the highest on
pub value_more : (text : List ℕ) (at : ℕ) → at < length text → code_value (drop at text) ≡ (get_or text at 0 - 33) + 94 * code_value (drop (suc at) text)
value_more [] at lt = absurd (omega arith)
value_more (d ∷ text) zero lt = refl
value_more (d ∷ text) (suc at) lt = value_more text at (omega arith)

pub code_read : (n : ℕ) → code_value (code n) ≡ n
unfolding code
code_read n = read_back (suc n) n (enough n)

pub code_injective : (m n : ℕ) → code m ≡ code n → m ≡ n
code_injective m n e = sym (code_read m) ∙ ap code_value e ∙ code_read n

-- a part of a code has no greater value than the code
pub value_falls : (text : List ℕ) (at : ℕ) → code_value (drop at text) ≤ code_value text
value_falls [] zero = omega arith
value_falls [] (suc at) = omega arith
value_falls (d ∷ text) zero = omega arith
value_falls (d ∷ text) (suc at) = omega (arith, value_falls text at)

-- where its last digits are no less than a bound, it is not either
pub value_above : (text : List ℕ) (i at value bound : ℕ) → at ≡ suc i → i < length text → value ≡ code_value (drop at text) → bound ≤ (get_or text i 0 - 33) + 94 * value → bound ≤ code_value text
value_above text i at value bound next lt is above =
    let more : code_value (drop i text) ≡ (get_or text i 0 - 33) + 94 * code_value (drop (suc i) text) = value_more text i lt in
    let here : value ≡ code_value (drop (suc i) text) = is ∙ ap (λ k. code_value (drop k text)) next in
    omega (arith, value_falls text i)

-- ---- what a code is made of

codes_plain : (most n : ℕ) → AllByRecursion (λ b. b ≢ 10) (code_of most n)
codes_plain zero n = tt
codes_plain (suc most) n = (λ e. absurd (omega arith), by_test (eqb (n / 94) 0) (codes_plain most (n / 94)))
  where
    by_test : (b : Bool) → AllByRecursion (λ b. b ≢ 10) (code_of most (n / 94)) → AllByRecursion (λ b. b ≢ 10) (if b then [] else code_of most (n / 94))
    by_test true rest = tt
    by_test false rest = rest

pub code_plain : (n : ℕ) → AllByRecursion (λ b. b ≢ 10) (code n)
unfolding code
code_plain n = codes_plain (suc n) n
