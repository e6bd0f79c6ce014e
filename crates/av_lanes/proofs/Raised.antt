-- The order of two's complement, told by whole numbers that are moved up by half of the range.
use Rattle.std.proofs.Common.{◌≡◌, ℕ, ◌+◌, ◌-◌, ◌*◌, ◌%◌, ◌^◌, ◌<◌, ◌≤◌, pos, ◌-ℤ◌, not, sym, ◌∙◌, ap, subst, arith, inl, inr, pow-add}
use Rattle.std.specs.Prelude.{nat_lt, nat_le, int_lt, if◌then◌else◌}
use Rattle.std.proofs.Math.Nat.{mod-eq_of_lt, mod-eq-sub-mod}
use Rattle.std.proofs.lemmas.Bool.{cases_lt}
use Rattle.av_base.specs.Words.{is_less, sum}

-- a number below half is moved up by it
low : (h a : ℕ) → a < h → (a + h) % (2 * h) ≡ a + h
low h a lt = mod-eq_of_lt (omega arith)

-- and any other word down by it
high : (h a : ℕ) → h ≤ a → a < 2 * h → (a + h) % (2 * h) ≡ a - h
high h a le lt =
    let down : a + h - 2 * h ≡ a - h = omega arith in
    mod-eq-sub-mod (omega arith) ∙ ap (λ n. n % (2 * h)) down ∙ mod-eq_of_lt (omega arith)

less : (h a b : ℕ) → a < 2 * h → b < 2 * h
    → nat_lt ((a + h) % (2 * h)) ((b + h) % (2 * h)) ≡ int_lt (if nat_lt a h then pos a else pos a -ℤ pos (2 * h)) (if nat_lt b h then pos b else pos b -ℤ pos (2 * h))
less h a b la lb = elim (cases_lt a h) [
  | inl a-low ↦ elim (cases_lt b h) [
    | inl b-low ↦ rw (low h a a-low, low h b b-low) (grind arith)
    | inr b-high ↦ rw (low h a a-low, high h b (omega arith) lb) (grind arith)
  ]
  | inr a-high ↦ elim (cases_lt b h) [
    | inl b-low ↦ rw (high h a (omega arith) la, low h b b-low) (grind arith)
    | inr b-high ↦ rw (high h a (omega arith) la, high h b (omega arith) lb) (grind arith)
  ]
]

-- the range is two halves
pub twice : (w : ℕ) → 1 ≤ w → 2 ^ w ≡ 2 * 2 ^ (w - 1)
twice w some =
    let whole : 1 + (w - 1) ≡ w = omega arith in
    subst (λ n. 2 ^ n ≡ 2 * 2 ^ (w - 1)) whole (pow-add 2 1 (w - 1))

-- the order of moved words is the signed order of the words
pub raised_less : (w a b : ℕ) → 1 ≤ w → a < 2 ^ w → b < 2 ^ w → nat_lt (sum w a (2 ^ (w - 1))) (sum w b (2 ^ (w - 1))) ≡ is_less w a b
raised_less w a b some la lb =
    let whole = twice w some in
    let P : ℕ → Type 0 = λ n. nat_lt ((a + 2 ^ (w - 1)) % n) ((b + 2 ^ (w - 1)) % n) ≡ int_lt (if nat_lt a (2 ^ (w - 1)) then pos a else pos a -ℤ pos n) (if nat_lt b (2 ^ (w - 1)) then pos b else pos b -ℤ pos n) in
    subst P (sym whole) (less (2 ^ (w - 1)) a b (rw (sym whole) la) (rw (sym whole) lb))

-- at most is not above
at_most : (x y : ℕ) → nat_le x y ≡ not (nat_lt y x)
at_most x y = grind arith

pub raised_at_most : (w a b : ℕ) → 1 ≤ w → a < 2 ^ w → b < 2 ^ w → nat_le (sum w a (2 ^ (w - 1))) (sum w b (2 ^ (w - 1))) ≡ not (is_less w b a)
raised_at_most w a b some la lb = at_most (sum w a (2 ^ (w - 1))) (sum w b (2 ^ (w - 1))) ∙ ap not (raised_less w b a some lb la)
