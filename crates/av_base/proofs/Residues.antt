-- Machine words of 64 bits, cut down to a width.
use Rattle.std.proofs.Common.{◌≡◌, ℕ, ◌+◌, ◌-◌, ◌*◌, ◌%◌, ◌^◌, ◌<◌, ◌≤◌, ◌∙◌, ap, subst, arith, pow-add}
use Rattle.std.proofs.Math.Pow.{mod-mod-pow}
use Rattle.std.proofs.Math.Nat.{add-mul-mod_self_left, one-le-pow}

-- a number that wrapped at 64 bits has the same low bits
pub low_bits : (n w : ℕ) → w ≤ 64 → n % 2 ^ 64 % 2 ^ w ≡ n % 2 ^ w
low_bits n w within =
    let P : ℕ → Type 0 = λ k. n % 2 ^ k % 2 ^ w ≡ n % 2 ^ w in
    let whole : (64 - w) + w ≡ 64 = omega arith in
    subst P whole (mod-mod-pow n (64 - w) w)

-- more multiples of the modulus above a difference
lifted : (a b m k : ℕ) → b ≤ m → (a + (m + m * k) - b) % m ≡ (a + m - b) % m
lifted a b m k within =
    let e : a + (m + m * k) - b ≡ (a + m - b) + m * k = omega arith in
    ap (λ n. n % m) e ∙ add-mul-mod_self_left (a + m - b) m k

-- 2^64 is 2^w and some more of it
multiple : (w : ℕ) → w ≤ 64 → 2 ^ 64 ≡ 2 ^ w + 2 ^ w * (2 ^ (64 - w) - 1)
multiple w within =
    let whole : w + (64 - w) ≡ 64 = omega arith in
    let P : ℕ → Type 0 = λ k. 2 ^ k ≡ 2 ^ w * 2 ^ (64 - w) in
    let product : 2 ^ 64 ≡ 2 ^ w * 2 ^ (64 - w) = subst P whole (pow-add 2 w (64 - w)) in
    let some : 1 ≤ 2 ^ (64 - w) = one-le-pow (64 - w) 2 (omega arith) in
    product ∙ split (2 ^ w) (2 ^ (64 - w)) some
  where
    split : (m p : ℕ) → 1 ≤ p → m * p ≡ m + m * (p - 1)
    split m p h = let e : p ≡ 1 + (p - 1) = omega arith in ap (λ k. m * k) e ∙ omega arith

-- a difference that wrapped at 64 bits has the low bits of the difference
pub low_difference : (a b w : ℕ) → w ≤ 64 → b < 2 ^ w → (a + (2 ^ 64 - b)) % 2 ^ 64 % 2 ^ w ≡ (a + 2 ^ w - b) % 2 ^ w
low_difference a b w within fits =
    let more = multiple w within in
    let same : a + (2 ^ 64 - b) ≡ a + 2 ^ 64 - b = omega arith in
    low_bits (a + (2 ^ 64 - b)) w within
    ∙ ap (λ n. n % 2 ^ w) same
    ∙ ap (λ n. (a + n - b) % 2 ^ w) more
    ∙ lifted a b (2 ^ w) (2 ^ (64 - w) - 1) (omega arith)
