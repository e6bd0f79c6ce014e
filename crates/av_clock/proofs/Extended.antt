-- A word with copies of its highest bit above it, as shifts and a sum give it.
use Rattle.std.proofs.Common.{◌≡◌, ℕ, ◌+◌, ◌-◌, ◌*◌, ◌%◌, ◌^◌, ◌<◌, ◌≤◌, Bool, true, false, nat_lt, if◌then◌else◌, refl, sym, ap, subst, ◌∙◌, arith, pow_pos, pow_mono, pow-add}
use Rattle.std.proofs.lemmas.Nat.{shl_whole, mul-add-lt}
use Rattle.std.proofs.lemmas.Bool.{ltb-true}
use Rattle.av_base.specs.Words.{IsWord}
use Rattle.av_net.specs.Meaning.{widened}

-- a shift of one bit
one_bit : (n : ℕ) → n ≤ 63 → 1 * 2 ^ n % 2 ^ 64 ≡ 2 ^ n
one_bit n le =
    let whole : 1 * 2 ^ n % 2 ^ 64 ≡ 1 * 2 ^ n = shl_whole 1 1 n 64 (omega arith) (omega arith) in
    let same : 1 * 2 ^ n ≡ 2 ^ n = omega arith in
    whole ∙ same

-- the copies
pub copies : (w by : ℕ) → 1 ≤ w → w + by ≤ 64 → (1 * 2 ^ by % 2 ^ 64 - 1) * 2 ^ w % 2 ^ 64 ≡ (2 ^ by - 1) * 2 ^ w
copies w by least most =
    let some : 0 < 2 ^ by = pow_pos by in
    let whole : (2 ^ by - 1) * 2 ^ w % 2 ^ 64 ≡ (2 ^ by - 1) * 2 ^ w = shl_whole (2 ^ by - 1) by w 64 (omega arith) (omega arith) in
    ap (λ z. (z - 1) * 2 ^ w % 2 ^ 64) (one_bit by (omega arith)) ∙ whole

-- and the word below them
pub sum_fits : (w by a : ℕ) → 1 ≤ w → w + by ≤ 64 → IsWord w a → a + (1 * 2 ^ by % 2 ^ 64 - 1) * 2 ^ w % 2 ^ 64 < 2 ^ 64
sum_fits w by a least most fits =
    let some : 0 < 2 ^ by = pow_pos by in
    let less : 2 ^ by - 1 < 2 ^ by = omega arith in
    let sum : (2 ^ by - 1) * 2 ^ w + a < 2 ^ w * 2 ^ by = mul-add-lt (2 ^ by - 1) (2 ^ w) a (2 ^ by) less fits in
    let size : 2 ^ (w + by) ≡ 2 ^ w * 2 ^ by = pow-add 2 w by in
    let top : 2 ^ (w + by) ≤ 2 ^ 64 = pow_mono most in
    let same = copies w by least most in
    subst (λ z. a + z < 2 ^ 64) (sym same) (omega (arith, sum, size, top))

-- where the highest bit is 1
pub widened_is : (w by a : ℕ) → 1 ≤ w → w + by ≤ 64 → 1 * 2 ^ (w - 1) % 2 ^ 64 ≤ a → a + (1 * 2 ^ by % 2 ^ 64 - 1) * 2 ^ w % 2 ^ 64 ≡ widened w by a
widened_is w by a least most high =
    let top = one_bit (w - 1) (omega arith) in
    ap (λ z. a + z) (copies w by least most) ∙ ap (λ test. a + (if test then 0 else (2 ^ by - 1) * 2 ^ w)) (sym (not_less (nat_lt a (2 ^ (w - 1))) refl (subst (λ z. z ≤ a) top high)))
  where
    not_less : (test : Bool) → nat_lt a (2 ^ (w - 1)) ≡ test → 2 ^ (w - 1) ≤ a → nat_lt a (2 ^ (w - 1)) ≡ false
    not_less false e le = e
    not_less true e le = absurd (let less = ltb-true a (2 ^ (w - 1)) e in omega (arith, less, le))
