-- Products of sums of whole numbers: `simp ring` multiplies out, and `omega (arith, ints, cube)` compares what is left.
use Rattle.std.proofs.Common.{◌≡◌, ◌+◌, ◌*◌, ap, ◌∙◌, arith, ℤ, ◌+ℤ◌, ◌*ℤ◌, neg_ℤ}
use Rattle.std.proofs.Math.IntN.{*ℤ_comm}
use borrow.Author.Differences.{up, down, sum_is_lem, neg_is, product_is}
use Rattle.std.proofs.lemmas.Int.{ints}

pub times_sum : (a b c : ℤ) → a *ℤ (b +ℤ c) ≡ a *ℤ b +ℤ a *ℤ c
times_sum a b c =
    let e = sum_is_lem b c in
    let f = ap (λ n. up a * n) e in
    let g = ap (λ n. down a * n) e in
    omega (arith, ints, f, g)

pub sum_times : (a b c : ℤ) → (b +ℤ c) *ℤ a ≡ b *ℤ a +ℤ c *ℤ a
sum_times a b c =
    let e = sum_is_lem b c in
    let f = ap (λ n. up a * n) e in
    let g = ap (λ n. down a * n) e in
    omega (arith, ints, f, g)

pub times_neg : (a b : ℤ) → a *ℤ neg_ℤ b ≡ neg_ℤ (a *ℤ b)
times_neg a b =
    let e = neg_is b in
    let f = ap (λ n. up a * n) e.0 in
    let g = ap (λ n. down a * n) e.0 in
    let i = ap (λ n. up a * n) e.1 in
    let j = ap (λ n. down a * n) e.1 in
    omega (arith, ints, f, g, i, j)

pub neg_times : (a b : ℤ) → neg_ℤ b *ℤ a ≡ neg_ℤ (b *ℤ a)
neg_times a b = *ℤ_comm (neg_ℤ b) a ∙ times_neg a b ∙ ap neg_ℤ (*ℤ_comm a b)

pub times_times : (a b c : ℤ) → (a *ℤ b) *ℤ c ≡ a *ℤ (b *ℤ c)
times_times a b c =
    let e = product_is a b in
    let f = product_is b c in
    let e0 = ap (λ n. n * up c) e.0 in
    let e1 = ap (λ n. n * down c) e.0 in
    let e2 = ap (λ n. n * up c) e.1 in
    let e3 = ap (λ n. n * down c) e.1 in
    let f0 = ap (λ n. up a * n) f.0 in
    let f1 = ap (λ n. down a * n) f.0 in
    let f2 = ap (λ n. up a * n) f.1 in
    let f3 = ap (λ n. down a * n) f.1 in
    omega (arith, ints, e0, e1, e2, e3, f0, f1, f2, f3)

-- a product of three, for `omega`
pub cube : (a b c : ℤ) → (up (a *ℤ (b *ℤ c)) ≡ up a * up b * up c + up a * down b * down c + down a * up b * down c + down a * down b * up c)
    × (down (a *ℤ (b *ℤ c)) ≡ down a * up b * up c + up a * down b * up c + up a * up b * down c + down a * down b * down c)
cube a b c =
    let f = product_is b c in
    let f0 = ap (λ n. up a * n) f.0 in
    let f1 = ap (λ n. down a * n) f.0 in
    let f2 = ap (λ n. up a * n) f.1 in
    let f3 = ap (λ n. down a * n) f.1 in
    omega (arith, ints, f0, f1, f2, f3)

pub ruleset ring = (times_sum, sum_times, times_neg, neg_times, times_times)
