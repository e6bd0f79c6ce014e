-- Products and order of whole numbers.
use Rattle.std.proofs.Common.{◌≡◌, zero, suc, arith, ℤ, pos, ◌+ℤ◌, ◌-ℤ◌, ◌*ℤ◌, ◌≤ℤ◌, ◌<ℤ◌}
use Rattle.std.proofs.Math.IntN.{negsuc}
use Rattle.av_affine.proofs.Ring.{ring, cube}
use Rattle.std.proofs.lemmas.Int.{ints}

pub product_nonneg : (a b : ℤ) → pos 0 ≤ℤ a → pos 0 ≤ℤ b → pos 0 ≤ℤ (a *ℤ b)
product_nonneg (pos a) (pos b) h k = omega (arith, ints)
product_nonneg (pos a) (negsuc b) h k = absurd k.le
product_nonneg (negsuc a) b h k = absurd h.le

-- a positive factor can be left out
pub nonneg_by : (a b : ℤ) → pos 0 <ℤ a → pos 0 ≤ℤ (a *ℤ b) → pos 0 ≤ℤ b
nonneg_by (pos zero) b h k = absurd (omega (arith, ints))
nonneg_by (pos (suc a)) (pos b) h k = omega (arith, ints)
nonneg_by (pos (suc a)) (negsuc b) h k = absurd (omega (arith, ints))
nonneg_by (negsuc a) b h k = absurd h.lt

-- the order of fractions is transitive: p over q and q over r give p over r
pub over_trans : (ap bp aq bq ar br : ℤ) → pos 0 <ℤ ap → pos 0 <ℤ aq → pos 0 <ℤ ar
    → pos 0 ≤ℤ (ap *ℤ bq -ℤ aq *ℤ bp) → pos 0 ≤ℤ (aq *ℤ br -ℤ ar *ℤ bq) → pos 0 ≤ℤ (ap *ℤ br -ℤ ar *ℤ bp)
over_trans ap bp aq bq ar br p q r h k =
    let e : aq *ℤ (ap *ℤ br -ℤ ar *ℤ bp) ≡ ar *ℤ (ap *ℤ bq -ℤ aq *ℤ bp) +ℤ ap *ℤ (aq *ℤ br -ℤ ar *ℤ bq) = simp ring (omega (arith, ints, cube)) in
    let x = product_nonneg ar (ap *ℤ bq -ℤ aq *ℤ bp) (omega (arith, ints)) h in
    let y = product_nonneg ap (aq *ℤ br -ℤ ar *ℤ bq) (omega (arith, ints)) k in
    nonneg_by aq (ap *ℤ br -ℤ ar *ℤ bp) q (omega (arith, ints, e, x, y))

pub positive_product : (a b : ℤ) → pos 0 <ℤ a → pos 0 <ℤ b → pos 0 <ℤ (a *ℤ b)
positive_product (pos zero) b h k = absurd (omega (arith, ints))
positive_product (pos (suc a)) (pos zero) h k = absurd (omega (arith, ints))
positive_product (pos (suc a)) (pos (suc b)) h k = omega (arith, ints)
positive_product (pos (suc a)) (negsuc b) h k = absurd k.lt
positive_product (negsuc a) b h k = absurd h.lt

pub positive_by : (a b : ℤ) → pos 0 <ℤ a → pos 0 <ℤ (a *ℤ b) → pos 0 <ℤ b
positive_by (pos zero) b h k = absurd (omega (arith, ints))
positive_by (pos (suc a)) (pos zero) h k = absurd (omega (arith, ints))
positive_by (pos (suc a)) (pos (suc b)) h k = omega (arith, ints)
positive_by (pos (suc a)) (negsuc b) h k = absurd (omega (arith, ints))
positive_by (negsuc a) b h k = absurd h.lt
