use Rattle.std.proofs.Common.{◌≡◌, ℕ, ◌^◌, ◌<◌, ◌%◌, nat_eq, nat_lt, Bool, true, false, refl, ap, ◌∙◌, arith}
use Rattle.std.proofs.lemmas.Bool.{ltb-false, ltb-true, eq-eqb, eqb-true}
use Rattle.std.proofs.Math.Nat.{mod-lt, mod-eq_of_lt, one-le-pow}
use Rattle.av_vparse.proofs.literal.fits.Goals as goal

-- a number is its residue where it is below the modulus
residue : (m v : ℕ) → 0 < m → nat_eq (v % m) v ≡ nat_lt v m
residue m v some = go (nat_lt v m) refl
  where
    go : (t : Bool) → nat_lt v m ≡ t → nat_eq (v % m) v ≡ t
    go true e = eq-eqb (v % m) v (mod-eq_of_lt (ltb-true v m e))
    go false e = unequal (nat_eq (v % m) v) refl
      where
        unequal : (t : Bool) → nat_eq (v % m) v ≡ t → t ≡ false
        unequal true f = absurd (let is : v % m ≡ v = eqb-true (v % m) v f in omega (arith, mod-lt v some, ltb-false v m e))
        unequal false f = refl

pub returns : goal.returns
returns c = ap (λ n. nat_eq n c.args.value) c.of.ensures ∙ residue (2 ^ c.args.width.bits) c.args.value (one-le-pow c.args.width.bits 2 (omega arith))
