-- Widths are their numbers of bits.
use Rattle.std.proofs.Common.{◌≡◌, ℕ, Bool, true, false, refl, sym, subst, ◌∙◌, arith}
use Rattle.std.specs.Prelude.{◌&&◌, nat_le}
use Rattle.av_base.specs.declared.width.Width.{Width}
use Rattle.av_vparse.specs.inner.Bits.{is_width, width_by, width_of}
use Rattle.av_base.proofs.Widths.{width_is}

by_bits : (n : ℕ) (t u : Bool) (e : nat_le 1 n ≡ t) (f : nat_le n 64 ≡ u) → (t && u) ≡ true → (width_by n t u e f).bits ≡ n
by_bits n true true e f h = refl
by_bits n true false e f h = absurd cc
by_bits n false u e f h = absurd cc

pub bits_of : (n : ℕ) → is_width n ≡ true → (width_of n).bits ≡ n
unfolding width_of
bits_of n h = by_bits n (nat_le 1 n) (nat_le n 64) refl refl h

pub fits_width : (w : Width) → is_width w.bits ≡ true
fits_width w = let l = w.least in let m = w.most in grind arith

pub is_width_of : (w : Width) (n : ℕ) → w.bits ≡ n → w ≡ width_of n
is_width_of w n e = width_is w (width_of n) (e ∙ sym (bits_of n (subst (λ m. is_width m ≡ true) e (fits_width w))))
