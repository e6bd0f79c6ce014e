-- Widths as numbers.
use Rattle.std.specs.Prelude.{◌≡◌, ℕ, refl, Bool, true, false, ◌&&◌, nat_le}
use Rattle.std.proofs.lemmas.Bool.{leb-true}
use Rattle.av_base.specs.declared.width.Width.{Width}

-- a number of bits that a word may have
abbrev pub is_width : ℕ → Bool
is_width n = nat_le 1 n && nat_le n 64

-- by what the two bounds tell
abbrev pub width_by : (n : ℕ) (t u : Bool) → nat_le 1 n ≡ t → nat_le n 64 ≡ u → Width
width_by n true true e f = record { bits = n; least = leb-true 1 n e; most = leb-true n 64 f }
width_by n true false e f = record { bits = 1; least = leb-true 1 1 refl; most = leb-true 1 64 refl }
width_by n false u e f = record { bits = 1; least = leb-true 1 1 refl; most = leb-true 1 64 refl }

-- so many bits, where a word may have so many, or one
unfoldable pub width_of : ℕ → Width
width_of n = width_by n (nat_le 1 n) (nat_le n 64) refl refl
