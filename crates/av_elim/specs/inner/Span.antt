-- What rows say of one index when no other is left in them.
use Rattle.std.specs.Prelude.{◌≡◌, ℕ, ℤ, pos, ◌+ℤ◌, ◌*ℤ◌, ◌≤ℤ◌, ◌<ℤ◌, true, cond, not, ◌&&◌, Option, Some, None, List, [], ◌∷◌, int_lt, IfSome}
use Rattle.std.proofs.Math.IntN.{neg_ℤ}
use Rattle.std.specs.Ordering.{int_eq}
use Rattle.std.specs.Int.{int_max, int_min, int_div_euclid}
use Rattle.av_poly.specs.Rational.{IsRationalPoint, IsDirection, IsWithinBounds, entry_of}
use Rattle.av_elim.specs.declared.span.Span.{Span}
use Rattle.av_elim.specs.inner.Rows.{factor}

abbrev pub higher : Option ℤ → ℤ → ℤ
higher None x = x
higher (Some y) x = int_max y x

abbrev pub lower : Option ℤ → ℤ → ℤ
lower None x = x
lower (Some y) x = int_min y x

-- one row a*x + c >= 0 more
abbrev pub stepped : ℤ → ℤ → Span → Span
stepped a c g = cond (int_eq a (pos 0)) (record { flat = g.flat && not (int_lt c (pos 0)); low = g.low; high = g.high })
    (cond (int_lt (pos 0) a) (record { flat = g.flat; low = Some (higher g.low (neg_ℤ (int_div_euclid c a))); high = g.high })
    (record { flat = g.flat; low = g.low; high = Some (lower g.high (int_div_euclid c (neg_ℤ a))) }))

-- all rows
abbrev pub scanned : ℕ → List (List ℤ) → Span → Span
scanned k [] g = g
scanned k (r ∷ rows) g = scanned k rows (stepped (factor k r) (factor 0 r) g)

-- before the first row
abbrev pub whole : Span
whole = record { flat = true; low = None; high = None }

-- x is in the span
pub record InSpan (g : Span) (x : ℤ) : Type 0 where
  pub flat : g.flat ≡ true
  pub low : IfSome g.low (λ l. l ≤ℤ x)
  pub high : IfSome g.high (λ h. x ≤ℤ h)

-- x over m is not far out of it
pub record Near (g : Span) (m x : ℤ) : Type 0 where
  pub flat : g.flat ≡ true
  pub low : IfSome g.low (λ l. pos 0 <ℤ (x +ℤ (neg_ℤ l +ℤ pos 1) *ℤ m))
  pub high : IfSome g.high (λ h. x <ℤ ((h +ℤ pos 1) *ℤ m))

-- a direction that moves the index by x leaves the span's sides alone
pub record Ways (g : Span) (x : ℤ) : Type 0 where
  pub low : IfSome g.low (λ l. pos 0 ≤ℤ x)
  pub high : IfSome g.high (λ h. x ≤ℤ pos 0)

-- the span g tells of an index
pub record Tells (dim : ℕ) (rows : List (List ℤ)) (index : ℕ) (g : Span) : Type 0 where
  pub into : (x : ℤ) → IsWithinBounds dim rows index x → InSpan g x
  pub outof : (x : ℤ) → InSpan g x → IsWithinBounds dim rows index x
  pub near : (m : ℤ) (y : List ℤ) → IsRationalPoint dim rows m y → Near g m (entry_of y index)
  pub ray_into : (d : List ℤ) → IsDirection dim rows d → Ways g (entry_of d index)
  pub ray_outof : (x : ℤ) → Ways g x → (s : ℤ) × (d : List ℤ) × (pos 0 <ℤ s) × IsDirection dim rows d × (entry_of d index ≡ s *ℤ x)
