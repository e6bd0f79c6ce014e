-- Boxes within the limit on coordinates, and domains that have no point outside them.
use Rattle.std.proofs.Common.{ℕ, ◌≤◌, ◌^◌, ℤ, ◌≤ℤ◌, pos, inl, inr, List, [], ◌∷◌, length, map, get_or, sym, subst, arith, All}
use Rattle.std.proofs.Math.IntN.{negsuc}
use Rattle.std.specs.List.{AllByRecursion}
use Rattle.std.specs.Int.RustNames.{unsigned_abs}
use Rattle.std.proofs.lemmas.Int.{ints, clamps}
use Rattle.std.proofs.lemmas.List.Elements.{All-nil, All-map, All-push, All-from_recursion, recursion_from_All}
use Rattle.av_affine.specs.declared.form.Form.{Form}
use Rattle.av_affine.specs.Numbers.{AtMost}
use Rattle.av_affine.specs.Forms.{IsWithinLimits}
use Rattle.av_affine.proofs.Exact.{divided_most}
use Rattle.av_poly.specs.Points.{Set, Has}
use Rattle.av_poly.specs.Normal.{counted, IsDivided, AreNormalised, impossible}
use Rattle.av_poly.specs.Search.{IsBetween}
use Rattle.av_poly.specs.Rational.{HasNoBounds, entry_of}
use Rattle.av_poly.proofs.Dividing.{counted_most, constant_most}
use Rattle.av_poly.proofs.Rationals.{point_is_rational, point_within_bounds}
use Rattle.av_elim.specs.inner.Clamped.{clamp}

-- ---- normalised rows keep their limits

pub divided_within : (dim : ℕ) (row new : Form) → IsDivided dim row new → IsWithinLimits row → IsWithinLimits new
divided_within dim row new s h = record {
  coefficients = subst (AtMost 1024) (sym s.coef) (divided_most (counted dim row.coef) s.divisor 1024 s.positive s.gcd (counted_most 1024 dim row.coef h.coefficients));
  constant = rw s.constant (constant_most row.constant s.divisor (2 ^ 20) s.positive h.constant);
}

impossible_within : IsWithinLimits impossible
impossible_within = record {
  coefficients = All-from_recursion (λ x. unsigned_abs x ≤ 1024) (pos 0 ∷ pos 0 ∷ pos 0 ∷ pos 0 ∷ []) (omega arith, (omega arith, (omega arith, (omega arith, tt))));
  constant = omega arith;
}

pub normalised_within : (dim : ℕ) (old new : List Form) → AreNormalised dim old new → All IsWithinLimits old → All IsWithinLimits new
normalised_within dim old new (inl w) h = subst (All IsWithinLimits) (sym w.1) (All-push IsWithinLimits [] impossible (All-nil IsWithinLimits) impossible_within)
normalised_within dim old new (inr w) h = λ k d l.
    let (i, row, m, f, s) = w.1.divided k d l in
    divided_within dim row (get_or new k d) s (subst IsWithinLimits f (h i row m))

-- ---- clipped boxes

clip_most : (x : ℤ) → unsigned_abs (clamp x) ≤ 4095
clip_most x = omega (arith, ints, clamps)

pub clip_most_of : (xs : List ℤ) → AtMost 4095 (map clamp xs)
clip_most_of xs = All-map (λ x. unsigned_abs x ≤ 4095) clamp xs (λ k d l. clip_most (get_or xs k d))

clip_between : (low high z : List ℤ) → AllByRecursion (λ x. unsigned_abs x ≤ 4095) z → IsBetween low high z → IsBetween (map clamp low) (map clamp high) z
clip_between low high [] a b = tt
clip_between [] high (x ∷ z) a b = absurd b
clip_between (l ∷ low) [] (x ∷ z) a b = absurd b
clip_between (l ∷ low) (h ∷ high) (x ∷ z) a b =
    let s = a.0 in let p = b.0 in let q = b.1 in
    (omega (arith, ints, clamps, s, p), omega (arith, ints, clamps, s, q), clip_between low high z a.1 b.2)

pub clipped_between : (low high z : List ℤ) → AtMost 4095 z → IsBetween low high z → IsBetween (map clamp low) (map clamp high) z
clipped_between low high z a b = clip_between low high z (recursion_from_All (λ x. unsigned_abs x ≤ 4095) z a) b

abbrev pub least_entries : List ℤ
least_entries = negsuc 4094 ∷ negsuc 4094 ∷ negsuc 4094 ∷ negsuc 4094 ∷ []

abbrev pub greatest_entries : List ℤ
greatest_entries = pos 4095 ∷ pos 4095 ∷ pos 4095 ∷ pos 4095 ∷ []

above : (x : ℤ) → unsigned_abs x ≤ 4095 → negsuc 4094 ≤ℤ x
above x h = omega (arith, ints, h)

below : (x : ℤ) → unsigned_abs x ≤ 4095 → x ≤ℤ pos 4095
below x h = omega (arith, ints, h)

widest_entries : (z : List ℤ) → length z ≤ 4 → AllByRecursion (λ x. unsigned_abs x ≤ 4095) z → IsBetween least_entries greatest_entries z
widest_entries [] l h = tt
widest_entries (a ∷ []) l h = (above a h.0, below a h.0, tt)
widest_entries (a ∷ b ∷ []) l h = (above a h.0, below a h.0, (above b h.1.0, below b h.1.0, tt))
widest_entries (a ∷ b ∷ c ∷ []) l h = (above a h.0, below a h.0, (above b h.1.0, below b h.1.0, (above c h.1.1.0, below c h.1.1.0, tt)))
widest_entries (a ∷ b ∷ c ∷ d ∷ []) l h = (above a h.0, below a h.0, (above b h.1.0, below b h.1.0, (above c h.1.1.0, below c h.1.1.0, (above d h.1.1.1.0, below d h.1.1.1.0, tt))))
widest_entries (a ∷ b ∷ c ∷ d ∷ e ∷ z) l h = absurd (omega (arith, l))

pub widest_between : (z : List ℤ) → length z ≤ 4 → AtMost 4095 z → IsBetween least_entries greatest_entries z
widest_between z l a = widest_entries z l (recursion_from_All (λ x. unsigned_abs x ≤ 4095) z a)

-- ---- no bounds, no point

pub no_point : (set : Set) (z : List ℤ) → HasNoBounds set → Has set z → ⊥
no_point set z b h = elim b [
  | inl f ↦ f (pos 1, z, point_is_rational set z h)
  | inr g ↦ g.no_whole (entry_of z g.gap) (point_within_bounds set z g.gap h)
]

-- ---- points between small bounds

pub between_small : (low high z : List ℤ) → AllByRecursion (λ x. unsigned_abs x ≤ 4095) low → AllByRecursion (λ x. unsigned_abs x ≤ 4095) high → IsBetween low high z → AllByRecursion (λ x. unsigned_abs x ≤ 4095) z
between_small low high [] a b h = tt
between_small [] high (x ∷ z) a b h = absurd h
between_small (l ∷ low) [] (x ∷ z) a b h = absurd h
between_small (l ∷ low) (g ∷ high) (x ∷ z) a b h =
    let s = a.0 in let t = b.0 in let p = h.0 in let q = h.1 in
    (omega (arith, ints, s, t, p, q), between_small low high z a.1 b.1 h.2)

pub small_between : (low high z : List ℤ) → AtMost 4095 low → AtMost 4095 high → IsBetween low high z → AtMost 4095 z
small_between low high z a b h =
    All-from_recursion (λ x. unsigned_abs x ≤ 4095) z
    (between_small low high z (recursion_from_All (λ x. unsigned_abs x ≤ 4095) low a) (recursion_from_All (λ x. unsigned_abs x ≤ 4095) high b) h)
