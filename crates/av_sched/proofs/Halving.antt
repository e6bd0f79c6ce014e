-- The points of a set at which a linear part is at most a number, and bounds on its values that close in.
use Rattle.std.proofs.Common.{◌≡◌, ℕ, ◌<◌, ◌≤◌, ℤ, pos, ◌+ℤ◌, ◌-ℤ◌, ◌≤ℤ◌, ◌<ℤ◌, List, [], ◌∷◌, length, refl, sym, subst, ◌∙◌, arith, unsigned_abs}
use Rattle.std.proofs.Math.IntN.{neg_ℤ}
use Rattle.std.proofs.lemmas.Int.{ints, by_lt_z}
use Rattle.av_affine.specs.Numbers.{dot, AtMost}
use Rattle.av_affine.proofs.Dots.{dot_most}
use Rattle.av_affine.proofs.Ring.{neg_times}
use Rattle.av_affine.specs.declared.form.Form.{Form}
use Rattle.av_poly.specs.Points.{Set, Has, Holds}
use Rattle.av_tree.specs.Points.{Point}
use Rattle.av_sched.specs.inner.Starts.{row_at_most, IsSpanned}

-- the row's products are those of the linear part with the sign turned
pub turned : (a z : Point) (x : ℤ) → length a ≤ 4 → length z ≡ length a → dot (row_at_most a x).coef z ≡ neg_ℤ (dot a z)
turned [] [] x l e = refl
turned [] (u ∷ z) x l e = absurd (omega (arith, e))
turned (p ∷ a) [] x l e = absurd (omega (arith, e))
turned (p ∷ []) (u ∷ []) x l e = simp neg_times (omega (arith, ints))
turned (p ∷ []) (u ∷ v ∷ z) x l e = absurd (omega (arith, e))
turned (p ∷ q ∷ a) (u ∷ []) x l e = absurd (omega (arith, e))
turned (p ∷ q ∷ []) (u ∷ v ∷ []) x l e = simp neg_times (omega (arith, ints))
turned (p ∷ q ∷ []) (u ∷ v ∷ w ∷ z) x l e = absurd (omega (arith, e))
turned (p ∷ q ∷ r ∷ a) (u ∷ v ∷ []) x l e = absurd (omega (arith, e))
turned (p ∷ q ∷ r ∷ []) (u ∷ v ∷ w ∷ []) x l e = simp neg_times (omega (arith, ints))
turned (p ∷ q ∷ r ∷ []) (u ∷ v ∷ w ∷ y ∷ z) x l e = absurd (omega (arith, e))
turned (p ∷ q ∷ r ∷ s ∷ a) (u ∷ v ∷ w ∷ []) x l e = absurd (omega (arith, e))
turned (p ∷ q ∷ r ∷ s ∷ []) (u ∷ v ∷ w ∷ y ∷ []) x l e = simp neg_times (omega (arith, ints))
turned (p ∷ q ∷ r ∷ s ∷ []) (u ∷ v ∷ w ∷ y ∷ t ∷ z) x l e = absurd (omega (arith, e))
turned (p ∷ q ∷ r ∷ s ∷ t ∷ a) (u ∷ v ∷ w ∷ y ∷ z) x l e = absurd (omega (arith, l))

-- the set of the row alone
abbrev pub half_of : ℕ → Point → ℤ → Set
half_of dim a x = record { dim = dim; rows = row_at_most a x ∷ [] }

pub in_half : (dim : ℕ) (a z : Point) (x : ℤ) → length a ≡ dim → dim ≤ 4 → Has (half_of dim a x) z → dot a z ≤ℤ x
in_half dim a z x l few h =
    let d = h.dimension in
    let t = turned a z x (omega (arith, l, few)) (omega (arith, d, l)) in
    let r = h.holds.0 in
    omega (arith, ints, t, r)

pub into_half : (dim : ℕ) (a z : Point) (x : ℤ) → length a ≡ dim → dim ≤ 4 → length z ≡ dim → dot a z ≤ℤ x → Has (half_of dim a x) z
into_half dim a z x l few d h =
    let t = turned a z x (omega (arith, l, few)) (omega (arith, d, l)) in
    record { dimension = d; holds = (omega (arith, ints, t, h), tt) }

-- ---- closing in

-- a point whose value is at most the middle
pub lower_value : (set : Set) (a : Point) (low value middle x : ℤ) (z : Point) → IsSpanned set a low value → Has set z → dot a z ≡ x → x ≤ℤ middle → middle <ℤ value → IsSpanned set a low x
lower_value set a low value middle x z h i e b m =
    let n = h.none_below z i in
    let s = h.low_small in
    let t = h.value_small in
    record { none_below = h.none_below; point = z; is_point = i; taken = e; low_small = s; value_small = omega (arith, ints, n, e, b, m, s, t) }

-- no point has one
pub higher_low : (set : Set) (a : Point) (low value middle : ℤ) → IsSpanned set a low value → ((z : Point) → Has set z → dot a z ≤ℤ middle → ⊥) → low ≤ℤ middle → middle <ℤ value
    → IsSpanned set a (middle +ℤ pos 1) value
higher_low set a low value middle h none l m =
    let s = h.low_small in
    let t = h.value_small in
    record {
      none_below = λ z i. not_below (dot a z) middle (none z i);
      point = h.point;
      is_point = h.is_point;
      taken = h.taken;
      low_small = omega (arith, ints, l, m, s, t);
      value_small = t;
    }
  where
    not_below : (x y : ℤ) → (x ≤ℤ y → ⊥) → (y +ℤ pos 1) ≤ℤ x
    not_below x y f = by_lt_z y x (λ k. omega (arith, ints, k)) (λ k. absurd (f k))

-- where the bounds meet
pub met : (set : Set) (a : Point) (low value : ℤ) → IsSpanned set a low value → value ≤ℤ low → IsSpanned set a value value
met set a low value h m = record {
  none_below = λ z i. let n = h.none_below z i in omega (arith, ints, n, m);
  point = h.point;
  is_point = h.is_point;
  taken = h.taken;
  low_small = h.value_small;
  value_small = h.value_small;
}

-- before the first step: no value is far out
pub first_span : (set : Set) (a z : Point) (x : ℤ) → AtMost 4 a → set.dim ≤ 4 → ((y : Point) → Has set y → AtMost 4095 y) → Has set z → dot a z ≡ x → IsSpanned set a (neg_ℤ (pos 131072)) x
first_span set a z x small few points h e = record {
  none_below = λ y i.
      let most = dot_most a y 4 4095 small (points y i) in
      let d = i.dimension in
      omega (arith, ints, most, d, few);
  point = z;
  is_point = h;
  taken = e;
  low_small = omega (arith, ints);
  value_small = (let most = dot_most a z 4 4095 small (points z h) in let d = h.dimension in omega (arith, ints, most, d, few, e));
}

-- ---- a set that has the row alone

pub in_part : (part : Set) (dim : ℕ) (a z : Point) (x : ℤ) → part.dim ≡ dim → part.rows ≡ row_at_most a x ∷ [] → length a ≡ dim → dim ≤ 4 → Has part z → dot a z ≤ℤ x
in_part part dim a z x d r l few h = in_half dim a z x l few (record { dimension = h.dimension ∙ d; holds = subst (λ (rows : List Form). Holds rows z) r h.holds })

pub into_part : (part : Set) (dim : ℕ) (a z : Point) (x : ℤ) → part.dim ≡ dim → part.rows ≡ row_at_most a x ∷ [] → length a ≡ dim → dim ≤ 4 → length z ≡ dim → dot a z ≤ℤ x → Has part z
into_part part dim a z x d r l few e h =
    let k = into_half dim a z x l few e h in record { dimension = e ∙ sym d; holds = subst (λ (rows : List Form). Holds rows z) (sym r) k.holds }

-- the middle closes in from both sides
pub closer_below : (low value middle x : ℤ) → low ≤ℤ middle → middle <ℤ value → x ≤ℤ middle → low ≤ℤ x → unsigned_abs (x -ℤ low) < unsigned_abs (value -ℤ low)
closer_below low value middle x a b c d = omega (arith, ints, a, b, c, d)

pub closer_above : (low value middle : ℤ) → low ≤ℤ middle → middle <ℤ value → unsigned_abs (value -ℤ (middle +ℤ pos 1)) < unsigned_abs (value -ℤ low)
closer_above low value middle a b = omega (arith, ints, a, b)
