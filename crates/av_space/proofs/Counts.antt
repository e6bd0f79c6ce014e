-- The greatest cycle of points, and of all computations of a system.
use Rattle.std.proofs.Common.{◌≡◌, ℕ, ◌+◌, ◌≤◌, ◌<◌, pos, ◌≤ℤ◌, ◌<ℤ◌, List, length, take, get_or, Some, sym, subst, ◌∙◌, arith, All, inl, inr}
use Rattle.std.specs.Prelude.{slice_get, max, unsigned_abs}
use Rattle.std.proofs.lemmas.Int.{ints}
use Rattle.std.proofs.lemmas.Bool.{cases_lt}
use Rattle.std.proofs.lemmas.List.{take-take, get_or-take, take_all, length-take-le}
use Rattle.std.proofs.lemmas.List.Elements.{All-more, All-take, All-weaker, All-contains}
use Rattle.av_tree.specs.Points.{Point}
use Rattle.av_flat.specs.declared.timed.Time.{Time}
use Rattle.av_flat.specs.Trees.{FlatSystem}
use Rattle.av_flat.specs.Nodes.{IsComputation}
use Rattle.av_flat.specs.Schedules.{cycle}
use Rattle.av_space.specs.Quantities.{IsCycleCount}
use Rattle.av_space.specs.inner.Laying.{AreNodePoints}

-- ---- points of one node

abbrev pub IsUnder : Time → ℕ → Point → Type 0
IsUnder time n z = cycle time z <ℤ pos n

module _ (time : Time) (points : List Point) (k : ℕ) (z : Point) (within : k < length points) (is : z ≡ get_or points k z) (starts : pos 0 ≤ℤ cycle time z) where
  pub under_more : (most next : ℕ) → next ≡ max most (unsigned_abs (cycle time z) + 1) → All (IsUnder time most) (take k points) → All (IsUnder time next) (take (k + 1) points)
  under_more most next e h =
      All-more (IsUnder time next) points k z within (All-weaker (IsUnder time most) (IsUnder time next) (λ w l. omega (arith, ints, l, e)) (take k points) h)
      (subst (IsUnder time next) is (omega (arith, ints, starts, e)))

  pub least_more : (count most next : ℕ) → next ≡ max most (unsigned_abs (cycle time z) + 1) → ((m : ℕ) → count ≤ m → All (IsUnder time m) (take k points) → most ≤ m)
      → (m : ℕ) → count ≤ m → All (IsUnder time m) (take (k + 1) points) → next ≤ m
  least_more count most next e h m l all =
      let before : All (IsUnder time m) (take k points) = subst (All (IsUnder time m)) (take-take k (k + 1) points (omega arith)) (All-take (IsUnder time m) k (take (k + 1) points) all) in
      let size = length-take-le (k + 1) points (omega (arith, within)) in
      let last : IsUnder time m z = subst (IsUnder time m) (get_or-take (k + 1) points k z (omega arith) ∙ sym is) (all k z (omega (arith, size))) in
      let old = h m l before in
      omega (arith, ints, starts, e, last, old)

pub whole_list : (P : Point → Type 0) (points : List Point) (k : ℕ) → length points ≤ k → All P (take k points) → All P points
whole_list P points k l h = subst (All P) (take_all k points l) h

-- ---- all nodes

-- what the nodes with numbers below k have
pub record IsCountTo (s : FlatSystem) (times : List Time) (k count : ℕ) : Type 0 where
  pub above : (n : ℕ) (z : Point) (t : Time) → n < k → IsComputation s n z → slice_get times n ≡ Some t → IsUnder t count z
  pub least : (m : ℕ) → ((n : ℕ) (z : Point) (t : Time) → n < k → IsComputation s n z → slice_get times n ≡ Some t → IsUnder t m z) → count ≤ m

pub count_none : (s : FlatSystem) (times : List Time) → IsCountTo s times 0 0
count_none s times = record { above = λ n z t l. absurd (omega (arith, l)); least = λ m h. omega arith }

pub count_more : (s : FlatSystem) (times : List Time) (k count next : ℕ) (t : Time) (points : List Point) → slice_get times k ≡ Some t → AreNodePoints s k points
    → count ≤ next → All (IsUnder t next) points → ((m : ℕ) → count ≤ m → All (IsUnder t m) points → next ≤ m) → IsCountTo s times k count → IsCountTo s times (k + 1) next
count_more s times k count next t points time all from above least h = record {
  above = λ n z u l c e. elim (cases_lt n k) [
    | inl low ↦ (let a = h.above n z u low c e in omega (arith, ints, a, from))
    | inr high ↦ (
        let same : n ≡ k = omega (arith, l, high) in
        let c' : IsComputation s k z = subst (λ (i : ℕ). IsComputation s i z) same c in
        let e' : slice_get times k ≡ Some u = subst (λ (i : ℕ). slice_get times i ≡ Some u) same e in
        let u_is : t ≡ u = cc in
        subst (λ (w : Time). IsUnder w next z) u_is (All-contains (IsUnder t next) points z above (all.all z c')))
  ];
  least = λ m f. least m (h.least m (λ n z u l c e. f n z u (omega (arith, l)) c e)) (λ i d l. f k (get_or points i d) t (omega arith) (all.each i d l) time);
}

pub count_whole : (s : FlatSystem) (times : List Time) (k count : ℕ) → ((n : ℕ) (z : Point) → IsComputation s n z → n < k) → IsCountTo s times k count → IsCycleCount s times count
count_whole s times k count within h = record {
  above = λ n z t c e. h.above n z t (within n z c) c e;
  least = λ m f. h.least m (λ n z t l c e. f n z t c e);
}
