-- How far the values of a linear part reach over the points of a node. Only private contracts cite this.
use Rattle.std.specs.Prelude.{◌≡◌, ℕ, ◌^◌, ◌≤◌, ◌<◌, ◌⊎◌, ℤ, pos, ◌≤ℤ◌, ◌<ℤ◌, ◌+ℤ◌, unsigned_abs, List, [], length, All, Any, slice_index_or}
use Rattle.std.proofs.Math.IntN.{neg_ℤ}
use Rattle.av_affine.specs.Numbers.{dot}
use Rattle.av_tree.specs.Points.{Point}
use Rattle.av_flat.specs.Trees.{FlatSystem}
use Rattle.av_flat.specs.Nodes.{IsComputation}
use Rattle.av_sched.specs.Offsets.{part}
use Rattle.av_sched.specs.Arcs.{at}
use Rattle.av_best.specs.declared.span.PartSpan.{PartSpan}

-- no value at a listed point is below the low one or above the high one, and both are taken there
pub record IsSpanOver (points : List Point) (a : Point) (span : PartSpan) : Type 0 where
  pub low_below : All (λ z. span.low ≤ℤ dot a z) points
  pub low_taken : Any (λ z. dot a z ≡ span.low) points
  pub high_above : All (λ z. dot a z ≤ℤ span.high) points
  pub high_taken : Any (λ z. dot a z ≡ span.high) points
  pub low_small : unsigned_abs span.low ≤ 2 ^ 29
  pub high_small : unsigned_abs span.high ≤ 2 ^ 29

-- the same of all computations of a node
pub record IsSpanAt (s : FlatSystem) (n : ℕ) (a : Point) (span : PartSpan) : Type 0 where
  pub low_below : (z : Point) → IsComputation s n z → span.low ≤ℤ dot a z
  pub low_point : Point
  pub low_is : IsComputation s n low_point
  pub low_taken : dot a low_point ≡ span.low
  pub high_above : (z : Point) → IsComputation s n z → dot a z ≤ℤ span.high
  pub high_point : Point
  pub high_is : IsComputation s n high_point
  pub high_taken : dot a high_point ≡ span.high
  pub low_small : unsigned_abs span.low ≤ 2 ^ 29
  pub high_small : unsigned_abs span.high ≤ 2 ^ 29

-- points of a node by which every linear part can be judged
pub record ArePointsOf (s : FlatSystem) (n : ℕ) (points : List Point) : Type 0 where
  pub some : 0 < length points
  pub each : All (IsComputation s n) points
  pub least : (a : List ℤ) (z : Point) → IsComputation s n z → Any (λ p. dot a p ≤ℤ dot a z) points
  pub greatest : (a : List ℤ) (z : Point) → IsComputation s n z → Any (λ p. dot a z ≤ℤ dot a p) points

-- the span of each part
pub record AreSpansAt (s : FlatSystem) (n : ℕ) (parts : List Point) (spans : List PartSpan) : Type 0 where
  pub one_each : length spans ≡ length parts
  pub each : (i : ℕ) (d : PartSpan) → i < length parts → IsSpanAt s n (slice_index_or parts i []) (slice_index_or spans i d)

-- of the lists of the first k nodes
pub record AreSpansTo (s : FlatSystem) (k : ℕ) (lists : List (List Point)) (spans : List (List PartSpan)) : Type 0 where
  pub one_each : length spans ≡ k
  pub each : (j : ℕ) → j < k → AreSpansAt s j (slice_index_or lists j []) (slice_index_or spans j [])

-- of the linear parts of the first k nodes
pub record AreSpanned (s : FlatSystem) (k : ℕ) (linear : List Point) (spans : List PartSpan) : Type 0 where
  pub within : k ≤ length spans
  pub each : (j : ℕ) (d : PartSpan) → j < k → IsSpanAt s j (part linear j) (slice_index_or spans j d)

-- the cycle of a node's last computation
abbrev pub last_of : List ℤ → List PartSpan → ℕ → PartSpan → ℤ
last_of offsets spans j d = at offsets j +ℤ (slice_index_or spans j d).high

-- the least number that is above the last cycles of the first k nodes; it is 0 or one more than one of them
pub record IsLeastAbove (offsets : List ℤ) (spans : List PartSpan) (k m : ℕ) : Type 0 where
  pub above : (j : ℕ) (d : PartSpan) → j < k → last_of offsets spans j d <ℤ pos m
  pub reached : (m ≡ 0) ⊎ ((j : ℕ) × (j < k) × ((d : PartSpan) → last_of offsets spans j d +ℤ pos 1 ≡ pos m))

-- the spans of the first k nodes are of small numbers
abbrev pub AreSmallSpans : ℕ → List PartSpan → Type 0
AreSmallSpans k spans = (j : ℕ) (d : PartSpan) → j < k → (unsigned_abs (slice_index_or spans j d).low ≤ 2 ^ 29) × (unsigned_abs (slice_index_or spans j d).high ≤ 2 ^ 29)

-- the offsets with which the first cycles of the first k nodes are 0
pub record AreLows (k : ℕ) (spans : List PartSpan) (offsets : List ℤ) : Type 0 where
  pub one_each : length offsets ≡ k
  pub each : (j : ℕ) (d : PartSpan) → j < k → at offsets j ≡ neg_ℤ (slice_index_or spans j d).low
