-- What linear parts cost at nodes, by the broadcasts that are not moved and the sum of absolute entries, and the least that they
-- can cost (own).
use Rattle.std.specs.Prelude.{◌≡◌, ℕ, ◌<◌, ◌≤◌, List, [], length, slice_index_or, ◌^◌, slice_get, ◌+◌, ◌*◌, ◌-◌, not, ◌&&◌, filter, sum_by, drop}
use Rattle.av_tree.specs.Points.{Point}
use Rattle.av_flat.specs.Trees.{FlatSystem}
use Rattle.av_flat.specs.Nodes.{nodes}
use Rattle.av_sched.specs.Offsets.{part}
use Rattle.av_sched.specs.Choices.{AreLinearParts}
use Rattle.av_sched.specs.Order.{references_of, left_still, size_of}
use Rattle.av_flat.specs.Broadcasts.{is_broadcast, is_moved}
use Rattle.av_sched.specs.declared.price.Price.{Price}

-- how many broadcasts of a node the linear part does not move
abbrev pub left_at : FlatSystem → ℕ → Point → ℕ
left_at s n a = length (filter (λ r. is_broadcast r.map && not (is_moved a r.map)) (references_of (slice_get (nodes s) n)))

-- what a linear part costs at a node
pub record IsPriceAt (s : FlatSystem) (n : ℕ) (a : Point) (p : Price) : Type 0 where
  pub left : p.left ≡ left_at s n a
  pub size : p.size ≡ size_of a
  pub left_small : p.left < 2 ^ 64
  pub size_small : p.size < 2 ^ 64

-- what each of them costs
pub record ArePricesAt (s : FlatSystem) (n : ℕ) (parts : List Point) (prices : List Price) : Type 0 where
  pub one_each : length prices ≡ length parts
  pub each : (i : ℕ) (d : Price) → i < length parts → IsPriceAt s n (slice_index_or parts i []) (slice_index_or prices i d)

-- for the first k nodes of a component
pub record ArePricesTo (s : FlatSystem) (component : List ℕ) (k : ℕ) (lists : List (List Point)) (prices : List (List Price)) : Type 0 where
  pub one_each : length prices ≡ k
  pub each : (j : ℕ) → j < k → ArePricesAt s (slice_index_or component j 0) (slice_index_or lists j []) (slice_index_or prices j [])

-- what linear parts cost at these nodes
pub record IsSpent (s : FlatSystem) (linear : List Point) (ns : List ℕ) (p : Price) : Type 0 where
  pub left : p.left ≡ sum_by (left_still s linear) ns
  pub size : p.size ≡ sum_by (λ n. size_of (part linear n)) ns
  pub left_small : p.left ≤ length ns * 18446744073709551615
  pub size_small : p.size ≤ length ns * 18446744073709551615

-- no linear parts in the box cost less at these nodes
pub record IsFloor (s : FlatSystem) (c : ℕ) (ns : List ℕ) (p : Price) : Type 0 where
  pub left : (other : List Point) → AreLinearParts s c other → p.left ≤ sum_by (left_still s other) ns
  pub size : (other : List Point) → AreLinearParts s c other → p.size ≤ sum_by (λ n. size_of (part other n)) ns

-- for each number up to k of last nodes of the component
pub record AreFloorsTo (s : FlatSystem) (c : ℕ) (component : List ℕ) (k : ℕ) (floors : List Price) : Type 0 where
  pub one_each : length floors ≡ k + 1
  pub each : (j : ℕ) (d : Price) → j < k + 1 → IsFloor s c (drop (length component - j) component) (slice_index_or floors j d)
