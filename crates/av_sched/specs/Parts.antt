-- The linear parts that the nodes of a component can have, and how many indices these nodes have together (own).
use Rattle.std.specs.Prelude.{◌≡◌, ℕ, ◌<◌, List, [], length, slice_index_or, All, Contains, Some, slice_get, sum_by}
use Rattle.av_tree.specs.Points.{Point}
use Rattle.av_flat.specs.Trees.{FlatSystem, Variable}
use Rattle.av_flat.specs.Nodes.{nodes}
use Rattle.av_sched.specs.Offsets.{part}
use Rattle.av_flat.specs.Schedules.{IsLinearPart}

-- the other choice has the same linear parts for the first k nodes of the component
abbrev pub Agrees : List ℕ → ℕ → List Point → List Point → Type 0
Agrees component k linear other = (j : ℕ) → j < k → part other (slice_index_or component j 0) ≡ part linear (slice_index_or component j 0)

-- the linear parts that a node can have
pub record AreParts (s : FlatSystem) (c n : ℕ) (parts : List Point) : Type 0 where
  pub valid : (v : Variable) → slice_get (nodes s) n ≡ Some v → All (IsLinearPart c v.domain.dim) parts
  pub all : (v : Variable) → slice_get (nodes s) n ≡ Some v → (a : Point) → IsLinearPart c v.domain.dim a → Contains parts a

-- for each node of the component in turn
pub record AreAllParts (s : FlatSystem) (c : ℕ) (component : List ℕ) (lists : List (List Point)) : Type 0 where
  pub one_each : length lists ≡ length component
  pub each : (k : ℕ) → k < length component → AreParts s c (slice_index_or component k 0) (slice_index_or lists k [])

-- how many indices the nodes of a component have together
abbrev pub indices_of : List ℕ → List ℕ → ℕ
indices_of dims component = sum_by (λ n. slice_index_or dims n 0) component
