-- A walk through the choices of a component, as contracts see it. Only private contracts cite this.
use Rattle.std.specs.Prelude.{◌≡◌, ℕ, ◌<◌, ◌≤◌, List, Option, Some, length, All, AllPairs, take, drop, slice_get, slice_set, slice_index_or}
use Rattle.av_tree.specs.Points.{Point}
use Rattle.av_flat.specs.declared.flat.Flat.{Flat}
use Rattle.av_flat.specs.Trees.{FlatSystem, Variable, view_system}
use Rattle.av_flat.specs.Nodes.{nodes}
use Rattle.av_flat.specs.Schedules.{IsLinearPart}
use Rattle.av_depend.specs.declared.edge.Edge.{Edge}
use Rattle.av_sched.specs.declared.price.Price.{Price}
use Rattle.av_sched.specs.Offsets.{part}
use Rattle.av_sched.specs.Parts.{AreParts}
use Rattle.av_sched.specs.Prices.{IsSpent, IsFloor, ArePricesAt}
use Rattle.av_sched.specs.Choices.{AreLinearParts, IsFeasible}
use Rattle.av_sched.specs.inner.Walk.{IsAhead, IsForbidden, HasWalked}

-- a component of a system's nodes, with the system's edges and the size of the box
pub record Choices : Type 0 where
  pub flat : Flat
  pub edges : List Edge
  pub size : ℕ
  pub component : List ℕ

abbrev pub choices_in : Flat → List Edge → ℕ → List ℕ → Choices
choices_in flat edges size component = record { flat = flat; edges = edges; size = size; component = component }

abbrev pub system_of : Choices → FlatSystem
system_of d = view_system d.flat

-- the node at the level k
abbrev pub node_at : Choices → ℕ → ℕ
node_at d k = slice_index_or d.component k 0

-- all nodes of the component are nodes of the system, they ascend, and the box is within its limit
pub record IsInSystem (d : Choices) : Type 0 where
  pub within : All (λ n. n < length (nodes (system_of d))) d.component
  pub apart : AllPairs (λ m n. m < n) d.component
  pub small : d.size ≤ 4

-- the linear parts that the node at the level k can have
abbrev pub ArePartsAt : Choices → ℕ → List Point → Type 0
ArePartsAt d k parts = AreParts (system_of d) d.size (node_at d k) parts

-- what each of them costs
abbrev pub ArePricesOf : Choices → ℕ → List Point → List Price → Type 0
ArePricesOf d k parts prices = ArePricesAt (system_of d) (node_at d k) parts prices

-- one of them: linear parts in the box for all nodes
abbrev pub IsChoice : Choices → List Point → Type 0
IsChoice d linear = AreLinearParts (system_of d) d.size linear

abbrev pub IsFeasibleChoice : Choices → List Point → Type 0
IsFeasibleChoice d linear = IsFeasible (system_of d) d.component linear

-- no choice with the same parts for the first k nodes is feasible
abbrev pub IsForbiddenChoice : Choices → ℕ → List Point → Type 0
IsForbiddenChoice d k linear = IsForbidden (system_of d) d.component k linear

-- the nodes from the level k on cost no less in any choice
abbrev pub IsFloorFrom : Choices → ℕ → Price → Type 0
IsFloorFrom d k p = IsFloor (system_of d) d.size (drop k d.component) p

-- a walk through choices: the linear parts at which it stands, and the best choice so far
pub record Walk : Type 0 where
  pub choices : Choices
  pub linear : List Point
  pub best : Option (List Point)

abbrev pub walk_at : Choices → List Point → Option (List Point) → Walk
walk_at d linear best = record { choices = d; linear = linear; best = best }

-- what the parts of the first k nodes cost together
abbrev pub HasSpent : Walk → ℕ → Price → Type 0
HasSpent w k p = IsSpent (system_of w.choices) w.linear (take k w.choices.component) p

-- the choice at which it stands comes before the best one, if one is known
abbrev pub IsBetter : Walk → Type 0
IsBetter w = IsAhead (system_of w.choices) w.choices.component w.linear w.best

-- the linear part of the node at the level k
abbrev pub part_at : Walk → ℕ → Point
part_at w k = part w.linear (node_at w.choices k)

-- v can be the linear part of the node at the level k
abbrev pub IsPartAt : Choices → ℕ → Point → Type 0
IsPartAt d k v = (x : Variable) → slice_get (nodes (system_of d)) (node_at d k) ≡ Some x → IsLinearPart d.size x.domain.dim v

-- with v as the linear part of the node at the level k
abbrev pub with_part : Walk → ℕ → Point → Walk
with_part w k v = walk_at w.choices (slice_set w.linear (node_at w.choices k) v) w.best

-- the walk stands where it stood, and no feasible choice with the same parts for the first k nodes comes before the best one
pub record HasCovered (old : Walk) (k : ℕ) (new : Walk) : Type 0 where
  pub choices : new.choices ≡ old.choices
  pub linear : new.linear ≡ old.linear
  pub best : HasWalked (system_of old.choices) old.choices.size old.choices.component k old.linear old.best new.best
