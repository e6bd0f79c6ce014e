-- What a walk through the choices of a component knows. Only private contracts cite this.
use Rattle.std.specs.Prelude.{◌≡◌, ℕ, ◌<◌, ◌≤◌, List, [], length, All, slice_index_or, Contains, Option, Some, None, ◌+◌, ◌⊎◌}
use Rattle.std.specs.List.{AllZip}
use Rattle.av_sched.specs.declared.arc.Arc.{Arc}
use Rattle.av_tree.specs.Points.{Point}
use Rattle.av_depend.specs.declared.edge.Edge.{Edge}
use Rattle.av_flat.specs.Trees.{FlatSystem}
use Rattle.av_flat.specs.Nodes.{nodes}
use Rattle.av_sched.specs.Offsets.{part}
use Rattle.av_sched.specs.declared.price.PricedChoice.{PricedChoice}
use Rattle.av_sched.specs.Choices.{AreLinearParts, IsFeasible}
use Rattle.av_sched.specs.Order.{cost, IsLess}
use Rattle.av_sched.specs.declared.price.Price.{Price}
use Rattle.av_sched.specs.Leads.{IsArcOf}
use Rattle.av_sched.specs.Parts.{Agrees, AreParts, AreAllParts}
use Rattle.av_sched.specs.Prices.{IsSpent, ArePricesTo}

-- a best choice is known, and the other one does not come before it
abbrev pub IsMet : FlatSystem → List ℕ → Option (List Point) → List Point → Type 0
IsMet s component None other = ⊥
IsMet s component (Some best) other = IsLess (cost s component other) (cost s component best) → ⊥

-- a known best choice is a feasible one
abbrev pub IsSound : FlatSystem → ℕ → List ℕ → Option (List Point) → Type 0
IsSound s c component None = Unit {0}
IsSound s c component (Some best) = AreLinearParts s c best × IsFeasible s component best

-- of what the old one meets, the new one meets everything, and each feasible choice besides that has the first k parts of linear
pub record HasWalked (s : FlatSystem) (c : ℕ) (component : List ℕ) (k : ℕ) (linear : List Point) (old new : Option (List Point)) : Type 0 where
  pub sound : IsSound s c component new
  pub keeps : (other : List Point) → AreLinearParts s c other → IsMet s component old other → IsMet s component new other
  pub covers : (other : List Point) → AreLinearParts s c other → Agrees component k linear other → IsFeasible s component other → IsMet s component new other

-- the same, of those feasible choices besides whose part at the next node is among these
pub record HasTried (s : FlatSystem) (c : ℕ) (component : List ℕ) (k : ℕ) (linear : List Point) (tried : List Point) (old new : Option (List Point)) : Type 0 where
  pub sound : IsSound s c component new
  pub keeps : (other : List Point) → AreLinearParts s c other → IsMet s component old other → IsMet s component new other
  pub covers : (other : List Point) → AreLinearParts s c other → Agrees component k linear other → Contains tried (part other (slice_index_or component k 0)) → IsFeasible s component other → IsMet s component new other

-- the choice so far, if one is known
abbrev pub known : Option PricedChoice → Option (List Point)
known None = None
known (Some best) = Some best.parts.items

-- for its first k nodes
pub record AreAllPartsTo (s : FlatSystem) (c : ℕ) (component : List ℕ) (k : ℕ) (lists : List (List Point)) : Type 0 where
  pub one_each : length lists ≡ k
  pub each : (j : ℕ) → j < k → AreParts s c (slice_index_or component j 0) (slice_index_or lists j [])

-- the linear parts that each node of the component can have, and what they cost
pub record AreAllPriced (s : FlatSystem) (c : ℕ) (component : List ℕ) (parts : List (List Point)) (costs : List (List Price)) : Type 0 where
  pub within : All (λ n. n < length (nodes s)) component
  pub lists : AreAllParts s c component parts
  pub prices : ArePricesTo s component (length component) parts costs

-- no choice that agrees with the first k parts is feasible
abbrev pub IsForbidden : FlatSystem → List ℕ → ℕ → List Point → Type 0
IsForbidden s component k linear = (other : List Point) → Agrees component k linear other → IsFeasible s component other → ⊥

-- choices that agree with the first k parts are not feasible, or do not come before the best one
abbrev pub IsBarred : FlatSystem → ℕ → List ℕ → ℕ → List Point → Option (List Point) → Type 0
IsBarred s c component k linear best = (other : List Point) → AreLinearParts s c other → Agrees component k linear other → IsFeasible s component other → IsMet s component best other

-- the choice comes before the best one, if one is known
abbrev pub IsAhead : FlatSystem → List ℕ → List Point → Option (List Point) → Type 0
IsAhead s component linear None = Unit {0}
IsAhead s component linear (Some best) = IsLess (cost s component linear) (cost s component best)

-- the edges of which both ends are in the component
pub record AreInside (edges : List Edge) (component : List ℕ) (inner : List Edge) : Type 0 where
  pub among : (e : Edge) → Contains inner e → Contains edges e × Contains component e.consumer × Contains component e.producer
  pub all : (e : Edge) → Contains edges e → Contains component e.consumer → Contains component e.producer → Contains inner e

-- their arcs
abbrev pub AreArcsInside : List Point → List Edge → List ℕ → List Arc → Type 0
AreArcsInside linear edges component arcs = (inner : List Edge) × AreInside edges component inner × AllZip (IsArcOf linear) inner arcs

-- outside the component the best choice has these linear parts
abbrev pub IsLike : List ℕ → List Point → Option (List Point) → Type 0
IsLike component linear None = Unit {0}
IsLike component linear (Some best) = (n : ℕ) → (Contains component n → ⊥) → part best n ≡ part linear n

-- the price that is told of the best choice is what it costs
abbrev pub IsRated : FlatSystem → List ℕ → Option PricedChoice → Type 0
IsRated s component None = Unit {0}
IsRated s component (Some best) = IsSpent s best.parts.items component best.price

-- what was spent, and the least of the rest, is above the price of the best choice
abbrev pub IsAbove : Price → Price → Option PricedChoice → Type 0
IsAbove spent rest None = ⊥
IsAbove spent rest (Some best) = (best.price.left < spent.left + rest.left) ⊎ ((best.price.left ≤ spent.left + rest.left) × (best.price.size < spent.size + rest.size))
