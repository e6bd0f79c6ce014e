-- What a walk through the choices of all nodes together knows. Only private contracts cite this.
use Rattle.std.specs.Prelude.{◌≡◌, ℕ, ◌+◌, ◌<◌, ◌≤◌, ◌⊎◌, ℤ, pos, ◌<ℤ◌, List, ◌∷◌, Option, Some, None, Contains}
use Rattle.av_tree.specs.Points.{Point}
use Rattle.av_flat.specs.Trees.{FlatSystem}
use Rattle.av_flat.specs.Nodes.{IsComputation}
use Rattle.av_sched.specs.Offsets.{part, cycle_at, AreOffsets, AreLeastOffsets}
use Rattle.av_sched.specs.Choices.{AreLinearParts}
use Rattle.av_sched.specs.Order.{cost, IsLess}
use Rattle.av_sched.specs.Parts.{Agrees}
use Rattle.av_sched.specs.Prices.{IsSpent}
use Rattle.av_sched.specs.declared.price.Price.{Price}
use Rattle.av_best.specs.Lengths.{HasLength}
use Rattle.av_best.specs.Least.{all_nodes}
use Rattle.av_best.specs.declared.best.Best.{Best}
use Rattle.av_best.specs.declared.space.Estimate.{Estimate}

-- the linear parts have offsets with which all computations are before cycle n
pub record FitsIn (s : FlatSystem) (linear : List Point) (n : ℕ) : Type 0 where
  pub offsets : List ℤ
  pub are : AreOffsets s linear offsets
  pub before : (m : ℕ) (z : Point) → IsComputation s m z → cycle_at linear offsets m z <ℤ pos n

-- what choices are compared by: the length, and then as the first schedule is chosen
abbrev pub joint_cost : FlatSystem → ℕ → List Point → List ℕ
joint_cost s n linear = n ∷ cost s (all_nodes s) linear

-- the other choice has no offsets, or a best one is known, before which it does not come
abbrev pub IsMet : FlatSystem → Option Best → List Point → Type 0
IsMet s None other = (offsets : List ℤ) → AreOffsets s other offsets → ⊥
IsMet s (Some best) other = (n : ℕ) → FitsIn s other n → IsLess (joint_cost s n other) (joint_cost s best.cycles best.parts.items) → ⊥

-- a choice of the box with its least offsets, its length and its price
pub record IsChosen (s : FlatSystem) (c : ℕ) (best : Best) : Type 0 where
  pub are : AreLinearParts s c best.parts.items
  pub offsets : AreLeastOffsets s best.parts.items best.offsets.items
  pub has_length : HasLength s best.parts.items best.offsets.items best.cycles
  pub spent : IsSpent s best.parts.items (all_nodes s) best.price

abbrev pub IsSound : FlatSystem → ℕ → Option Best → Type 0
IsSound s c None = Unit {0}
IsSound s c (Some best) = IsChosen s c best

-- no choice with the first k parts comes before the best one
abbrev pub IsBarred : FlatSystem → ℕ → ℕ → List Point → Option Best → Type 0
IsBarred s c k linear best = (other : List Point) → AreLinearParts s c other → Agrees (all_nodes s) k linear other → IsMet s best other

-- of what the old one meets, the new one meets everything, and each choice besides that has the first k parts of linear
pub record HasWalked (s : FlatSystem) (c k : ℕ) (linear : List Point) (old new : Option Best) : Type 0 where
  pub sound : IsSound s c new
  pub keeps : (other : List Point) → AreLinearParts s c other → IsMet s old other → IsMet s new other
  pub covers : IsBarred s c k linear new

-- the same, of those choices besides whose part at the next node is among these
pub record HasTried (s : FlatSystem) (c k : ℕ) (linear tried : List Point) (old new : Option Best) : Type 0 where
  pub sound : IsSound s c new
  pub keeps : (other : List Point) → AreLinearParts s c other → IsMet s old other → IsMet s new other
  pub covers : (other : List Point) → AreLinearParts s c other → Agrees (all_nodes s) k linear other → Contains tried (part other k) → IsMet s new other

-- no offsets go with the first k parts
abbrev pub IsForbidden : FlatSystem → ℕ → List Point → Type 0
IsForbidden s k linear = (other : List Point) (offsets : List ℤ) → Agrees (all_nodes s) k linear other → AreOffsets s other offsets → ⊥

-- no schedule with the first k parts is shorter
abbrev pub IsBound : FlatSystem → ℕ → ℕ → List Point → ℕ → Type 0
IsBound s c k linear m = (other : List Point) (n : ℕ) → AreLinearParts s c other → Agrees (all_nodes s) k linear other → FitsIn s other n → m ≤ n

abbrev pub IsBounded : FlatSystem → ℕ → ℕ → List Point → Option ℕ → Type 0
IsBounded s c k linear None = IsForbidden s k linear
IsBounded s c k linear (Some m) = IsBound s c k linear m

-- a choice of this length comes before the best one, if one is known
abbrev pub IsAhead : FlatSystem → ℕ → List Point → Option Best → Type 0
IsAhead s n linear None = Unit {0}
IsAhead s n linear (Some best) = IsLess (joint_cost s n linear) (joint_cost s best.cycles best.parts.items)

-- what was spent and the rest are together above this price, by the broadcasts that are left and then by size
abbrev pub IsDearer : Price → Price → Price → Type 0
IsDearer spent rest price = (price.left < spent.left + rest.left) ⊎ ((price.left ≤ spent.left + rest.left) × (price.size < spent.size + rest.size))

-- choices no shorter than the estimate come behind the best one, if they cost no less than what was spent and the rest together
abbrev pub IsBehind : Estimate → Price → Option Best → Type 0
IsBehind estimate rest None = ⊥
IsBehind estimate rest (Some best) = (best.cycles < estimate.cycles) ⊎ ((estimate.cycles ≡ best.cycles) × IsDearer estimate.spent rest best.price)

-- no choice has offsets, or no choice comes before the best one
abbrev pub IsBest : FlatSystem → ℕ → Option Best → Type 0
IsBest s c best = IsSound s c best × ((other : List Point) → AreLinearParts s c other → IsMet s best other)
