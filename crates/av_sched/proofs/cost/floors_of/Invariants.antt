use Rattle.std.proofs.Common.{ℕ, List, drop, length, ◌-◌}
use Rattle.av_tree.specs.Points.{Point}
use Rattle.av_flat.specs.Trees.{FlatSystem}
use Rattle.av_sched.specs.Prices.{AreFloorsTo, IsFloor}
use Rattle.av_sched.specs.inner.Walk.{AreAllPriced}
use Rattle.av_sched.proofs.cost.floors_of.Given as goal

abbrev pub invariant-loop-k : goal.invariant-loop-k
invariant-loop-k l = record {
  all : (s : FlatSystem) (c : ℕ) (component : List ℕ) (lists : List (List Point)) → AreAllPriced s c component lists l.prices → AreFloorsTo s c component l.k l.floors.items;
  last : (s : FlatSystem) (c : ℕ) (component : List ℕ) (lists : List (List Point)) → AreAllPriced s c component lists l.prices → IsFloor s c (drop (length component - l.k) component) l.floor;
}
