use Rattle.std.proofs.Common.{◌≡◌, ℕ, take}
use Rattle.std.specs.Prelude.{slice_get}
use Rattle.av_flat.specs.Trees.{FlatSystem}
use Rattle.av_flat.specs.Nodes.{nodes}
use Rattle.av_sched.specs.Order.{references_of}
use Rattle.av_sched.specs.Prices.{ArePricesAt}
use Rattle.av_sched.specs.inner.Ways.{ways_of}
use Rattle.av_sched.proofs.cost.prices_at.Given as goal

abbrev pub invariant-loop-part : goal.invariant-loop-part
invariant-loop-part l = (s : FlatSystem) (node : ℕ) → l.ways ≡ ways_of (references_of (slice_get (nodes s) node)) → ArePricesAt s node (take l.part-index l.parts) l.prices
