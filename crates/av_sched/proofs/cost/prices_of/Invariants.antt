use Rattle.av_flat.specs.Trees.{view_system}
use Rattle.av_sched.specs.Prices.{ArePricesTo}
use Rattle.av_sched.proofs.cost.prices_of.Given as goal

abbrev pub invariant-loop-k : goal.invariant-loop-k
invariant-loop-k l = ArePricesTo (view_system l.fn.flat) l.component l.k l.lists l.prices
