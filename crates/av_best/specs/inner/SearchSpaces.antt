-- What a search through the choices of all nodes together is over. Only private contracts cite this.
use Rattle.std.specs.Prelude.{◌≡◌, ◌≤◌, length}
use Rattle.av_flat.specs.Trees.{FlatSystem, view_system}
use Rattle.av_flat.specs.Chained.{IsChained}
use Rattle.av_flat.specs.Proper.{IsProper}
use Rattle.av_depend.specs.Edges.{AreEdgesOf}
use Rattle.av_sched.specs.Parts.{AreAllParts}
use Rattle.av_sched.specs.Prices.{ArePricesTo, AreFloorsTo}
use Rattle.av_best.specs.declared.space.SearchSpace.{SearchSpace}
use Rattle.av_best.specs.Least.{all_nodes}
use Rattle.av_best.specs.inner.Spans.{AreSpansTo}

abbrev pub system_of : SearchSpace → FlatSystem
system_of space = view_system space.flat.now

-- a proper system with its edges and all its nodes, and what each of them can have in the box
pub record IsSearchSpace (space : SearchSpace) : Type 0 where
  pub chained : IsChained (system_of space)
  pub proper : IsProper (system_of space)
  pub edges : AreEdgesOf (system_of space) space.edges.now
  pub nodes : space.nodes.now ≡ all_nodes (system_of space)
  pub few : length space.nodes.now ≤ 1073741824
  pub lists : AreAllParts (system_of space) space.reach.size space.nodes.now space.plan.now.lists
  pub prices : ArePricesTo (system_of space) space.nodes.now (length space.nodes.now) space.plan.now.lists space.plan.now.prices
  pub floors : AreFloorsTo (system_of space) space.reach.size space.nodes.now (length space.nodes.now) space.plan.now.floors.items
  pub table : AreSpansTo (system_of space) (length space.nodes.now) space.plan.now.lists space.table.now
