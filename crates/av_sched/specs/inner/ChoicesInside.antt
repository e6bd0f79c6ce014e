-- What the choices of a component keep. Only private contracts cite this.
use Rattle.std.specs.Prelude.{◌<◌, length, All, AllPairs}
use Rattle.av_flat.specs.Trees.{view_system}
use Rattle.av_flat.specs.Nodes.{nodes}
use Rattle.av_flat.specs.Chained.{IsChained}
use Rattle.av_flat.specs.Proper.{IsProper}
use Rattle.av_depend.specs.Edges.{AreEdgesOf}
use Rattle.av_sched.specs.declared.choices.Choices.TheInside.{Inside}
use Rattle.av_sched.specs.Parts.{AreAllParts}
use Rattle.av_sched.specs.Prices.{ArePricesTo, AreFloorsTo}
use Rattle.av_sched.specs.inner.Walks.{Choices}

abbrev pub choices_of : Inside → Choices
choices_of d = record { flat = d.flat.now; edges = d.edges.now; size = d.reach.size; component = d.component.now }

-- the system's edges, some of its nodes in order, and what is known of these
pub record AreKnown (d : Inside) : Type 0 where
  pub chained : IsChained (view_system d.flat.now)
  pub proper : IsProper (view_system d.flat.now)
  pub edges : AreEdgesOf (view_system d.flat.now) d.edges.now
  pub within : All (λ n. n < length (nodes (view_system d.flat.now))) d.component.now
  pub apart : AllPairs (λ m n. m < n) d.component.now
  pub lists : AreAllParts (view_system d.flat.now) d.reach.size d.component.now d.plan.lists
  pub prices : ArePricesTo (view_system d.flat.now) d.component.now (length d.component.now) d.plan.lists d.plan.prices
  pub floors : AreFloorsTo (view_system d.flat.now) d.reach.size d.component.now (length d.component.now) d.plan.floors.items
