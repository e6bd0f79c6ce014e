-- Edges put behind others, one for each site that has a pair.
use Rattle.std.specs.Prelude.{◌≡◌, ℕ, List, [], ◌∷◌, ◌++◌, map, All, IsTrue, Some, slice_get}
use Rattle.av_affine.specs.declared.map.Map.{Map}
use Rattle.av_poly.specs.Points.{Set}
use Rattle.av_flat.specs.declared.tree.Choice.{Choice}
use Rattle.av_flat.specs.Trees.{Tree, Variable, FlatSystem, reference, pick}
use Rattle.av_flat.specs.Signatures.{is_computed}
use Rattle.av_depend.specs.declared.edge.Edge.{Edge}
use Rattle.av_depend.specs.declared.site.ReadingSet.{ReadingSet}
use Rattle.av_depend.specs.Sites.{Site, both}
use Rattle.av_depend.specs.Edges.{AreGenerators, AreEdges}
use Rattle.av_depend.specs.AllPoints.{AreAllPoints}
use Rattle.av_depend.specs.SetPoints.{IsPointOf}

-- a set with all of its points, and its generators
pub record IsReadingSet (r : ReadingSet) : Type 0 where
  pub small : All (IsPointOf r.set) r.points
  pub points : AreAllPoints r.set r.points
  pub generators : AreGenerators r.set r.generators

-- a computed variable stands at the place
pub record IsComputedAt (s : FlatSystem) (place : ℕ) : Type 0 where
  pub variable : Variable
  pub is : slice_get s.variables place ≡ Some variable
  pub computed : IsTrue (is_computed variable.kind)

abbrev pub site_at : ℕ → ℕ → Map → Set → Site
site_at node place m set = record { node = node; place = place; map = m; set = set }

-- the site of a choice of a pick
abbrev pub site_of : ℕ → ℕ → Set → Choice → Site
site_of node place set c = record { node = node; place = place; map = c.map; set = both set c.set }

-- the sites of a reference or a pick
abbrev pub sites_at : ℕ → Set → Tree → List Site
sites_at node set (reference place m) = site_at node place m set ∷ []
sites_at node set (pick place choices w) = map (site_of node place set) choices
sites_at node set _ = []

-- edges have been put behind the old ones, one for each of the sites that has a pair
pub record HasAdded (s : FlatSystem) (places : List Site) (old new : List Edge) : Type 0 where
  pub added : List Edge
  pub new_is : new ≡ old ++ added
  pub are : AreEdges s places added
