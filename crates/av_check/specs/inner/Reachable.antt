-- Where trees stand under maps, and all that is needed to find their points by composed maps. Only private contracts cite
-- this.
use Rattle.std.specs.Prelude.{◌≡◌, ◌≤◌, All, List, [], ◌∷◌, length}
use Rattle.av_affine.specs.declared.map.Map.{Map}
use Rattle.av_affine.specs.Forms.{IsWithinLimits}
use Rattle.av_affine.specs.Maps.{image}
use Rattle.av_tree.specs.Points.{Point}
use Rattle.av_flat.specs.Trees.{Tree, Trees, Piece, reference, constant, binary, choice, restriction, cases, dependence, reduction, pick, none, more}
use Rattle.av_flat.specs.Signatures.{Signature}
use Rattle.av_flat.specs.WellFormed.{Leads}
use Rattle.av_flat.specs.Pieces.{composed}
use Rattle.av_flat.specs.Quantities.{steps}

-- the point at which a tree stands under maps, of which the innermost comes first
abbrev pub reach : List Map → Point → Point
reach [] z = z
reach (d ∷ ds) z = image d.rows (reach ds z)

abbrev pub HasSmallForms : Map → Type 0
HasSmallForms m = All IsWithinLimits m.rows

-- each map leads from the dimension before it, and none has more than four indices
abbrev pub IsChain : List Map → Point → Type 0
IsChain [] z = length z ≤ 4
IsChain (d ∷ ds) z = (d.from ≡ length (reach ds z)) × (length d.rows ≤ 4) × IsChain ds z

-- the map has an image under the maps that it stands under, and all maps that are composed on the way are within limits
pub record IsImage (m : Map) (ds : List Map) (z : Point) : Type 0 where
  pub from : m.from ≡ length (reach ds z)
  pub chain : IsChain ds z
  pub own : HasSmallForms m
  pub under : All HasSmallForms ds
  pub composed : All HasSmallForms (steps m ds)

-- on the way outwards the whole stands for the map
pub record IsOnTheWay (m : Map) (ds : List Map) (z : Point) (whole : Map) (rest : List Map) : Type 0 where
  pub stands : IsImage whole rest z
  pub same : composed whole rest ≡ composed m ds

abbrev pub IsReached : List Map → Point → Type 0
IsReached [] z = length z ≤ 4
IsReached (d ∷ ds) z = IsImage d ds z

abbrev mutual
  -- each reference leads to a variable, and each point can be reached
  pub IsReachable : List Signature → List Map → Tree → Point → Type 0
  IsReachable vs ds (reference place m) z = IsImage m ds z × Leads vs (length (reach ds z)) m place
  IsReachable vs ds (constant n) z = Unit {0}
  IsReachable vs ds (binary s l r) z = IsReachable vs ds l z × IsReachable vs ds r z
  IsReachable vs ds (choice l c r x y) z = IsReachable vs ds l z × IsReachable vs ds r z × IsReachable vs ds x z × IsReachable vs ds y z
  IsReachable vs ds (restriction d t) z = IsReached ds z × (length (reach ds z) ≡ d.dim) × IsReachable vs ds t z
  IsReachable vs ds (cases ts) z = AreReachable vs ds ts z
  IsReachable vs ds (dependence m t) z = IsReachable vs (m ∷ ds) t z
  IsReachable vs ds (reduction o m t set) z = Unit {0}
  IsReachable vs ds (pick place choices n) z = Unit {0}

  pub AreReachable : List Signature → List Map → Trees → Point → Type 0
  AreReachable vs ds none z = Unit {0}
  AreReachable vs ds (more t ts) z = IsReachable vs ds t z × AreReachable vs ds ts z

-- the same of a piece
abbrev pub IsReachableInside : List Signature → Piece → Point → Type 0
IsReachableInside vs p z = (length z ≡ p.domain.dim) × IsReachable vs [] p.tree z
