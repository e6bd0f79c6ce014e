-- Trees under dependences, with all that composing and taking rows at the image need. Only private contracts cite this.
use Rattle.std.specs.Prelude.{◌≡◌, ℕ, All, List, [], ◌∷◌, length, map, Option, Some, None, slice_get}
use Rattle.av_affine.specs.Forms.{IsWithinLimits}
use Rattle.av_affine.specs.declared.map.Map.{Map}
use Rattle.av_flat.specs.Trees.{Tree, Trees, reference, constant, binary, choice, restriction, cases, dependence, reduction, pick, none, more}
use Rattle.av_poly.specs.Points.{Set}
use Rattle.av_flat.specs.Signatures.{Signature}
use Rattle.av_flat.specs.WellFormed.{dimension_of}
use Rattle.av_flat.specs.Pieces.{composed, rows_of}
use Rattle.av_flat.specs.Quantities.{of_map, steps, steps_under, composed_maps_of_all, piece_count}
use Rattle.av_normal.specs.declared.fault.NormalFault.{NormalFault}
use Rattle.av_normal.specs.Searches.{AreNarrow, IsWide}

-- all maps as one, where there are any
abbrev pub composed_under : List Map → Option Map
composed_under [] = None
composed_under (d ∷ ds) = Some (composed d ds)

-- the map leads to the indices of the innermost one
abbrev pub LeadsTo : Map → List Map → Type 0
LeadsTo m [] = Unit {0}
LeadsTo m (d ∷ ds) = m.from ≡ length d.rows

-- each map leads to the next one's indices, and their numbers are within their limits
abbrev pub AreChained : List Map → Type 0
AreChained [] = Unit {0}
AreChained (m ∷ ds) = All IsWithinLimits m.rows × LeadsTo m ds × AreChained ds

abbrev mutual
  -- the maps of the tree are chained with those that it stands under
  pub StandsUnder : List Map → Tree → Type 0
  StandsUnder ds (reference place m) = AreChained (m ∷ ds)
  StandsUnder ds (constant n) = Unit {0}
  StandsUnder ds (binary s l r) = StandsUnder ds l × StandsUnder ds r
  StandsUnder ds (choice l c r x y) = StandsUnder ds l × StandsUnder ds r × StandsUnder ds x × StandsUnder ds y
  StandsUnder ds (restriction d t) = AreChained ds × StandsUnder ds t
  StandsUnder ds (cases ts) = StandUnder ds ts
  StandsUnder ds (dependence m t) = StandsUnder (m ∷ ds) t
  StandsUnder ds (reduction o m t set) = StandsUnder [] t
  StandsUnder ds (pick place choices n) = Unit {0}

  pub StandUnder : List Map → Trees → Type 0
  StandUnder ds none = Unit {0}
  StandUnder ds (more t ts) = StandsUnder ds t × StandUnder ds ts

-- what a loop over the outer maps keeps: whole stands for own, and the steps to come for all
pub record IsUnder (own : Map) (under : List Map) (whole : Map) (rest : List Map) : Type 0 where
  pub chained : AreChained (whole ∷ rest)
  pub same : composed whole rest ≡ composed own under
  pub narrow : AreNarrow (map of_map (steps whole rest)) → AreNarrow (map of_map (steps own under))
  pub first : (f : NormalFault) → IsWide (map of_map (steps whole rest)) f → IsWide (map of_map (steps own under)) f

-- what a loop over trees keeps: those to come stand for all
pub record AreUnder (ds : List Map) (all rest : Trees) : Type 0 where
  pub stand : StandUnder ds rest
  pub narrow : AreNarrow (map of_map (composed_maps_of_all ds rest)) → AreNarrow (map of_map (composed_maps_of_all ds all))
  pub first : (f : NormalFault) → IsWide (map of_map (composed_maps_of_all ds rest)) f → IsWide (map of_map (composed_maps_of_all ds all)) f

-- ---- what the pieces of a tree are made from

-- the set has the indices of the innermost map
abbrev pub FitsUnder : List Map → Set → Type 0
FitsUnder [] d = Unit {0}
FitsUnder (m ∷ ds) d = length m.rows ≡ d.dim

-- under a map the numbers of the set's rows are within their limits
abbrev pub IsSmallUnder : List Map → Set → Type 0
IsSmallUnder [] d = Unit {0}
IsSmallUnder (m ∷ ds) d = All IsWithinLimits d.rows

-- a restriction under maps: these compose within the limits, and lead to its indices
pub record IsRestricting (ds : List Map) (d : Set) : Type 0 where
  pub chained : AreChained ds
  pub narrow : AreNarrow (map of_map (steps_under ds))
  pub fits : FitsUnder ds d
  pub rows : IsSmallUnder ds d

-- a reference under maps: these compose within the limits, and lead to the indices of a variable that is there
pub record IsReading (vs : List Signature) (ds : List Map) (place : ℕ) (m : Map) : Type 0 where
  pub chained : AreChained (m ∷ ds)
  pub narrow : AreNarrow (map of_map (steps m ds))
  pub results : dimension_of (slice_get vs place) ≡ Some (length m.rows)
  pub rows : All IsWithinLimits (rows_of (slice_get vs place))

abbrev mutual
  -- each reference and restriction is so, and a body has one piece
  pub IsReadable : List Signature → List Map → Tree → Type 0
  IsReadable vs ds (reference place m) = IsReading vs ds place m
  IsReadable vs ds (constant n) = Unit {0}
  IsReadable vs ds (binary s l r) = IsReadable vs ds l × IsReadable vs ds r
  IsReadable vs ds (choice l c r x y) = IsReadable vs ds l × IsReadable vs ds r × IsReadable vs ds x × IsReadable vs ds y
  IsReadable vs ds (restriction d t) = IsRestricting ds d × IsReadable vs ds t
  IsReadable vs ds (cases ts) = AreReadable vs ds ts
  IsReadable vs ds (dependence m t) = IsReadable vs (m ∷ ds) t
  IsReadable vs ds (reduction o m t set) = (piece_count t ≡ 1) × IsReadable vs [] t
  IsReadable vs ds (pick place choices n) = Unit {0}

  pub AreReadable : List Signature → List Map → Trees → Type 0
  AreReadable vs ds none = Unit {0}
  AreReadable vs ds (more t ts) = IsReadable vs ds t × AreReadable vs ds ts
