-- The boxes of the declared domains of variables, and the first that is unbounded or large. Only private contracts cite this.
use Rattle.std.specs.Prelude.{◌≡◌, ◌≤◌, List, length, Option, Some, None}
use Rattle.av_affine.specs.declared.form.Form.{Form}
use Rattle.av_poly.specs.declared.poly.Bounds.{Bounds}
use Rattle.av_poly.specs.Normal.{AreNormalised}
use Rattle.av_tree.specs.Trees.{Text}
use Rattle.av_flat.specs.Trees.{Variable}
use Rattle.av_flat.specs.Sets.{IsUnbounded}
use Rattle.av_flat.specs.Quantities.{of_set}
use Rattle.av_normal.specs.declared.fault.NormalFault.{NormalFault}
use Rattle.av_normal.specs.declared.fault.NormalFault.TheVariants as fault
use Rattle.av_normal.specs.Pairwise.{IsFirstOf}
use Rattle.av_normal.specs.BoxLimits.{IsSmallBox}
use Rattle.av_normal.specs.Extents.{IsExtent, IsOverBounds}
use Rattle.av_normal.specs.Searches.{IsNarrow}

-- at most 4 indices, and no quantity above a limit
abbrev pub HasNarrowDomain : Variable → Type 0
HasNarrowDomain v = (v.domain.dim ≤ 4) × IsNarrow (of_set v.domain)

-- as many bounds as a point may have entries
abbrev pub HasFourEntries : Option Bounds → Type 0
HasFourEntries None = Unit {0}
HasFourEntries (Some b) = (length b.low ≡ 4) × (length b.high ≡ 4)

-- the bounds of the domain's normalised rows, or none where these have none
abbrev pub IsDeclaredExtent : Variable → Option Bounds → Type 0
IsDeclaredExtent v extent = (rows : List Form) × AreNormalised v.domain.dim v.domain.rows rows × IsExtent (record { dim = v.domain.dim; rows = rows }) extent × HasFourEntries extent

-- ---- ends

abbrev pub HasEnd : Variable → Type 0
HasEnd v = IsUnbounded v.domain → ⊥

-- the domain is unbounded, and the variable has this name
abbrev pub IsWithoutEnd : Text → Variable → Type 0
IsWithoutEnd name v = (name ≡ v.name) × IsUnbounded v.domain

-- the fault is of the first unbounded variable, or out of memory
abbrev pub IsEndless : List Variable → NormalFault → Type 0
IsEndless vs (fault.Unbounded name) = IsFirstOf HasEnd (IsWithoutEnd name) vs
IsEndless vs (fault.Pieces n) = ⊥
IsEndless vs (fault.Limit kind n) = ⊥
IsEndless vs fault.Memory = Unit {0}

-- the fault is of this variable, or out of memory
abbrev pub IsEndlessOne : Variable → NormalFault → Type 0
IsEndlessOne v (fault.Unbounded name) = IsWithoutEnd name v
IsEndlessOne v (fault.Pieces n) = ⊥
IsEndlessOne v (fault.Limit kind n) = ⊥
IsEndlessOne v fault.Memory = Unit {0}

-- ---- boxes

-- a box within its limits, or none
abbrev pub IsSmallExtent : Option Bounds → Type 0
IsSmallExtent None = Unit {0}
IsSmallExtent (Some b) = IsSmallBox b

-- a box above a limit, of which the fault tells
abbrev pub IsLargeExtent : NormalFault → Option Bounds → Type 0
IsLargeExtent f None = ⊥
IsLargeExtent f (Some b) = IsOverBounds b f
