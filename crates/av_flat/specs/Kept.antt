-- Kept systems: each piece has a point and reads declared points alone, and no case, restriction or dependence is left.
use Rattle.std.specs.Prelude.{◌≡◌, false, All, IsTrue, List, ◌++◌}
use Rattle.av_affine.specs.Maps.{image}
use Rattle.av_poly.specs.Points.{Set}
use Rattle.av_poly.specs.Normal.{AreNormalised}
use Rattle.av_poly.specs.Preimages.{rows_before}
use Rattle.av_tree.specs.Points.{Point}
use Rattle.av_flat.specs.Trees.{Tree, Piece, Variable, FlatSystem, reference, binary, choice, reduction}
use Rattle.av_flat.specs.Points.{has}
use Rattle.av_flat.specs.Signatures.{Signature, signatures, is_declared_at}
use Rattle.av_flat.specs.Sets.{HasFewRows, IsBounded}
use Rattle.av_flat.specs.WellFormed.{IsWellFormed, EachPart, is_restriction, is_case, is_dependence}

-- no case, restriction or dependence
abbrev pub IsPlain : Tree → Type 0
IsPlain t = (is_case t ≡ false) × (is_restriction t ≡ false) × (is_dependence t ≡ false)

-- of a plain tree: at each point of the set a reference reads a declared point, and so it does in a body at each point
-- of the reduction's set
abbrev pub ReadsDeclared : List Signature → Set → Tree → Type 0
ReadsDeclared vs set (reference place m) = (z : Point) → IsTrue (has set z) → IsTrue (is_declared_at vs place (image m.rows z))
ReadsDeclared vs set (binary s l r) = ReadsDeclared vs set l × ReadsDeclared vs set r
ReadsDeclared vs set (choice l c r x y) = ReadsDeclared vs set l × ReadsDeclared vs set r × ReadsDeclared vs set x × ReadsDeclared vs set y
ReadsDeclared vs set (reduction o m t inner) = ReadsDeclared vs inner t
ReadsDeclared vs set _ = Unit {0}

-- the set of a reduction has few rows
abbrev pub HasFewOwnRows : Tree → Type 0
HasFewOwnRows (reduction o m t set) = HasFewRows set
HasFewOwnRows _ = Unit {0}

-- the set of each reduction lies over that of what holds it, which is the piece's or that of the reduction around it: with
-- the holder's rows at the kept indices put before its own, its normalised rows are the same
abbrev pub LiesOver : Set → Tree → Type 0
LiesOver holder (binary s l r) = LiesOver holder l × LiesOver holder r
LiesOver holder (choice l c r x y) = LiesOver holder l × LiesOver holder r × LiesOver holder x × LiesOver holder y
LiesOver holder (reduction o m t set) = AreNormalised set.dim (rows_before m holder.rows ++ set.rows) set.rows × LiesOver set t
LiesOver holder _ = Unit {0}

pub record IsKeptPiece (vs : List Signature) (v : Variable) (p : Piece) : Type 0 where
  pub plain : EachPart IsPlain p.tree
  pub within : (z : Point) → IsTrue (has p.domain z) → IsTrue (has v.domain z)
  pub point : Point
  pub has_point : IsTrue (has p.domain point)
  pub reads : ReadsDeclared vs p.domain p.tree
  pub few : HasFewRows p.domain
  pub few_inside : EachPart HasFewOwnRows p.tree
  pub over : LiesOver p.domain p.tree

pub record IsKeptVariable (vs : List Signature) (v : Variable) : Type 0 where
  pub few : HasFewRows v.domain
  pub bounded : IsBounded v.domain
  pub pieces : All (IsKeptPiece vs v) v.pieces

pub record IsKept (s : FlatSystem) : Type 0 where
  pub well_formed : IsWellFormed s
  pub each : All (IsKeptVariable (signatures s)) s.variables
