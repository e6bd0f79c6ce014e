-- Pieces of which those without a point are left out. Only private contracts cite this.
use Rattle.std.specs.Prelude.{◌≡◌, ◌≤◌, ℤ, List, [], ◌∷◌, All, Option, Some, None}
use Rattle.std.specs.List.{AllByRecursion}
use Rattle.av_affine.specs.Numbers.{AtMost}
use Rattle.av_affine.specs.Forms.{IsWithinLimits}
use Rattle.av_poly.specs.declared.poly.Bounds.{Bounds}
use Rattle.av_poly.specs.Points.{Has}
use Rattle.av_poly.specs.Search.{IsBetween}
use Rattle.av_flat.specs.Trees.{Piece, Variable}

-- the piece has no point
abbrev pub IsEmpty : Piece → Type 0
IsEmpty q = (z : List ℤ) → Has q.domain z → ⊥

-- those that have a point, in their order
pub data AreNonemptyPieces : List Piece → List Piece → Type 0 where
  nothing : AreNonemptyPieces [] []
  left_out : {q : Piece} {qs rs : List Piece} → IsEmpty q → AreNonemptyPieces qs rs → AreNonemptyPieces (q ∷ qs) rs
  stays : {q : Piece} {qs rs : List Piece} → (z : List ℤ) → Has q.domain z → AreNonemptyPieces qs rs → AreNonemptyPieces (q ∷ qs) (q ∷ rs)

-- w is v with those of its pieces that have a point
pub record HasNonemptyPieces (v w : Variable) : Type 0 where
  pub name : w.name ≡ v.name
  pub kind : w.kind ≡ v.kind
  pub width : w.width ≡ v.width
  pub domain : w.domain ≡ v.domain
  pub pieces : AreNonemptyPieces v.pieces w.pieces

-- a piece without a point outside the bounds
pub record IsInside (b : Bounds) (q : Piece) : Type 0 where
  pub dim : q.domain.dim ≤ 4
  pub rows : All IsWithinLimits q.domain.rows
  pub between : (z : List ℤ) → Has q.domain z → IsBetween b.low b.high z

-- small bounds, outside of which no piece has a point; or no piece has a point
abbrev pub AreHeld : List Piece → Option Bounds → Type 0
AreHeld qs None = AllByRecursion IsEmpty qs
AreHeld qs (Some b) = AtMost 4095 b.low × AtMost 4095 b.high × AllByRecursion (IsInside b) qs

abbrev pub IsHeld : Variable → Option Bounds → Type 0
IsHeld v e = AreHeld v.pieces e
