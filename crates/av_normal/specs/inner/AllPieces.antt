-- Pieces before any is dropped, with normalised rows. Only private contracts cite this.
use Rattle.std.specs.Prelude.{◌≡◌, ℕ, ℤ, List, [], ◌∷◌, All}
use Rattle.av_affine.specs.Forms.{IsWithinLimits}
use Rattle.av_poly.specs.Points.{Has}
use Rattle.av_flat.specs.Trees.{Piece, Variable, FlatSystem}
use Rattle.av_flat.specs.Signatures.{Signature}
use Rattle.av_flat.specs.Pieces.{Part, pieces_of}
use Rattle.av_flat.specs.Quantities.{HasWideSets}
use Rattle.av_normal.specs.declared.fault.NormalFault.{NormalFault}
use Rattle.av_normal.specs.declared.fault.NormalFault.TheVariants as fault
use Rattle.av_normal.specs.NormalForm.{IsNormalised, HasNormalSets, set_of}

-- the piece is this part, with normalised rows; where it has no point, its tree may be another
pub record IsPieceOfPart (dim : ℕ) (p : Part) (q : Piece) : Type 0 where
  pub domain : IsNormalised (set_of dim p) q.domain
  pub tree : (z : List ℤ) → Has q.domain z → HasNormalSets p.tree q.tree
  pub small : All IsWithinLimits q.domain.rows

abbrev pub ArePiecesOfParts : ℕ → List Part → List Piece → Type 0
ArePiecesOfParts dim [] [] = Unit {0}
ArePiecesOfParts dim (p ∷ ps) (q ∷ qs) = IsPieceOfPart dim p q × ArePiecesOfParts dim ps qs
ArePiecesOfParts dim _ _ = ⊥

-- w is v with its pieces before any is dropped
pub record HasAllPieces (vs : List Signature) (v w : Variable) : Type 0 where
  pub name : w.name ≡ v.name
  pub kind : w.kind ≡ v.kind
  pub width : w.width ≡ v.width
  pub domain : w.domain ≡ v.domain
  pub pieces : ArePiecesOfParts v.domain.dim (pieces_of vs v) w.pieces

abbrev pub HaveAllPieces : List Signature → List Variable → List Variable → Type 0
HaveAllPieces vs [] [] = Unit {0}
HaveAllPieces vs (v ∷ variables) (w ∷ others) = HasAllPieces vs v w × HaveAllPieces vs variables others
HaveAllPieces vs _ _ = ⊥

-- the fault is of the first set or map of the system that is above a limit, or out of memory
abbrev pub IsWideIn : FlatSystem → NormalFault → Type 0
IsWideIn s (fault.Limit kind n) = HasWideSets s kind n
IsWideIn s (fault.Pieces n) = ⊥
IsWideIn s (fault.Unbounded name) = ⊥
IsWideIn s fault.Memory = Unit {0}
