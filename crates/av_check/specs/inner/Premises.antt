-- What is known of a variable and of its kept pieces before it is tried. Only private contracts cite this.
use Rattle.std.specs.Prelude.{◌≡◌, ◌≤◌, All, List, [], ◌∷◌, map}
use Rattle.av_affine.specs.Numbers.{AtMost}
use Rattle.av_affine.specs.Forms.{IsWithinLimits}
use Rattle.av_poly.specs.Points.{Has}
use Rattle.av_tree.specs.Points.{Point}
use Rattle.av_flat.specs.Trees.{Variable, right_side}
use Rattle.av_flat.specs.Signatures.{Signature}
use Rattle.av_flat.specs.Counts.{count}
use Rattle.av_check.specs.Miscovered.{IsMiscoveredAt}
use Rattle.av_elim.specs.Extents.{IsOrdinary}
use Rattle.av_check.specs.inner.Coverage.{coverage}
use Rattle.av_check.specs.inner.Reachable.{IsReachableInside}

-- the domain is small, trees stand at its points, and as many words are there as kept pieces
pub record HasPremises (vs : List Signature) (v kept : Variable) : Type 0 where
  pub dim : v.domain.dim ≤ 4
  pub rows : All IsWithinLimits v.domain.rows
  pub small : (z : Point) → Has v.domain z → AtMost 4095 z
  pub sets : All (λ p. IsOrdinary v.domain.dim p.domain) kept.pieces
  pub stand : (z : Point) → Has v.domain z → All (λ p. IsReachableInside vs p z) v.pieces
  pub same : (z : Point) → Has v.domain z → count vs (right_side v) z ≡ coverage z (map (λ p. p.domain) kept.pieces)

abbrev pub HavePremises : List Signature → List Variable → List Variable → Type 0
HavePremises vs [] [] = Unit {0}
HavePremises vs (v ∷ xs) (w ∷ ys) = HasPremises vs v w × HavePremises vs xs ys
HavePremises vs _ _ = ⊥

-- no declared point of the variable is miscovered
abbrev pub HasNoneMiscovered : List Signature → Variable → Type 0
HasNoneMiscovered vs v = (z : Point) → IsMiscoveredAt vs v z → ⊥
