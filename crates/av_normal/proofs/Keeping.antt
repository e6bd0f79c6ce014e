-- Parts that are kept or dropped one after the other.
use Rattle.std.proofs.Common.{List, [], ◌∷◌, ◌++◌, ℕ}
use Rattle.av_poly.specs.Points.{Has}
use Rattle.av_tree.specs.Points.{Point}
use Rattle.av_flat.specs.Trees.{Piece}
use Rattle.av_flat.specs.Pieces.{Part}
use Rattle.av_normal.specs.NormalForm.{IsNormalised, HasNormalSets, set_of, AreKeptOf, ended, dropped, kept}

-- one more part, without a point
pub dropped_last : (dim : ℕ) (p : Part) {ps : List Part} {qs : List Piece} → AreKeptOf dim ps qs → ((z : Point) → Has (set_of dim p) z → ⊥) → AreKeptOf dim (ps ++ p ∷ []) qs
dropped_last dim p ended e = dropped e ended
dropped_last dim p (dropped n rest) e = dropped n (dropped_last dim p rest e)
dropped_last dim p (kept z h n s rest) e = kept z h n s (dropped_last dim p rest e)

-- one more part, with a point
pub kept_last : (dim : ℕ) (p : Part) (q : Piece) {ps : List Part} {qs : List Piece} → AreKeptOf dim ps qs → (point : Point) → Has (set_of dim p) point → IsNormalised (set_of dim p) q.domain → HasNormalSets p.tree q.tree
    → AreKeptOf dim (ps ++ p ∷ []) (qs ++ q ∷ [])
kept_last dim p q ended point has normal same = kept point has normal same ended
kept_last dim p q (dropped n rest) point has normal same = dropped n (kept_last dim p q rest point has normal same)
kept_last dim p q (kept z h n s rest) point has normal same = kept z h n s (kept_last dim p q rest point has normal same)
