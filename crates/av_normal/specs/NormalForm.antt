-- What a system is brought to: of each variable those pieces that have a point, in their order, with normalised rows in each
-- piece and in the set of each reduction (Mauras 1989; Wilde's reports on Alpha).
use Rattle.std.specs.Prelude.{◌≡◌, ℕ, List, [], ◌∷◌}
use Rattle.av_poly.specs.Points.{Set, Has}
use Rattle.av_poly.specs.Normal.{AreNormalised}
use Rattle.av_tree.specs.Points.{Point}
use Rattle.av_flat.specs.Trees.{Tree, Piece, Variable, FlatSystem, reference, constant, binary, choice, reduction}
use Rattle.av_flat.specs.Signatures.{Signature, signatures}
use Rattle.av_flat.specs.Pieces.{Part, pieces_of}

-- the same indices, and normalised rows
pub record IsNormalised (set normalised : Set) : Type 0 where
  pub dim : normalised.dim ≡ set.dim
  pub rows : AreNormalised set.dim set.rows normalised.rows

-- the same tree, with normalised rows in the set of each reduction
abbrev pub HasNormalSets : Tree → Tree → Type 0
HasNormalSets (reference place m) (reference q n) = (q ≡ place) × (n ≡ m)
HasNormalSets (constant n) (constant k) = k ≡ n
HasNormalSets (binary s l r) (binary t a b) = (t ≡ s) × HasNormalSets l a × HasNormalSets r b
HasNormalSets (choice l c r x y) (choice a d b v w) = (d ≡ c) × HasNormalSets l a × HasNormalSets r b × HasNormalSets x v × HasNormalSets y w
HasNormalSets (reduction o m t set) (reduction p n u inner) = (p ≡ o) × (n ≡ m) × HasNormalSets t u × IsNormalised set inner
HasNormalSets _ _ = ⊥

abbrev pub set_of : ℕ → Part → Set
set_of dim p = record { dim = dim; rows = p.rows }

-- the parts that have a point are these pieces, in their order
pub data AreKeptOf (dim : ℕ) : List Part → List Piece → Type 0 where
  ended : AreKeptOf dim [] []
  dropped : {p : Part} {ps : List Part} {qs : List Piece} → ((z : Point) → Has (set_of dim p) z → ⊥) → AreKeptOf dim ps qs → AreKeptOf dim (p ∷ ps) qs
  kept : {p : Part} {q : Piece} {ps : List Part} {qs : List Piece} → (z : Point) → Has (set_of dim p) z → IsNormalised (set_of dim p) q.domain → HasNormalSets p.tree q.tree
      → AreKeptOf dim ps qs → AreKeptOf dim (p ∷ ps) (q ∷ qs)

pub record IsNormalVariable (vs : List Signature) (v w : Variable) : Type 0 where
  pub name : w.name ≡ v.name
  pub kind : w.kind ≡ v.kind
  pub width : w.width ≡ v.width
  pub domain : w.domain ≡ v.domain
  pub pieces : AreKeptOf v.domain.dim (pieces_of vs v) w.pieces

abbrev pub AreNormalVariables : List Signature → List Variable → List Variable → Type 0
AreNormalVariables vs [] [] = Unit {0}
AreNormalVariables vs (v ∷ variables) (w ∷ others) = IsNormalVariable vs v w × AreNormalVariables vs variables others
AreNormalVariables vs _ _ = ⊥

-- t is what s is brought to
pub record IsNormalForm (s t : FlatSystem) : Type 0 where
  pub width : t.width ≡ s.width
  pub variables : AreNormalVariables (signatures s) s.variables t.variables
