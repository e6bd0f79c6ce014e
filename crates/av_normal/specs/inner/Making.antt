-- Variables made into pieces step by step, and what is tried on the way. Only private contracts cite this.
use Rattle.std.specs.Prelude.{◌≡◌, ℕ, ℤ, ◌≤◌, List, [], ◌∷◌, ◌++◌, map, All}
use Rattle.av_affine.specs.declared.form.Form.{Form}
use Rattle.av_affine.specs.Forms.{IsWithinLimits}
use Rattle.av_poly.specs.Points.{Set, Has}
use Rattle.av_flat.specs.Trees.{Tree, Piece}
use Rattle.av_flat.specs.Signatures.{Signature}
use Rattle.av_flat.specs.Pieces.{Part, part, parts, with_rows, filled}
use Rattle.av_flat.specs.Quantities.{Measured, of_set, of_map, composed_maps, body_sets, piece_count}
use Rattle.av_normal.specs.declared.fault.NormalFault.{NormalFault}
use Rattle.av_normal.specs.NormalForm.{IsNormalised, set_of}
use Rattle.av_normal.specs.Searches.{AreNarrow, IsWide}
use Rattle.av_normal.specs.inner.UnderMaps.{IsReadable}
use Rattle.av_normal.specs.inner.ReductionSets.{IsFillable}

-- ---- what is tried, in its order

-- the composed maps of the pieces of an equation
abbrev pub maps_measured : List Piece → List Measured
maps_measured [] = []
maps_measured (e ∷ es) = map of_map (composed_maps [] e.tree) ++ maps_measured es

abbrev pub parts_measured : ℕ → List Part → List Measured
parts_measured dim [] = []
parts_measured dim (p ∷ ps) = of_set (set_of dim p) ∷ parts_measured dim ps

-- the sets of reductions, with the rows of their part
abbrev pub bodies_measured : List Part → List Measured
bodies_measured [] = []
bodies_measured (p ∷ ps) = map of_set (body_sets (filled p.rows p.tree)) ++ bodies_measured ps

-- what is still to be tried stands for all
pub record StandsFor (rest all : List Measured) : Type 0 where
  pub narrow : AreNarrow rest → AreNarrow all
  pub wide : (f : NormalFault) → IsWide rest f → IsWide all f

-- ---- parts, whose reductions are as they are in the equation

-- the part with these rows in front of its own
abbrev pub held : List Form → Part → Part
held rows p = part (rows ++ p.rows) p.tree

-- the parts of the pieces of an equation, with their rows behind these
abbrev pub held_parts : List Signature → List Form → List Piece → List Part
held_parts vs rows [] = []
held_parts vs rows (e ∷ es) = with_rows (rows ++ e.domain.rows) (parts vs [] e.tree) ++ held_parts vs rows es

-- the part with its rows in the sets of its reductions
abbrev pub filled_part : Part → Part
filled_part p = part p.rows (filled p.rows p.tree)

-- over a set, the one tree may stand where the other would: it is the same where the set has a point, and has the same bodies
pub record StandsIn (d : Set) (t u : Tree) : Type 0 where
  pub same : (z : List ℤ) → Has d z → u ≡ t
  pub bodies : (rows : List Form) → body_sets (filled rows u) ≡ body_sets (filled rows t)
  pub fillable : (n : ℕ) → IsFillable n t → IsFillable n u

-- the piece is this part, with normalised rows; where it has no point, its tree may be another
pub record IsMade (dim : ℕ) (p : Part) (q : Piece) : Type 0 where
  pub domain : IsNormalised (set_of dim p) q.domain
  pub tree : StandsIn q.domain p.tree q.tree
  pub small : All IsWithinLimits q.domain.rows

abbrev pub AreMade : ℕ → List Part → List Piece → Type 0
AreMade dim [] [] = Unit {0}
AreMade dim (p ∷ ps) (q ∷ qs) = IsMade dim p q × AreMade dim ps qs
AreMade dim _ _ = ⊥

-- the pieces of these parts stand behind the others
pub record AreAdded (dim : ℕ) (ps : List Part) (old new : List Piece) : Type 0 where
  pub added : List Piece
  pub is : new ≡ old ++ added
  pub made : AreMade dim ps added

-- ---- what is known of the pieces of well formed variables

-- a piece of an equation over these indices, whose tree can be taken apart
pub record IsParted (vs : List Signature) (dim : ℕ) (e : Piece) : Type 0 where
  pub dimension : e.domain.dim ≡ dim
  pub rows : All IsWithinLimits e.domain.rows
  pub readable : IsReadable vs [] e.tree
  pub few : piece_count e.tree ≤ 256

-- a piece whose reductions can take its rows
pub record IsHolder (q : Piece) : Type 0 where
  pub fillable : IsFillable q.domain.dim q.tree
  pub small : All IsWithinLimits q.domain.rows

-- ---- lists that grow

-- whatever the rest gives, behind what was made it is what all gives
abbrev pub Continues : {X Y : Type 0} → (List X → List Y → Type 0) → List X → List Y → List X → Type 0
Continues A all made rest = (ys : _) → A rest ys → A all (made ++ ys)

-- these parts are still to be taken; what was made of those before stands for all
pub record IsFilledTo (A : List Part → List Piece → Type 0) (dim : ℕ) (ps : List Part) (made later : List Piece) : Type 0 where
  pub rest : List Part
  pub are : AreMade dim rest later
  pub left : StandsFor (bodies_measured rest) (bodies_measured ps)
  pub done : Continues A (map filled_part ps) made (map filled_part rest)
