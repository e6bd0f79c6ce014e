-- The nodes of a system and their pieces, one after the other.
use Rattle.std.proofs.Common.{◌≡◌, ℕ, ◌+◌, ◌≤◌, Some, List, [], ◌∷◌, ◌++◌, length, take, refl, sym, ap, subst, ◌∙◌, arith, zero-add, All}
use Rattle.std.specs.Prelude.{slice_get}
use Rattle.std.proofs.lemmas.List.Folds.{flat_map-map}
use Rattle.std.specs.List.{flat_map}
use Rattle.std.proofs.lemmas.List.{length-take-le}
use Rattle.std.proofs.lemmas.Option.{slice_get_within, get_or_from_slice_get}
use Rattle.av_poly.specs.declared.poly.Bounds.{Bounds}
use Rattle.av_poly.specs.Points.{Set, Has}
use Rattle.av_tree.specs.Points.{Point}
use Rattle.av_flat.specs.declared.flat.Var.{Var}
use Rattle.av_flat.specs.declared.flat.Piece.{Piece as PieceMade}
use Rattle.av_flat.specs.Trees.{Piece, Variable, FlatSystem, view, view_piece, view_variable}
use Rattle.av_flat.specs.Signatures.{signatures}
use Rattle.av_flat.specs.WellFormed.{Fits}
use Rattle.av_flat.specs.Chained.{IsChainedVariable, IsChainedPiece}
use Rattle.av_flat.specs.Nodes.{nodes}
use Rattle.av_flat.proofs.Sets.{has_is}
use Rattle.av_depend.specs.declared.edge.Edge.{Edge}
use Rattle.av_depend.specs.Sites.{Site, sites_in, sites_of, sites_from, sites}
use Rattle.av_depend.specs.Edges.{AreEdgesOf}
use Rattle.av_elim.specs.Extents.{IsInside}
use Rattle.av_depend.specs.inner.Adding.{HasAdded}
use Rattle.av_depend.proofs.Adds.{added_both, added_are, sites_from_more}
use Rattle.av_base.proofs.Lists.{next_taken, take_whole}

-- ---- pieces

-- the sites of a piece as it lies in memory
abbrev pub sites_of_piece : ℕ → PieceMade → List Site
sites_of_piece n p = sites_in n p.domain (view p.tree)

pub sites_of_pieces : (n : ℕ) (x : Var) → sites_of n (view_variable x) ≡ flat_map (sites_of_piece n) x.pieces
sites_of_pieces n x = flat_map-map (λ (p : Piece). sites_in n p.domain p.tree) view_piece x.pieces

-- a variable without points has no piece
pub no_pieces : (s : FlatSystem) (v : Variable) → IsChainedVariable s v → ((z : Point) → Has v.domain z → ⊥) → v.pieces ≡ []
no_pieces s v h none = go v.pieces h.pieces
  where
    go : (ps : List Piece) → All (IsChainedPiece (signatures s) v) ps → ps ≡ []
    go [] k = refl
    go (p ∷ ps) k = (let q = k 0 p (omega arith) in absurd (none q.point ((has_is v.domain q.point).0 (q.within q.point q.has_point))))

pub no_sites : (n : ℕ) (v : Variable) → v.pieces ≡ [] → sites_of n v ≡ []
no_sites n v e = ap (λ (ps : List Piece). flat_map (λ p. sites_in n p.domain p.tree) ps) e

pub piece_inside : (s : FlatSystem) (v : Variable) (p : Piece) (extent : Bounds) → IsChainedPiece (signatures s) v p → IsInside v.domain.dim extent v.domain → IsInside p.domain.dim extent p.domain
piece_inside s v p extent h inside = record {
  dim_is = refl;
  between = λ z k. inside.between z ((has_is v.domain z).0 (h.within z ((has_is p.domain z).1 k)));
}

pub piece_fits : (s : FlatSystem) (v : Variable) (p : Piece) (set : Set) → IsChainedPiece (signatures s) v p → set ≡ p.domain → Fits (signatures s) set.dim p.tree
piece_fits s v p set h e = subst (λ (n : ℕ). Fits (signatures s) n p.tree) (sym (ap (λ (d : Set). d.dim) e ∙ h.dimension)) h.tree.fits

-- ---- nodes

-- the edges of one more node
pub walked_more : (s : FlatSystem) (n : ℕ) (v : Variable) (old new : List Edge) → slice_get (nodes s) n ≡ Some v → HasAdded s (sites_from 0 (take n (nodes s))) [] old → HasAdded s (sites_of n v) old new
    → HasAdded s (sites_from 0 (take (n + 1) (nodes s))) [] new
walked_more s n v old new e h a =
    let ns = nodes s in
    let l = slice_get_within ns n v e in
    let more = next_taken ns n v l (sym (get_or_from_slice_get ns n v v e)) in
    let size : length (take n ns) ≡ n = length-take-le n ns (omega (arith, l)) in
    subst (λ (sites : List Site). HasAdded s sites [] new)
    (sym (ap (sites_from 0) more ∙ sites_from_more 0 (take n ns) v ∙ ap (λ (i : ℕ). sites_from 0 (take n ns) ++ sites_of i v) (zero-add (length (take n ns)) ∙ size)))
    (added_both s (sites_from 0 (take n ns)) (sites_of n v) [] old new h a)

pub walked_whole : (s : FlatSystem) (n : ℕ) (edges : List Edge) → length (nodes s) ≤ n → HasAdded s (sites_from 0 (take n (nodes s))) [] edges → AreEdgesOf s edges
walked_whole s n edges l h = added_are s (sites s) edges (subst (λ (vs : List Variable). HasAdded s (sites_from 0 vs) [] edges) (take_whole (nodes s) n l) h)
