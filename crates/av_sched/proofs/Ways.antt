-- The directions along which references read one point, and references of chained systems.
use Rattle.std.proofs.Common.{◌≡◌, ℕ, ◌≤◌, List, [], ◌∷◌, ◌++◌, map, get_or, refl, ap, ◌∙◌, arith, All}
use Rattle.std.specs.Prelude.{filter, Contains}
use Rattle.std.specs.List.{flat_map}
use Rattle.std.proofs.lemmas.List.Elements.{All-map, All-contains, Contains-get_or, filter-append}
use Rattle.std.proofs.lemmas.List.{map-append}
use Rattle.av_affine.specs.Numbers.{AtMost}
use Rattle.av_flat.specs.declared.flat.Piece.{Piece as PieceMade}
use Rattle.av_flat.specs.declared.flat.Var.{Var}
use Rattle.av_base.proofs.Among.{among_map}
use Rattle.av_flat.specs.Trees.{view, view_piece, view_variable, Tree, Piece, Variable, FlatSystem, reference, constant, binary, choice, restriction, cases, dependence, reduction, pick}
use Rattle.av_flat.specs.Signatures.{Signature, signatures}
use Rattle.av_flat.specs.WellFormed.{Fits}
use Rattle.av_flat.specs.Chained.{IsChainedVariable, IsChainedPiece}
use Rattle.av_flat.specs.Broadcasts.{Reference, references, along, is_broadcast}
use Rattle.av_flat.proofs.SignVectors.{small_along}
use Rattle.av_sched.specs.inner.Ways.{HasSmallReferences, ways_of}

-- all entries of the directions of references
pub small_ways : (refs : List Reference) → All (All (AtMost 1)) (ways_of refs)
small_ways refs =
    All-map (All (AtMost 1)) (λ r. along r.map) (filter (λ r. is_broadcast r.map) refs)
    (λ k d l. small_along (get_or (filter (λ r. is_broadcast r.map) refs) k d).map)

-- ---- references

pub ways_append : (xs ys : List Reference) → ways_of (xs ++ ys) ≡ ways_of xs ++ ways_of ys
ways_append xs ys = ap (map (λ r. along r.map)) (filter-append (λ r. is_broadcast r.map) xs ys) ∙ map-append (λ r. along r.map) (filter (λ r. is_broadcast r.map) xs) (filter (λ r. is_broadcast r.map) ys)

pub small_tree : (vs : List Signature) (n : ℕ) (t : Tree) → n ≤ 4 → Fits vs n t → HasSmallReferences t
small_tree vs n (reference place m) few fits = let f = fits.from in omega (arith, f, few)
small_tree vs n (binary s l r) few fits = (small_tree vs n l few fits.0, small_tree vs n r few fits.1)
small_tree vs n (choice l c r x y) few fits = (small_tree vs n l few fits.0, small_tree vs n r few fits.1, small_tree vs n x few fits.2, small_tree vs n y few fits.3)
small_tree vs n (constant w) few fits = tt
small_tree vs n (restriction d t) few fits = tt
small_tree vs n (cases ts) few fits = tt
small_tree vs n (dependence m t) few fits = tt
small_tree vs n (reduction o m t set) few fits = tt
small_tree vs n (pick place choices w) few fits = tt

pub small_piece : (s : FlatSystem) (v : Variable) (p : Piece) → IsChainedVariable s v → Contains v.pieces p → HasSmallReferences p.tree
small_piece s v p own among =
    let piece = All-contains (IsChainedPiece (signatures s) v) v.pieces p own.pieces among in
    small_tree (signatures s) v.domain.dim p.tree own.indices piece.tree.fits

-- ---- as the code sees them

pub pieces_seen : (ps : List PieceMade) → flat_map (λ p. references p.tree) (map view_piece ps) ≡ flat_map (λ p. references (view p.tree)) ps
pieces_seen [] = refl
pieces_seen (p ∷ ps) = ap (λ xs. references (view p.tree) ++ xs) (pieces_seen ps)

pub small_seen : (s : FlatSystem) (var : Var) → IsChainedVariable s (view_variable var) → All (λ (p : PieceMade). HasSmallReferences (view p.tree)) var.pieces
small_seen s var own = λ k d l.
    let p = get_or var.pieces k d in
    small_piece s (view_variable var) (view_piece p) own (among_map view_piece var.pieces p (Contains-get_or var.pieces k d l))
