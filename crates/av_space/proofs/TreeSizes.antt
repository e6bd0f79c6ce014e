-- The sizes of trees, piece by piece and node by node.
use Rattle.std.proofs.Common.{◌≡◌, ℕ, ◌<◌, Some, List, [], ◌∷◌, length, map, get_or, refl, sym, ap, ◌∙◌, arith}
use Rattle.std.specs.Prelude.{slice_get}
use Rattle.std.proofs.lemmas.List.{length-map}
use Rattle.std.proofs.lemmas.Option.{get_or_from_slice_get, slice_get_within}
use Rattle.av_flat.specs.declared.flat.Piece.{Piece as PieceMade}
use Rattle.av_flat.specs.declared.flat.Var.{Var}
use Rattle.av_flat.specs.Nodes.{nodes}
use Rattle.av_flat.specs.Trees.{Piece, Variable, FlatSystem, view, view_piece, view_variable}
use Rattle.av_space.specs.Quantities.{size}
use Rattle.av_space.specs.inner.Counting.{piece_sizes}
use Rattle.av_space.proofs.ByPlace.{read_at}
use Rattle.av_base.proofs.Lists.{get_mapped, some_is}

-- of a piece as it lies in memory
abbrev pub made_size : PieceMade → ℕ
made_size p = size (view p.tree)

pub sizes_viewed : (ps : List PieceMade) → map made_size ps ≡ map (λ (p : Piece). size p.tree) (map view_piece ps)
sizes_viewed [] = refl
sizes_viewed (p ∷ ps) = ap (λ ns. made_size p ∷ ns) (sizes_viewed ps)

-- that of one piece of a variable
pub size_at : (v : Var) (j : ℕ) (piece : PieceMade) → slice_get v.pieces j ≡ Some piece → get_or (piece_sizes (view_variable v)) j 0 ≡ made_size piece
size_at v j piece is =
    get_or_from_slice_get (piece_sizes (view_variable v)) j (made_size piece) 0 (get_mapped (λ (p : Piece). size p.tree) (map view_piece v.pieces) j (view_piece piece) (get_mapped view_piece v.pieces j piece is))

-- each node has its own
pub row_within : (s : FlatSystem) (sizes : List (List ℕ)) (n : ℕ) (v : Variable) → sizes ≡ map piece_sizes (nodes s) → slice_get (nodes s) n ≡ Some v → n < length sizes
row_within s sizes n v same at =
    let l = slice_get_within (nodes s) n v at in
    let e = ap (λ (rows : List (List ℕ)). length rows) same in
    let m = length-map (nodes s) piece_sizes in
    omega (arith, l, e, m)

-- those of one node
pub own_sizes : (s : FlatSystem) (sizes : List (List ℕ)) (n : ℕ) (own : List ℕ) (v : Variable) → sizes ≡ map piece_sizes (nodes s) → n < length sizes → own ≡ get_or sizes n own → slice_get (nodes s) n ≡ Some v → own ≡ piece_sizes v
own_sizes s sizes n own v same lt is at =
    some_is own (piece_sizes v) (sym (read_at (map piece_sizes (nodes s)) sizes n own same lt is) ∙ get_mapped piece_sizes (nodes s) n v at)
