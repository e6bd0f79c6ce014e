-- Places that read: each reference and each pick of a piece, in the order of the text (textbook: the dependences of a system of
-- affine recurrence equations, one for each occurrence; their numbers are this project's).
use Rattle.std.specs.Prelude.{ℕ, suc, ◌+◌, List, [], ◌∷◌, ◌++◌, length}
use Rattle.av_flat.specs.declared.tree.Tree.{Tree as TreeMade}
use Rattle.av_flat.specs.Trees.{Tree, Piece, reference, binary, choice, pick, view}
use Rattle.av_flat.specs.Broadcasts.{references}

-- a place of a piece that reads; of a reference with its number in the piece
pub record Place : Type 0 where
  pub piece : ℕ
  pub site : ℕ
  pub tree : Tree

-- the places of a tree that read, in the order of the text; its references have the numbers from n on
abbrev pub places_in : ℕ → ℕ → Tree → List Place
places_in k n (reference place m) = record { piece = k; site = n; tree = reference place m } ∷ []
places_in k n (binary g l r) = places_in k n l ++ places_in k (n + length (references l)) r
places_in k n (choice l c r x y) =
    places_in k n l ++ places_in k (n + length (references l)) r ++ places_in k (n + length (references l) + length (references r)) x
    ++ places_in k (n + length (references l) + length (references r) + length (references x)) y
places_in k n (pick place choices m) = record { piece = k; site = n; tree = pick place choices m } ∷ []
places_in k n _ = []

abbrev pub places_from : ℕ → List Piece → List Place
places_from k [] = []
places_from k (p ∷ pieces) = places_in k 0 p.tree ++ places_from (suc k) pieces

-- ---- as the program keeps them

-- with the tree as it lies in memory
pub record PlaceMade : Type 0 where
  pub piece : ℕ
  pub site : ℕ
  pub tree : TreeMade

abbrev pub place_of : PlaceMade → Place
place_of p = record { piece = p.piece; site = p.site; tree = view p.tree }
