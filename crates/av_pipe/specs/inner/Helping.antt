-- Maps of references as directions are sought along them. Only private contracts cite this.
use Rattle.std.specs.Prelude.{◌≡◌, pos, negsuc, [], ◌∷◌, ◌≤◌, List}
use Rattle.av_affine.specs.declared.map.Map.{Map}
use Rattle.av_tree.specs.Points.{Point}
use Rattle.std.specs.List.{AllByRecursion}
use Rattle.av_flat.specs.Trees.{Tree, Variable, reference, binary, choice}
use Rattle.av_flat.specs.Broadcasts.{lists_of}

-- these are all points of so many entries 0, 1 and -1 as the map has indices
abbrev pub IsFineMap : List Point → Map → Type 0
IsFineMap ws m = ws ≡ lists_of (pos 0 ∷ pos 1 ∷ negsuc 0 ∷ []) m.from

-- the maps of all references are so
abbrev pub HasFineMaps : List Point → Tree → Type 0
HasFineMaps ws (reference p m) = IsFineMap ws m
HasFineMaps ws (binary s l r) = HasFineMaps ws l × HasFineMaps ws r
HasFineMaps ws (choice l c r x y) = HasFineMaps ws l × HasFineMaps ws r × HasFineMaps ws x × HasFineMaps ws y
HasFineMaps ws _ = Unit {0}

abbrev pub HasFinePieces : Variable → Type 0
HasFinePieces v = (v.domain.dim ≤ 4) × AllByRecursion (λ p. HasFineMaps (lists_of (pos 0 ∷ pos 1 ∷ negsuc 0 ∷ []) v.domain.dim) p.tree) v.pieces
