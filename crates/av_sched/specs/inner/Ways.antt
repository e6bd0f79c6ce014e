-- The directions along which references read one point. Only private contracts cite this.
use Rattle.std.specs.Prelude.{ℕ, map, ◌≤◌, List, length, not, filter}
use Rattle.std.specs.List.{list_any}
use Rattle.av_tree.specs.Points.{Point}
use Rattle.av_flat.specs.Trees.{Tree, reference, binary, choice}
use Rattle.av_flat.specs.Broadcasts.{Reference, along, is_broadcast, moves}

-- for each broadcast among references the directions along which it reads one point
abbrev pub ways_of : List Reference → List (List Point)
ways_of refs = map (λ r. along r.map) (filter (λ r. is_broadcast r.map) refs)

-- how many of these the linear part does not move
abbrev pub still_among : List (List Point) → Point → ℕ
still_among ways a = length (filter (λ ws. not (list_any (moves a) ws)) ways)

-- each reference of the tree leads from points of at most four entries
abbrev pub HasSmallReferences : Tree → Type 0
HasSmallReferences (reference place m) = m.from ≤ 4
HasSmallReferences (binary s l r) = HasSmallReferences l × HasSmallReferences r
HasSmallReferences (choice l c r x y) = HasSmallReferences l × HasSmallReferences r × HasSmallReferences x × HasSmallReferences y
HasSmallReferences _ = Unit {0}
