-- The places of a tree put behind others, and the references among them. Only private contracts cite this.
use Rattle.std.specs.Prelude.{◌≡◌, ℕ, ◌+◌, ◌≤◌, List, [], ◌∷◌, ◌++◌, length, map}
use Rattle.av_flat.specs.declared.tree.Tree.{Tree as TreeMade}
use Rattle.av_flat.specs.Trees.{Tree, reference, view}
use Rattle.av_flat.specs.Broadcasts.{Reference, references}
use Rattle.av_flat.specs.Sites.{PlaceMade, place_of, places_in}

-- the places of a tree, whose references have the numbers from n on, stand behind the old ones, and next is the number after theirs
pub record HasPlaces (k n : ℕ) (tree : TreeMade) (old new : List PlaceMade) (next : ℕ) : Type 0 where
  pub places : map place_of new ≡ map place_of old ++ places_in k n (view tree)
  pub next_is : next ≡ n + length (references (view tree))
  pub within : next ≤ length new

-- the reference that a tree is, if it is one
abbrev pub reference_at : Tree → List Reference
reference_at (reference place m) = record { place = place; map = m } ∷ []
reference_at _ = []
