-- Solutions of systems with helpers: a helper hands the word of its reference from point to point in its direction, from the
-- points on at which the reference is read (after Quinton's pipelining of broadcasts; own form).
use Rattle.std.specs.Prelude.{◌≡◌, ◌↔◌, ℕ, suc, ◌+◌, ◌≤◌, ◌-ℤ◌, ◌&&◌, ◌⊎◌, nat_eq, if◌then◌else◌, All, IsSome, IsTrue, Option, Some, None, List, [], ◌∷◌, length, slice_get}
use Rattle.av_base.specs.Words.{IsWord}
use Rattle.av_affine.specs.declared.map.Map.{Map}
use Rattle.av_affine.specs.Maps.{image}
use Rattle.av_poly.specs.Points.{Set}
use Rattle.av_tree.specs.Points.{Point}
use Rattle.av_tree.specs.Trees.{Text}
use Rattle.av_tree.specs.Values.{Assignment, combined, words_compare, IsCombined, IsChosen}
use Rattle.av_flat.specs.Trees.{Tree, Piece, Variable, FlatSystem, reference, binary, choice, right_side}
use Rattle.av_flat.specs.Points.{has}
use Rattle.av_flat.specs.Signatures.{signatures, is_any, is_input, is_computed, is_shown, is_declared}
use Rattle.av_flat.specs.Counts.{count}
use Rattle.av_flat.specs.Values.{Scene, HasValue, IsWordAt}
use Rattle.av_flat.specs.Shown.{Showing}
use Rattle.av_flat.specs.Solutions.{scene}
use Rattle.av_flat.specs.declared.timed.Helper.{Helper}
use Rattle.av_flat.specs.Broadcasts.{Reference, references}

-- ---- points along a direction

-- the point before z in this direction
abbrev pub before : Point → Point → Point
before [] w = []
before (x ∷ z) [] = x ∷ z
before (x ∷ z) (y ∷ w) = (x -ℤ y) ∷ before z w

-- the point before z is no point of the set: here the reference is read
abbrev pub IsEntry : Set → Point → Point → Type 0
IsEntry set w z = IsTrue (has set z) × (IsTrue (has set (before z w)) → ⊥)

-- ---- words

-- words of points
abbrev pub PointWords : Type 0
PointWords = Point → Option ℕ

-- the helper's word stands for the reference, where there is one
abbrev pub HasRead : Scene → ℕ → Map → Option PointWords → Point → ℕ → Type 0
HasRead s place m None z w = IsWordAt s place (image m.rows z) w
HasRead s place m (Some words) z w = words z ≡ Some w

-- the word of a tree whose references have the numbers from n on, where some of them have helpers
abbrev pub HasHelped : Scene → (ℕ → Option PointWords) → ℕ → Tree → Point → ℕ → Type 0
HasHelped s h n (reference place m) z w = HasRead s place m (h n) z w
HasHelped s h n (binary g l r) z w = IsCombined (HasHelped s h n l z) (HasHelped s h (n + length (references l)) r z) (combined s.width g) w
HasHelped s h n (choice l c r x y) z w =
    IsChosen (HasHelped s h n l z) (HasHelped s h (n + length (references l)) r z) (HasHelped s h (n + length (references l) + length (references r)) x z)
    (HasHelped s h (n + length (references l) + length (references r) + length (references x)) y z) (words_compare s.width c) w
HasHelped s h n t z w = HasValue s t z w

-- one of the pieces, which have the numbers from i on, has this word
abbrev pub IsOfPiece : Scene → (ℕ → ℕ → Option PointWords) → ℕ → List Piece → Point → ℕ → Type 0
IsOfPiece s h i [] z w = ⊥
IsOfPiece s h i (p ∷ ps) z w = (IsTrue (has p.domain z) × HasHelped s (h i) 0 p.tree z w) ⊎ IsOfPiece s h (suc i) ps z w

-- ---- systems

-- the words of each helper, told by its number
abbrev pub HelperWords : Type 0
HelperWords = ℕ → Point → Option ℕ

-- the words of the first helper of this reference, where the helpers have the numbers from j on
abbrev pub helped_at : List Helper → HelperWords → ℕ → ℕ → ℕ → ℕ → Option PointWords
helped_at [] g j place piece site = None
helped_at (h ∷ hs) g j place piece site =
    if nat_eq h.var place && nat_eq h.piece piece && nat_eq h.site site then Some (g j) else helped_at hs g (suc j) place piece site

-- the equation holds at the point: there is one piece, and its word is the variable's
abbrev pub HelpedSatisfies : FlatSystem → List Helper → Assignment → HelperWords → ℕ → Variable → Point → Type 0
HelpedSatisfies s hs u g place v z = (w : ℕ) × (u v.name z ≡ Some w) × (count (signatures s) (right_side v) z ≡ 1) × IsOfPiece (scene s u v) (helped_at hs g 0 place) 0 v.pieces z w

-- the words of a helper: one for each point of its piece, the reference's at an entry and else that of the point before
pub record IsHanded (s : FlatSystem) (u : Assignment) (h : Helper) (words : PointWords) : Type 0 where
  pub variable : Variable
  pub is : slice_get s.variables h.var ≡ Some variable
  pub piece : Piece
  pub is_piece : slice_get variable.pieces h.piece ≡ Some piece
  pub site : Reference
  pub is_site : slice_get (references piece.tree) h.site ≡ Some site
  pub declared : (z : Point) → IsSome (words z) ↔ IsTrue (has piece.domain z)
  pub entry : (z : Point) → IsEntry piece.domain h.direction z → (w : ℕ) × (words z ≡ Some w) × IsWordAt (scene s u variable) site.place (image site.map.rows z) w
  pub handed : (z : Point) → IsTrue (has piece.domain z) → IsTrue (has piece.domain (before z h.direction)) → words z ≡ words (before z h.direction)

-- words of the declared points, as without helpers, and beside them words of the helpers
pub record IsHelpedSolution (s : FlatSystem) (hs : List Helper) (x u : Assignment) (g : HelperWords) : Type 0 where
  pub declared : (name : Text) (z : Point) → IsSome (u name z) ↔ IsTrue (is_declared is_any (signatures s) name z)
  pub words : All (λ v. (z : Point) (w : ℕ) → u v.name z ≡ Some w → IsWord v.width w) s.variables
  pub inputs : (name : Text) (z : Point) → IsTrue (is_declared is_input (signatures s) name z) → u name z ≡ x name z
  pub equations : (place : ℕ) (v : Variable) → slice_get s.variables place ≡ Some v → IsTrue (is_computed v.kind) → (z : Point) → IsTrue (has v.domain z) → HelpedSatisfies s hs u g place v z
  pub helpers : (j : ℕ) (h : Helper) → slice_get hs j ≡ Some h → IsHanded s u h (g j)
  pub others : (j : ℕ) → length hs ≤ j → (z : Point) → g j z ≡ None

-- a solution gives the word to this point of an input, an output or a local
pub record HelpedShows (s : FlatSystem) (hs : List Helper) (x : Assignment) (name : Text) (z : Point) (w : ℕ) : Type 0 where
  pub solution : Assignment
  pub helper_words : HelperWords
  pub solves : IsHelpedSolution s hs x solution helper_words
  pub shown : IsTrue (is_declared is_shown (signatures s) name z)
  pub word : solution name z ≡ Some w

abbrev pub helped_shows_of : FlatSystem → List Helper → Showing
helped_shows_of s hs x name z w = HelpedShows s hs x name z w
