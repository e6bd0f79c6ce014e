-- Solutions of a flat system: words for exactly the declared points that satisfy each equation at each point, and
-- what the system shows (Mauras 1989).
use Rattle.std.specs.Prelude.{◌≡◌, ◌↔◌, ℕ, All, Some, IsSome, IsTrue}
use Rattle.av_base.specs.Words.{IsWord}
use Rattle.av_tree.specs.Points.{Point}
use Rattle.av_tree.specs.Values.{Assignment}
use Rattle.av_tree.specs.Trees.{Text}
use Rattle.av_flat.specs.Trees.{Variable, FlatSystem, right_side}
use Rattle.av_flat.specs.Points.{has}
use Rattle.av_flat.specs.Signatures.{signatures, is_any, is_input, is_computed, is_shown, is_kind, is_declared}
use Rattle.av_flat.specs.Values.{Scene, HasValue}
use Rattle.av_flat.specs.Shown.{Showing, Declaring}

-- what the equation of a variable is read in
abbrev pub scene : FlatSystem → Assignment → Variable → Scene
scene s u v = record { variables = signatures s; words = u; width = v.width }

-- P holds of each variable with an equation at each of its declared points
abbrev pub AtEachPoint : FlatSystem → (Variable → Point → Type 0) → Type 0
AtEachPoint s P = All (λ v. IsTrue (is_computed v.kind) → (z : Point) → IsTrue (has v.domain z) → P v z) s.variables

-- at this point the right side of the equation has the variable's word
abbrev pub Satisfies : FlatSystem → Assignment → Variable → Point → Type 0
Satisfies s u v z = (w : ℕ) × (u v.name z ≡ Some w) × HasValue (scene s u v) (right_side v) z w

-- one word for each declared point and no other: those of the inputs, and those that satisfy the equations
pub record IsSolution (s : FlatSystem) (x u : Assignment) : Type 0 where
  pub declared : (name : Text) (z : Point) → IsSome (u name z) ↔ IsTrue (is_declared is_any (signatures s) name z)
  pub words : All (λ v. (z : Point) (w : ℕ) → u v.name z ≡ Some w → IsWord v.width w) s.variables
  pub inputs : (name : Text) (z : Point) → IsTrue (is_declared is_input (signatures s) name z) → u name z ≡ x name z
  pub equations : AtEachPoint s (Satisfies s u)

-- a solution gives the word to this point of an input, an output or a local
pub record Shows (s : FlatSystem) (x : Assignment) (name : Text) (z : Point) (w : ℕ) : Type 0 where
  pub solution : Assignment
  pub solves : IsSolution s x solution
  pub shown : IsTrue (is_declared is_shown (signatures s) name z)
  pub word : solution name z ≡ Some w

abbrev pub shows_of : FlatSystem → Showing
shows_of s x name z w = Shows s x name z w

abbrev pub declares_of : FlatSystem → Declaring
declares_of s k name z = IsTrue (is_declared (is_kind k) (signatures s) name z)
