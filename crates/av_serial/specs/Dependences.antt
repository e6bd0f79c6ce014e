-- What a kept system computes and reads where its reductions are nodes: each point of a reduction's set joins the word of its body with
-- what was folded up to the point before it, and where the reduction stands the last point over a point is read (after Quinton's and
-- Wilde's serialisations of reductions; the numbers of nodes are this project's).
use Rattle.std.specs.Prelude.{◌≡◌, ℕ, suc, ◌+◌, ℤ, pos, ◌-ℤ◌, ◌⊎◌, IsTrue, Some, length, take, slice_get}
use Rattle.av_affine.specs.declared.map.Map.{Map}
use Rattle.av_poly.specs.Points.{Set, Has}
use Rattle.av_tree.specs.Points.{Point}
use Rattle.av_flat.specs.Trees.{Tree, Piece, Variable, FlatSystem, binary, choice, reduction}
use Rattle.av_flat.specs.Points.{has, point_over}
use Rattle.av_flat.specs.Signatures.{is_computed}
use Rattle.av_flat.specs.Nodes.{nodes, number_at, IsComputation}
use Rattle.av_flat.specs.Reads.{IsRead}
use Rattle.av_serial.specs.Lines.{IsLastOver}
use Rattle.av_serial.specs.SerialFaults.{HasPoint, HasNodes, HaveNodes, HasNodesIn}

-- ---- the reductions of a tree

-- what is folded, over which points
pub record Fold : Type 0 where
  pub map : Map
  pub set : Set
  pub body : Tree

-- in this part the node n is such a fold, where the first node of the part has the number `first`; one without a point is no node,
-- and no other is in it
abbrev pub IsFoldIn : Tree → ℕ → ℕ → Fold → Type 0
IsFoldIn (binary s l r) first n f = IsFoldIn l first n f ⊎ ((c : ℕ) × HasNodes l c × IsFoldIn r (first + c) n f)
IsFoldIn (choice l c r x y) first n f =
    IsFoldIn l first n f ⊎ ((a : ℕ) × HasNodes l a × (IsFoldIn r (first + a) n f
    ⊎ ((b : ℕ) × HasNodes r b × (IsFoldIn x (first + a + b) n f ⊎ ((c : ℕ) × HasNodes x c × IsFoldIn y (first + a + b + c) n f)))))
IsFoldIn (reduction o m t set) first n f = HasPoint set × (((n ≡ first) × (f ≡ record { map = m; set = set; body = t })) ⊎ IsFoldIn t (suc first) n f)
IsFoldIn _ first n f = ⊥

-- where a reduction stands, the point z reads the last point over it, as far as there is one
abbrev pub IsLastRead : Tree → ℕ → Point → ℕ → Point → Type 0
IsLastRead (binary s l r) first z n y = IsLastRead l first z n y ⊎ ((c : ℕ) × HasNodes l c × IsLastRead r (first + c) z n y)
IsLastRead (choice l c r v w) first z n y =
    IsLastRead l first z n y ⊎ ((a : ℕ) × HasNodes l a × (IsLastRead r (first + a) z n y
    ⊎ ((b : ℕ) × HasNodes r b × (IsLastRead v (first + a + b) z n y ⊎ ((c : ℕ) × HasNodes v c × IsLastRead w (first + a + b + c) z n y)))))
IsLastRead (reduction o m t set) first z n y = (n ≡ first) × ((k : ℤ) × IsLastOver m set z k × (y ≡ point_over m z k))
IsLastRead _ first z n y = ⊥

-- ---- the nodes of a system: its variables' first, and behind them the folds of all their pieces

-- the piece k of the variable at this place; the folds in it have the numbers from `first` on
pub record IsPieceAt (s : FlatSystem) (place k first : ℕ) (piece : Piece) : Type 0 where
  pub variable : Variable
  pub is_variable : slice_get s.variables place ≡ Some variable
  pub is_piece : slice_get variable.pieces k ≡ Some piece
  pub above : ℕ
  pub are_above : HaveNodes HasNodesIn (take place s.variables) above
  pub before : ℕ
  pub are_before : HaveNodes (λ p. HasNodes p.tree) (take k variable.pieces) before
  pub first_is : first ≡ length (nodes s) + above + before

-- the node n is this fold
pub record IsFoldOf (s : FlatSystem) (n : ℕ) (fold : Fold) : Type 0 where
  pub place : ℕ
  pub number : ℕ
  pub first : ℕ
  pub piece : Piece
  pub is_piece : IsPieceAt s place number first piece
  pub within : IsFoldIn piece.tree first n fold

-- a node of a variable with one of its points, or a fold with one of its own
abbrev pub IsKeptComputation : FlatSystem → ℕ → Point → Type 0
IsKeptComputation s n z = IsComputation s n z ⊎ ((fold : Fold) × IsFoldOf s n fold × Has fold.set z)

-- ---- reads

-- the node n computes its point z by this part, whose first fold has the number `first`: by the piece that has z, or by the body
pub data IsComputedBy (s : FlatSystem) (n : ℕ) (z : Point) (first : ℕ) (part : Tree) : Type 0 where
  of_piece : (place number : ℕ) (piece : Piece) → IsPieceAt s place number first piece → n ≡ number_at s place → IsTrue (has piece.domain z) → part ≡ piece.tree → IsComputedBy s n z first part
  of_fold : (fold : Fold) → IsFoldOf s n fold → Has fold.set z → first ≡ suc n → part ≡ fold.body → IsComputedBy s n z first part

-- y is one before z at the index that the fold drops, and both are points of it
pub record IsPointBefore (fold : Fold) (z y : Point) : Type 0 where
  pub over : Point
  pub size : length over ≡ length fold.map.rows
  pub index : ℤ
  pub here : z ≡ point_over fold.map over index
  pub one_less : y ≡ point_over fold.map over (index -ℤ pos 1)
  pub has_here : Has fold.set z
  pub has_before : Has fold.set y

-- the computation (n, z) reads the computation (k, y): by a reference, as what was folded before, or as the last of a fold
pub data IsKeptPair (s : FlatSystem) (n : ℕ) (z : Point) (k : ℕ) (y : Point) : Type 0 where
  refers : (first : ℕ) (t : Tree) (place : ℕ) (v : Variable) → IsComputedBy s n z first t → IsRead t z place y → slice_get s.variables place ≡ Some v → IsTrue (is_computed v.kind)
      → k ≡ number_at s place → IsKeptPair s n z k y
  folds : (fold : Fold) → IsFoldOf s n fold → IsPointBefore fold z y → k ≡ n → IsKeptPair s n z k y
  ends : (first : ℕ) (t : Tree) → IsComputedBy s n z first t → IsLastRead t first z k y → IsKeptPair s n z k y
