-- Plans in which like cells are instances of one kind (own form, after the usual picture of a systolic array of a few kinds of cells:
-- H. T. Kung 1982).
use Rattle.std.specs.Prelude.{◌≡◌, ℕ, ◌+◌, ◌&&◌, ◌<◌, ◌↔◌, Bool, true, false, nat_eq, IsTrue, List, [], ◌∷◌, All, AllPairs, Contains, Some, slice_get, filter, length, map}
use Rattle.av_net.specs.declared.plan.Instance.{Instance}
use Rattle.av_net.specs.declared.plan.Plan.{Plan}
use Rattle.av_net.specs.Names.{targets_of}
use Rattle.av_tree.specs.Points.{Point}
use Rattle.av_flat.specs.Trees.{Piece, Variable, FlatSystem}
use Rattle.av_flat.specs.Points.{has}
use Rattle.av_flat.specs.Helped.{IsEntry}
use Rattle.av_flat.specs.Nodes.{number_at}
use Rattle.av_flat.specs.declared.timed.Helper.{Helper}
use Rattle.av_space.specs.declared.cells.Cell.{Cell}
use Rattle.av_space.specs.declared.cells.Link.{Link}
use Rattle.av_space.specs.Coordinates.{Placing}
use Rattle.av_space.specs.Occupancy.{Computes}
use Rattle.av_space.specs.Quantities.{IsUse}
use Rattle.av_kinds.specs.Names.{instance_name}
use Rattle.av_kinds.specs.Forms.{IsCellWire}

-- how many links a tap site of the cell p has
abbrev pub link_count : List Link → ℕ → ℕ → ℕ
link_count links p site = length (filter (λ (l : Link). nat_eq l.consumer p && nat_eq l.site site) links)

-- how many stretches of holding marks there are, behind a mark
abbrev pub stretch_count : Bool → List Bool → ℕ
stretch_count before [] = 0
stretch_count before (false ∷ marks) = stretch_count false marks
stretch_count true (true ∷ marks) = stretch_count true marks
stretch_count false (true ∷ marks) = 1 + stretch_count true marks

-- a computation of a piece on a cell, and whether it is an entry point of a helper
pub record CounterMark : Type 0 where
  pub cycle : ℕ
  pub is_entry : Bool

-- of the piece of the helper on the cell p: all computations, in the order of cycles
pub record AreMarks (s : FlatSystem) (placings : List Placing) (cells : List Cell) (p : ℕ) (h : Helper) (piece : Piece) (marks : List CounterMark) : Type 0 where
  pub each : All (λ m. (z : Point) × Computes s placings cells p m.cycle (number_at s h.var) z × IsTrue (has piece.domain z) × (IsTrue m.is_entry ↔ IsEntry piece.domain h.direction z)) marks
  pub all : (c : ℕ) (z : Point) → Computes s placings cells p c (number_at s h.var) z → IsTrue (has piece.domain z) → (m : CounterMark) × Contains marks m × (m.cycle ≡ c)
  pub order : AllPairs (λ a b. a.cycle < b.cycle) marks

-- the number of stretches of entry points of the helper on the cell p
pub record HasStretches (s : FlatSystem) (placings : List Placing) (cells : List Cell) (p : ℕ) (h : Helper) (n : ℕ) : Type 0 where
  pub variable : Variable
  pub is_variable : slice_get s.variables h.var ≡ Some variable
  pub piece : Piece
  pub is_piece : slice_get variable.pieces h.piece ≡ Some piece
  pub marks : List CounterMark
  pub are_marks : AreMarks s placings cells p h piece marks
  pub count : n ≡ stretch_count false (map (λ (m : CounterMark). m.is_entry) marks)

-- two cells have one signature: they are of one node, the same pieces have a computation on them, each tap site has as many links on the one as on
-- the other, and each moved reference as many stretches of entry points
pub record HaveOneSignature (s : FlatSystem) (hs : List Helper) (placings : List Placing) (cells : List Cell) (links : List Link) (p q : ℕ) : Type 0 where
  pub node : (a b : Cell) → slice_get cells p ≡ Some a → slice_get cells q ≡ Some b → a.node ≡ b.node
  pub pieces : (k : ℕ) (piece : Piece) → IsUse s placings cells (record { cell = p; piece = k }) piece ↔ IsUse s placings cells (record { cell = q; piece = k }) piece
  pub link_counts : (site : ℕ) → link_count links p site ≡ link_count links q site
  pub entries : (j m n : ℕ) (h : Helper) → slice_get hs j ≡ Some h → HasStretches s placings cells p h m → HasStretches s placings cells q h n → m ≡ n

-- each cell has exactly one instance, which alone drives its wires that begin with `c`, and two cells of one signature have instances of one kind
pub record IsShared (s : FlatSystem) (hs : List Helper) (placings : List Placing) (cells : List Cell) (links : List Link) (plan : Plan) : Type 0 where
  pub some : (p : ℕ) → p < length cells → (i : Instance) × Contains plan.instances i × (i.name ≡ instance_name p)
  pub once : (i j : ℕ) (a b : Instance) → slice_get plan.instances i ≡ Some a → slice_get plan.instances j ≡ Some b → a.name ≡ b.name → i ≡ j
  pub only : All (λ (i : Instance). (p : ℕ) × (p < length cells) × (i.name ≡ instance_name p)) plan.instances
  pub alone : (p : ℕ) → p < length cells → (name : List ℕ) → IsCellWire p name
      → (Contains (targets_of plan.top.drives) name → ⊥) × ((i : Instance) → Contains plan.instances i → Contains i.outputs name → i.name ≡ instance_name p)
  pub kinds : (p q : ℕ) (a b : Instance) → p < length cells → q < length cells → Contains plan.instances a → a.name ≡ instance_name p → Contains plan.instances b → b.name ≡ instance_name q
      → HaveOneSignature s hs placings cells links p q → a.kind ≡ b.kind
