-- Tasks that serve a system with helpers: each computation has a lane and a cycle, in which the lane's task is the piece that holds the
-- point, each word of a helper has one, and each place that reads is brought what it reads.
use Rattle.std.specs.Prelude.{◌≡◌, ℕ, ◌+◌, ◌<◌, IsTrue, ◌⊎◌, List, Option, Some, None, slice_get}
use Rattle.av_affine.specs.Maps.{image}
use Rattle.av_tree.specs.Points.{Point}
use Rattle.av_tree.specs.Trees.{Text}
use Rattle.av_flat.specs.Trees.{Tree, Piece, Variable, FlatSystem, reference, pick}
use Rattle.av_flat.specs.Points.{has}
use Rattle.av_flat.specs.Signatures.{Signature, signatures, is_input, is_computed}
use Rattle.av_flat.specs.Values.{picked}
use Rattle.av_flat.specs.declared.timed.Helper.{Helper}
use Rattle.av_flat.specs.Broadcasts.{Reference, references}
use Rattle.av_flat.specs.Helped.{before, IsEntry}
use Rattle.av_space.specs.Taps.{Pipeline, helper_at}
use Rattle.av_kinds.specs.declared.program.WordSource.{WordSource}
use Rattle.av_kinds.specs.declared.program.WordSource.TheVariants.{Word, Input, Line}
use Rattle.av_kinds.specs.Histories.{Task, Tasks}
use Rattle.av_history.specs.Widths.{width_at, read_width, PicksAsWide}
use Rattle.av_history.specs.Places.{EachPlace}

-- the point of the variable at this place is computed on this lane in this cycle; or the helper's word at the point stands there
abbrev pub Placement : Type 1
Placement = ℕ → Point → ℕ → ℕ → Type 0

-- the port is to have in this cycle the word of the input's point
abbrev pub Feeding : Type 1
Feeding = ℕ → Text → Point → ℕ → Type 0

-- what a place reads: a number, a point of the variable at a place, or a helper's word at a point
pub data Read : Type 0 where
  number : ℕ → Read
  at_point : ℕ → Point → Read
  of_helper : ℕ → Point → Read
  nothing : Read

abbrev pub read_of : ℕ → ℕ → Option Point → Read
read_of place n None = number n
read_of place n (Some y) = at_point place y

abbrev pub read_by : Option Pipeline → ℕ → Point → Point → Read
read_by None place y z = at_point place y
read_by (Some h) place y z = of_helper h.number z

-- a reference with a helper reads the helper's word at its own point
abbrev pub read_at : Option Pipeline → Tree → Point → Read
read_at h (reference place m) z = read_by h place (image m.rows z) z
read_at h (pick place choices n) z = read_of place n (picked choices z)
read_at h _ z = nothing

-- ---- what is brought

-- the port is to have the point in this cycle
pub record IsPresented (s : FlatSystem) (Fed : Feeding) (c : ℕ) (source : WordSource) (place : ℕ) (y : Point) : Type 0 where
  pub port : ℕ
  pub from_port : source ≡ Input port
  pub variable : Signature
  pub here : slice_get (signatures s) place ≡ Some variable
  pub is_input : IsTrue (is_input variable.kind)
  pub fed : Fed port variable.name y c

-- a lane has the word of the point so many cycles earlier
pub record IsOfLane (At : Placement) (c : ℕ) (source : WordSource) (place : ℕ) (y : Point) : Type 0 where
  pub lane : ℕ
  pub delay : ℕ
  pub cycle : ℕ
  pub from_line : source ≡ Line lane delay
  pub at : At place y lane cycle
  pub later : cycle + delay ≡ c

-- and at least one cycle
pub record IsEarlier (At : Placement) (c : ℕ) (source : WordSource) (place : ℕ) (y : Point) : Type 0 where
  pub of_lane : IsOfLane At c source place y
  pub some : 0 < of_lane.delay

-- the source has in this cycle the word of the point
abbrev pub IsPointBrought : FlatSystem → Feeding → Placement → ℕ → WordSource → ℕ → Point → Type 0
IsPointBrought s Fed At c source place y = IsPresented s Fed c source place y ⊎ IsEarlier At c source place y

-- at an entry point a helper is brought its reference's word, of the width of what is read
pub record IsEntered (s : FlatSystem) (Fed : Feeding) (At : Placement) (c : ℕ) (source : WordSource) (bits : ℕ) (h : Helper) (piece : Piece) (r : Reference) (z : Point) : Type 0 where
  pub entry : IsEntry piece.domain h.direction z
  pub point : IsPointBrought s Fed At c source r.place (image r.map.rows z)
  pub wide : bits ≡ width_at s r.place

-- and else its own word at the point before, of the helper's own width
pub record IsHandedOn (Hand : Placement) (c : ℕ) (source : WordSource) (bits : ℕ) (own : ℕ) (h : Helper) (j : ℕ) (piece : Piece) (z : Point) : Type 0 where
  pub inside : IsTrue (has piece.domain (before z h.direction))
  pub earlier : IsEarlier Hand c source j (before z h.direction)
  pub wide : bits ≡ own

-- the source has in this cycle a word of so many bits that brings the word of the helper j at the point
pub record IsHelperBrought (s : FlatSystem) (hs : List Helper) (Fed : Feeding) (At Hand : Placement) (c : ℕ) (source : WordSource) (bits j : ℕ) (z : Point) : Type 0 where
  pub helper : Helper
  pub helper_is : slice_get hs j ≡ Some helper
  pub variable : Variable
  pub variable_is : slice_get s.variables helper.var ≡ Some variable
  pub piece : Piece
  pub piece_is : slice_get variable.pieces helper.piece ≡ Some piece
  pub read : Reference
  pub read_is : slice_get (references piece.tree) helper.site ≡ Some read
  pub within : IsTrue (has piece.domain z)
  pub brought : IsEntered s Fed At c source bits helper piece read z ⊎ IsHandedOn Hand c source bits variable.width helper j piece z

-- the source has in this cycle what is read; a helper's word is that of its lane, maybe of the same cycle
abbrev pub IsBrought : FlatSystem → Feeding → Placement → Placement → ℕ → WordSource → Read → Type 0
IsBrought s Fed At Hand c source (number n) = source ≡ Word n
IsBrought s Fed At Hand c source (at_point place y) = IsPointBrought s Fed At c source place y
IsBrought s Fed At Hand c source (of_helper j z) = IsOfLane Hand c source j z
IsBrought s Fed At Hand c source nothing = ⊥

-- ---- what is worked on

-- the lane's task in this cycle is the piece that holds the point
pub record IsWorked (s : FlatSystem) (hs : List Helper) (tasks : Tasks) (count : ℕ → ℕ) (Fed : Feeding) (At Hand : Placement) (place : ℕ) (z : Point) (p c : ℕ) : Type 0 where
  pub task : Task
  pub task_is : tasks p (count c) ≡ Some task
  pub variable : Variable
  pub variable_is : slice_get s.variables place ≡ Some variable
  pub computed : IsTrue (is_computed variable.kind)
  pub declared : IsTrue (has variable.domain z)
  pub number : ℕ
  pub piece : (k : ℕ) (piece : Piece) → slice_get variable.pieces k ≡ Some piece → IsTrue (has piece.domain z) → (k ≡ number) × (piece.tree ≡ task.tree)
  pub wide : task.width ≡ variable.width
  pub brought : EachPlace (λ k n t. IsBrought s Fed At Hand c (task.sources k) (read_at (helper_at hs place number n) t z) × (task.widths k ≡ read_width s variable.width (helper_at hs place number n) t) × PicksAsWide s variable.width t) 0 0 task.tree

-- the lane has in this cycle the helper's word at the point
pub record IsHandled (s : FlatSystem) (hs : List Helper) (tasks : Tasks) (count : ℕ → ℕ) (Fed : Feeding) (At Hand : Placement) (j : ℕ) (z : Point) (p c : ℕ) : Type 0 where
  pub task : Task
  pub task_is : tasks p (count c) ≡ Some task
  pub brought : IsHelperBrought s hs Fed At Hand c (task.sources 0) (task.widths 0) j z
  pub wide : task.width ≡ brought.variable.width
  pub tree : task.tree ≡ reference brought.read.place brought.read.map

-- At places the computations, Hand the words of the helpers, Fed the words of input ports
pub record Serves (s : FlatSystem) (hs : List Helper) (tasks : Tasks) (count : ℕ → ℕ) (Fed : Feeding) (At Hand : Placement) : Type 0 where
  pub values : (place : ℕ) (z : Point) (p c : ℕ) → At place z p c → IsWorked s hs tasks count Fed At Hand place z p c
  pub helpers : (j : ℕ) (z : Point) (p c : ℕ) → Hand j z p c → IsHandled s hs tasks count Fed At Hand j z p c
