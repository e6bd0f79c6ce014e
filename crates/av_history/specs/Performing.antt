-- Tasks that perform an array: at the number of a computation's cycle the lane of its cell has the piece that holds the point, with the
-- sources that the array's ports and links say. Nothing is said of other numbers of the counter.
use Rattle.std.specs.Prelude.{◌≡◌, ℕ, Bool, true, false, IsTrue, List, Option, Some, None, Contains, slice_get}
use Rattle.av_affine.specs.declared.map.Map.{Map}
use Rattle.av_tree.specs.Points.{Point}
use Rattle.av_flat.specs.Trees.{Tree, Piece, Variable, FlatSystem, reference, pick}
use Rattle.av_flat.specs.Points.{has}
use Rattle.av_flat.specs.Signatures.{is_input}
use Rattle.av_flat.specs.Values.{picked}
use Rattle.av_flat.specs.declared.timed.Helper.{Helper}
use Rattle.av_flat.specs.Nodes.{is_node, nodes, number_at}
use Rattle.av_flat.specs.Broadcasts.{Reference, references}
use Rattle.av_flat.specs.Helped.{before}
use Rattle.av_space.specs.Coordinates.{Placing}
use Rattle.av_space.specs.declared.cells.Cell.{Cell}
use Rattle.av_space.specs.declared.cells.Link.{Link}
use Rattle.av_space.specs.declared.cells.InPort.{InPort}
use Rattle.av_space.specs.Taps.{node_place, Pipeline, helper_at, Way, each, entries, handed, taps}
use Rattle.av_space.specs.Occupancy.{Computes}
use Rattle.av_space.specs.Links.{IsInLink}
use Rattle.av_kinds.specs.declared.program.WordSource.{WordSource}
use Rattle.av_kinds.specs.declared.program.WordSource.TheVariants.{Word, Input, Line}
use Rattle.av_kinds.specs.Histories.{Task, Tasks}
use Rattle.av_history.specs.Widths.{width_at, read_width}
use Rattle.av_history.specs.Places.{EachPlace}

-- what an array is built from
pub record Array : Type 0 where
  pub system : FlatSystem
  pub helpers : List Helper
  pub times : List Placing
  pub cells : List Cell
  pub links : List Link
  pub ports : List InPort

-- the cell p computes (n, z) in cycle c
abbrev pub ComputesOn : Array → ℕ → ℕ → ℕ → Point → Type 0
ComputesOn a p c n z = Computes a.system a.times a.cells p c n z

-- the lane of the value of a cell, and that of a helper on a cell
pub record Lanes : Type 0 where
  pub of_value : ℕ → ℕ
  pub of_helper : ℕ → ℕ → ℕ

-- a piece of the variable of the node n on the cell p
pub record Spot : Type 0 where
  pub cell : ℕ
  pub node : ℕ
  pub variable : Variable
  pub number : ℕ
  pub piece : Piece

-- ---- sources

-- in cycle c there is a link of a tap site of the spot to the cell, with this delay; its place is the reference or pick `tree`
pub record IsLinked (a : Array) (at : Spot) (c site : ℕ) (tree : Tree) (way : Way) (producer delay : ℕ) : Type 0 where
  pub tap : ℕ
  pub is_tap : slice_get (taps a.system a.helpers (node_place a.system at.node) at.variable) tap ≡ Some (record { place = record { piece = at.number; site = site; tree = tree }; way = way })
  pub link : Link
  pub is_link : Contains a.links link
  pub in_link : IsInLink at.cell tap c link
  pub producer_is : producer ≡ link.producer
  pub delay_is : delay ≡ link.delay

-- what brings a reference's word, where it is read: a port, or a link
pub data IsReferenceSource (a : Array) (lanes : Lanes) (at : Spot) (c i place : ℕ) (m : Map) (way : Way) : WordSource → Type 0 where
  by_port : (n : ℕ) (read : Variable) → slice_get a.system.variables place ≡ Some read → IsTrue (is_input read.kind)
      → slice_get (references at.piece.tree) i ≡ Some (record { place = place; map = m }) → slice_get a.ports n ≡ Some (record { cell = at.cell; piece = at.number; site = i })
      → IsReferenceSource a lanes at c i place m way (Input n)
  by_link : (producer delay : ℕ) (read : Variable) → slice_get a.system.variables place ≡ Some read → IsTrue (is_node read) → IsLinked a at c i (reference place m) way producer delay
      → IsReferenceSource a lanes at c i place m way (Line (lanes.of_value producer) delay)

-- what brings the word of the helper j, which moves the reference i: by whether the point before is in the set, the helper's lane on the
-- cell of that point, or the reference
abbrev pub IsPipelineSource : Array → Lanes → Spot → ℕ → Point → ℕ → ℕ → Map → Bool → ℕ → WordSource → Type 0
IsPipelineSource a lanes at j direction i place m true c source =
    (producer : ℕ) × (delay : ℕ) × IsLinked a at c i (reference place m) (handed j direction) producer delay × (source ≡ Line (lanes.of_helper j producer) delay)
IsPipelineSource a lanes at j direction i place m false c source = IsReferenceSource a lanes at c i place m (entries direction) source

-- a reference with a helper is brought the word of the helper's lane on its own cell
abbrev pub IsHelpedSource : Array → Lanes → Spot → Option Pipeline → ℕ → ℕ → ℕ → Map → WordSource → Type 0
IsHelpedSource a lanes at None c i place m source = IsReferenceSource a lanes at c i place m each source
IsHelpedSource a lanes at (Some h) c i place m source =
    (slice_get (references at.piece.tree) i ≡ Some (record { place = place; map = m })) × (source ≡ Line (lanes.of_helper h.number at.cell) 0)

-- a pick: the link of the choice that holds, or the number
abbrev pub IsPickSource : Array → Lanes → Spot → ℕ → ℕ → ℕ → Tree → ℕ → Option Point → WordSource → Type 0
IsPickSource a lanes at c i place tree n None source = source ≡ Word n
IsPickSource a lanes at c i place tree n (Some y) source =
    (producer : ℕ) × (delay : ℕ) × (read : Variable) × (slice_get a.system.variables place ≡ Some read) × IsTrue (is_node read) × IsLinked a at c i tree each producer delay × (source ≡ Line (lanes.of_value producer) delay)

-- the helper of the reference with this number at the spot
abbrev pub pipeline_at : Array → Spot → ℕ → Option Pipeline
pipeline_at a at i = helper_at a.helpers (node_place a.system at.node) at.number i

-- what brings the word of a place of the spot at its point z in cycle c; i counts references
abbrev pub IsPlaceSource : Array → Lanes → Spot → Point → ℕ → ℕ → Tree → WordSource → Type 0
IsPlaceSource a lanes at z c i (reference place m) source = IsHelpedSource a lanes at (pipeline_at a at i) c i place m source
IsPlaceSource a lanes at z c i (pick place choices n) source = IsPickSource a lanes at c i place (pick place choices n) n (picked choices z) source
IsPlaceSource a lanes at z c i _ source = ⊥

-- ---- tasks

-- the task is the piece of the spot, with what brings the word of each place at the point z in cycle c, and how wide that word is
pub record IsPieceTask (a : Array) (lanes : Lanes) (at : Spot) (z : Point) (c : ℕ) (task : Task) : Type 0 where
  pub tree : task.tree ≡ at.piece.tree
  pub width : task.width ≡ at.variable.width
  pub sources : EachPlace (λ k i t. IsPlaceSource a lanes at z c i t (task.sources k)) 0 0 at.piece.tree
  pub widths : EachPlace (λ k i t. task.widths k ≡ read_width a.system at.variable.width (pipeline_at a at i) t) 0 0 at.piece.tree

-- a helper is handed words of its own width, or else those of the reference
abbrev pub pipeline_width : FlatSystem → ℕ → ℕ → Bool → ℕ
pipeline_width s own place true = own
pipeline_width s own place false = width_at s place

-- the task is the reference that the helper j moves, with what brings the helper's word
pub record IsPipelineTask (a : Array) (lanes : Lanes) (at : Spot) (j : ℕ) (h : Helper) (r : Reference) (z : Point) (c : ℕ) (task : Task) : Type 0 where
  pub tree : task.tree ≡ reference r.place r.map
  pub width : task.width ≡ at.variable.width
  pub source : IsPipelineSource a lanes at j h.direction h.site r.place r.map (has at.piece.domain (before z h.direction)) c (task.sources 0)
  pub source_width : task.widths 0 ≡ pipeline_width a.system at.variable.width r.place (has at.piece.domain (before z h.direction))

-- the helper is the first of its reference
pub record IsHelper (a : Array) (j : ℕ) (h : Helper) (v : Variable) (piece : Piece) (r : Reference) : Type 0 where
  pub is_helper : slice_get a.helpers j ≡ Some h
  pub is_first : helper_at a.helpers h.var h.piece h.site ≡ Some (record { number = j; direction = h.direction })
  pub is_variable : slice_get a.system.variables h.var ≡ Some v
  pub is_node : IsTrue (is_node v)
  pub is_piece : slice_get v.pieces h.piece ≡ Some piece
  pub is_reference : slice_get (references piece.tree) h.site ≡ Some r

abbrev pub helper_spot : Array → Helper → Variable → Piece → ℕ → Spot
helper_spot a h v piece p = record { cell = p; node = number_at a.system h.var; variable = v; number = h.piece; piece = piece }

-- at the number of each computation's cycle, the lanes of the cell have the tasks of the computation
pub record Perform (a : Array) (lanes : Lanes) (tasks : Tasks) (count : ℕ → ℕ) : Type 0 where
  pub values : (p c n : ℕ) (z : Point) (v : Variable) (k : ℕ) (piece : Piece) → ComputesOn a p c n z → slice_get (nodes a.system) n ≡ Some v → slice_get v.pieces k ≡ Some piece → IsTrue (has piece.domain z)
      → (task : Task) × (tasks (lanes.of_value p) (count c) ≡ Some task) × IsPieceTask a lanes (record { cell = p; node = n; variable = v; number = k; piece = piece }) z c task
  pub helpers : (j : ℕ) (h : Helper) (v : Variable) (piece : Piece) (r : Reference) → IsHelper a j h v piece r → (p c : ℕ) (z : Point) → ComputesOn a p c (number_at a.system h.var) z → IsTrue (has piece.domain z)
      → (task : Task) × (tasks (lanes.of_helper j p) (count c) ≡ Some task) × IsPipelineTask a lanes (helper_spot a h v piece p) j h r z c task
