-- What a timed system computes when: the words of nodes and of helpers, each in a cycle, and within a cycle the helpers' words
-- before those of the nodes (own form; ranks as in the evaluation of a combinational network).
use Rattle.std.specs.Prelude.{◌≡◌, ℕ, ℤ, IsTrue, Some, slice_get}
use Rattle.av_affine.specs.Maps.{image}
use Rattle.av_tree.specs.Points.{Point}
use Rattle.av_flat.specs.declared.timed.Time.{Time}
use Rattle.av_flat.specs.declared.timed.Helper.{Helper}
use Rattle.av_flat.specs.declared.timed.Timed.{Timed}
use Rattle.av_flat.specs.Trees.{Piece, Variable, view_system}
use Rattle.av_flat.specs.Points.{has}
use Rattle.av_flat.specs.Signatures.{is_computed}
use Rattle.av_flat.specs.Nodes.{number_at}
use Rattle.av_flat.specs.Reads.{IsPair}
use Rattle.av_flat.specs.Schedules.{cycle}
use Rattle.av_flat.specs.Broadcasts.{Reference, references}
use Rattle.av_flat.specs.Helped.{before, IsEntry}

-- a word that is computed: of a node, or of a helper, identified by their numbers, at a point
pub data Computed : Type 0 where
  of_node : ℕ → Point → Computed
  of_helper : ℕ → Point → Computed

-- ---- when

-- a node's word stands in the cycle of its point, at rank 1; a helper's in the cycle that its node has at the point, at rank 0
abbrev pub StandsIn : Timed → Computed → ℤ → ℕ → Type 0
StandsIn t (of_node n z) c rank = (time : Time) × (slice_get t.times n ≡ Some time) × (c ≡ cycle time z) × (rank ≡ 1)
StandsIn t (of_helper j z) c rank =
    (h : Helper) × (time : Time) × (slice_get t.helpers j ≡ Some h) × (slice_get t.times (number_at (view_system t.flat) h.var) ≡ Some time) × (c ≡ cycle time z) × (rank ≡ 0)

-- ---- what is read

-- the helper of this number is one of a piece that has the point
pub record IsHelperAt (t : Timed) (j : ℕ) (z : Point) : Type 0 where
  pub helper : Helper
  pub is : slice_get t.helpers j ≡ Some helper
  pub variable : Variable
  pub is_variable : slice_get (view_system t.flat).variables helper.var ≡ Some variable
  pub piece : Piece
  pub is_piece : slice_get variable.pieces helper.piece ≡ Some piece
  pub within : IsTrue (has piece.domain z)

-- at an entry point a helper reads its reference, here of a computed variable
pub record IsReference (t : Timed) (h : Helper) (p : Piece) (z : Point) (k : ℕ) (y : Point) : Type 0 where
  pub entry : IsEntry p.domain h.direction z
  pub reference : Reference
  pub is_reference : slice_get (references p.tree) h.site ≡ Some reference
  pub producer : Variable
  pub is_producer : slice_get (view_system t.flat).variables reference.place ≡ Some producer
  pub computed : IsTrue (is_computed producer.kind)
  pub number : k ≡ number_at (view_system t.flat) reference.place
  pub point : y ≡ image reference.map.rows z

-- the first word is computed from the second: of nodes each pair; a node's from its helper's at the same point; a helper's from
-- its own at the point before, or from its reference's
abbrev pub NeedsWord : Timed → Computed → Computed → Type 0
NeedsWord t (of_node n z) (of_node k y) = IsPair (view_system t.flat) n z k y
NeedsWord t (of_node n z) (of_helper j y) = (h : IsHelperAt t j z) × (n ≡ number_at (view_system t.flat) h.helper.var) × (y ≡ z)
NeedsWord t (of_helper j z) (of_helper i y) = (h : IsHelperAt t j z) × (i ≡ j) × (y ≡ before z h.helper.direction) × IsTrue (has h.piece.domain y)
NeedsWord t (of_helper j z) (of_node k y) = (h : IsHelperAt t j z) × IsReference t h.helper h.piece z k y
