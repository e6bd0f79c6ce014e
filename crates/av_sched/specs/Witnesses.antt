-- Single points of dependences, and what each of them asks of the offsets (textbook: a violated constraint as a witness).
use Rattle.std.specs.Prelude.{◌≡◌, ℕ, ℤ, pos, ◌<◌, ◌≤◌, List, length, slice_index_or, unsigned_abs, ◌-ℤ◌, ◌^◌, Contains}
use Rattle.av_sched.specs.declared.arc.Arc.{Arc}
use Rattle.av_affine.specs.Numbers.{dot, AtMost}
use Rattle.av_affine.specs.Maps.{image}
use Rattle.av_tree.specs.Points.{Point}
use Rattle.av_depend.specs.declared.edge.Edge.{Edge}
use Rattle.av_sched.specs.Offsets.{part}
use Rattle.av_sched.specs.declared.witness.Witness.{Witness}
use Rattle.av_sched.specs.Leads.{IsSmallPart}

-- a listed point of an edge inside the component, with its image, of small entries; the edge's ends are identified by their places in the component
pub record IsWitness (edges : List Edge) (component : List ℕ) (witness : Witness) : Type 0 where
  pub edge : Edge
  pub among : Contains edges edge
  pub reader_within : witness.reader < length component
  pub read_within : witness.read < length component
  pub reader_is : slice_index_or component witness.reader 0 ≡ edge.consumer
  pub read_is : slice_index_or component witness.read 0 ≡ edge.producer
  pub listed : Contains edge.points witness.point
  pub image_is : witness.image ≡ image edge.map.rows witness.point
  pub small : AtMost (2 ^ 25) witness.image

-- how far the reader is ahead there, before offsets are added
abbrev pub lead_of : List ℕ → List Point → Witness → ℤ
lead_of component linear witness = dot (part linear (slice_index_or component witness.reader 0)) witness.point -ℤ dot (part linear (slice_index_or component witness.read 0)) witness.image

-- the witness can be used with linear parts, by small numbers
pub record IsUsableWitness (component : List ℕ) (linear : List Point) (witness : Witness) : Type 0 where
  pub reader_within : witness.reader < length component
  pub read_within : witness.read < length component
  pub consumer_within : slice_index_or component witness.reader 0 < length linear
  pub producer_within : slice_index_or component witness.read 0 < length linear
  pub reader : IsSmallPart (length witness.point) (part linear (slice_index_or component witness.reader 0))
  pub read : IsSmallPart (length witness.image) (part linear (slice_index_or component witness.read 0))
  pub point : AtMost (2 ^ 25) witness.point
  pub image : AtMost (2 ^ 25) witness.image

-- the arc is what the witness asks for
pub record IsArcAt (component : List ℕ) (linear : List Point) (witness : Witness) (arc : Arc) : Type 0 where
  pub reader : arc.reader ≡ witness.reader
  pub read : arc.read ≡ witness.read
  pub weight : arc.weight ≡ pos 1 -ℤ lead_of component linear witness
  pub small : unsigned_abs arc.weight ≤ 1073741825

-- the arc of a witness whose nodes are among the first k
pub record IsWitnessArc (edges : List Edge) (component : List ℕ) (k : ℕ) (linear : List Point) (arc : Arc) : Type 0 where
  pub witness : Witness
  pub is_witness : IsWitness edges component witness
  pub is : IsArcAt component linear witness arc
  pub reader_first : witness.reader < k
  pub read_first : witness.read < k
