-- How far a reader is ahead of what it reads before offsets are added, and the least of it over points (textbook: the constraints
-- that dependences put on an affine schedule).
use Rattle.std.specs.Prelude.{◌≡◌, ℕ, ℤ, pos, ◌+ℤ◌, ◌≤ℤ◌, ◌<◌, ◌≤◌, List, length, All, unsigned_abs, ◌-ℤ◌, Any}
use Rattle.av_sched.specs.declared.arc.Arc.{Arc}
use Rattle.av_affine.specs.declared.map.Map.{Map}
use Rattle.av_affine.specs.Numbers.{dot, AtMost}
use Rattle.av_affine.specs.Forms.{IsWithinLimits}
use Rattle.av_affine.specs.Maps.{image}
use Rattle.av_tree.specs.Points.{Point}
use Rattle.av_depend.specs.declared.edge.Edge.{Edge}
use Rattle.av_flat.specs.Trees.{FlatSystem}
use Rattle.av_flat.specs.Nodes.{nodes, IsComputation}
use Rattle.av_sched.specs.Offsets.{part}
use Rattle.av_sched.specs.Arcs.{at}

-- the linear part of the reader times the point, less that of what is read times the image
abbrev pub lead : Point → Point → Map → Point → ℤ
lead a b m z = dot a z -ℤ dot b (image m.rows z)

-- x is the least lead over the points
pub record IsLeastLead (a b : Point) (m : Map) (points : List Point) (x : ℤ) : Type 0 where
  pub below : All (λ z. x ≤ℤ lead a b m z) points
  pub taken : Any (λ z. lead a b m z ≡ x) points

-- a point over n indices within the limit on coordinates
pub record IsSmallPoint (n : ℕ) (z : Point) : Type 0 where
  pub size : length z ≡ n
  pub entries : AtMost 4095 z

-- a linear part over n indices
pub record IsSmallPart (n : ℕ) (a : Point) : Type 0 where
  pub size : length a ≡ n
  pub few : n ≤ 4
  pub entries : AtMost 4 a

-- the map leads from points of n entries to points of k
pub record IsSmallMap (n k : ℕ) (m : Map) : Type 0 where
  pub from : m.from ≡ n
  pub results : length m.rows ≡ k
  pub rows : All IsWithinLimits m.rows

-- the edge from one node to another with linear parts, by small numbers; it lists a point
pub record IsUsableAs (linear : List Point) (consumer producer : ℕ) (e : Edge) : Type 0 where
  pub consumer_within : consumer < length linear
  pub producer_within : producer < length linear
  pub reader : IsSmallPart (length (part linear consumer)) (part linear consumer)
  pub read : IsSmallPart (length (part linear producer)) (part linear producer)
  pub map : IsSmallMap (length (part linear consumer)) (length (part linear producer)) e.map
  pub some : 0 < length e.points
  pub points : All (IsSmallPoint (length (part linear consumer))) e.points

abbrev pub IsUsable : List Point → Edge → Type 0
IsUsable linear e = IsUsableAs linear e.consumer e.producer e

-- the arc of an edge under linear parts: the reader's offset is at least that of what it reads, and one more than what the least
-- lead leaves
pub record IsArcOf (linear : List Point) (e : Edge) (arc : Arc) : Type 0 where
  pub reader : arc.reader ≡ e.consumer
  pub read : arc.read ≡ e.producer
  pub weight : IsLeastLead (part linear e.consumer) (part linear e.producer) e.map e.points (pos 1 -ℤ arc.weight)
  pub small : unsigned_abs arc.weight ≤ 1073741825

-- with this offset the first cycle of the node is 0
pub record IsStart (s : FlatSystem) (linear : List Point) (n : ℕ) (x : ℤ) : Type 0 where
  pub none_below : (z : Point) → IsComputation s n z → pos 0 ≤ℤ (dot (part linear n) z +ℤ x)
  pub point : Point
  pub is_point : IsComputation s n point
  pub taken : dot (part linear n) point +ℤ x ≡ pos 0

-- for each node
pub record AreStarts (s : FlatSystem) (linear : List Point) (low : List ℤ) : Type 0 where
  pub one_each : length low ≡ length (nodes s)
  pub each : (n : ℕ) → n < length (nodes s) → IsStart s linear n (at low n)
