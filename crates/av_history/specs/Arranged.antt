-- What an array has of the system that it is mapped from.
use Rattle.std.specs.Prelude.{◌≡◌, ℕ, ◌+◌, ◌<◌, IsTrue, Some, Contains, slice_get}
use Rattle.av_tree.specs.Points.{Point}
use Rattle.av_flat.specs.Trees.{Piece, Variable}
use Rattle.av_flat.specs.Points.{has}
use Rattle.av_flat.specs.Signatures.{is_computed}
use Rattle.av_flat.specs.Nodes.{nodes, node_place}
use Rattle.av_space.specs.Taps.{Tap, taps, IsTapRead}
use Rattle.av_space.specs.Links.{AreLinks}
use Rattle.av_history.specs.Widths.{PicksAsWide}
use Rattle.av_history.specs.Places.{EachPlace}
use Rattle.av_history.specs.Performing.{Array, ComputesOn}

pub record IsArranged (a : Array) : Type 0 where
  pub are_links : AreLinks a.system a.helpers a.times a.cells a.links
  -- a pick reads words as wide as those of its equation
  pub widths : (v : Variable) (k : ℕ) (piece : Piece) → Contains a.system.variables v → slice_get v.pieces k ≡ Some piece → EachPlace (λ s i t. PicksAsWide a.system v.width t) 0 0 piece.tree
  -- each point of a node is in one piece
  pub some_piece : (v : Variable) (z : Point) → Contains a.system.variables v → IsTrue (is_computed v.kind) → IsTrue (has v.domain z) → (k : ℕ) × (piece : Piece) × (slice_get v.pieces k ≡ Some piece) × IsTrue (has piece.domain z)
  pub one_piece : (v : Variable) (z : Point) → Contains a.system.variables v → IsTrue (is_computed v.kind) → IsTrue (has v.domain z) → (j k : ℕ) (p q : Piece) → slice_get v.pieces j ≡ Some p → slice_get v.pieces k ≡ Some q
      → IsTrue (has p.domain z) → IsTrue (has q.domain z) → j ≡ k
  -- what a tap site reads was computed before
  pub earlier : (p c n : ℕ) (z : Point) (v : Variable) (piece : Piece) (j : ℕ) (tap : Tap) (k : ℕ) (y : Point) → ComputesOn a p c n z → slice_get (nodes a.system) n ≡ Some v
      → slice_get v.pieces tap.place.piece ≡ Some piece → IsTrue (has piece.domain z) → slice_get (taps a.system a.helpers (node_place a.system n) v) j ≡ Some tap → IsTapRead a.system n tap.place.tree tap.way piece z k y
      → (q : ℕ) × (b : ℕ) × (d : ℕ) × (b + d ≡ c) × (0 < d) × ComputesOn a q b k y
