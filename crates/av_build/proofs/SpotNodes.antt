-- A piece on a cell: its node, by the place of its variable, and its computations.
use Rattle.std.proofs.Common.{◌≡◌, ℕ, sym, ap, subst, ◌∙◌, true, Some}
use Rattle.std.specs.Prelude.{slice_get}
use Rattle.av_base.proofs.Lists.{some_is}
use Rattle.av_tree.specs.Points.{Point}
use Rattle.av_flat.specs.Trees.{Piece, Variable, FlatSystem, view_piece, view_variable}
use Rattle.av_flat.specs.Nodes.{is_node, nodes, number_at, node_place}
use Rattle.av_space.specs.declared.array.Array.{Array as ArrayMade}
use Rattle.av_space.specs.declared.cells.Cell.{Cell}
use Rattle.av_space.specs.declared.spots.Spot.{Spot as SpotMade}
use Rattle.av_space.specs.Spots.{system_of, cells_of, ComputesIn, IsSpot, IsSlotIn}
use Rattle.av_space.proofs.Elements.{at_index}
use Rattle.av_flat.proofs.NodeNumbers.{passing, own_place}
use Rattle.av_build.specs.inner.Blueprints.{seen, spot_of}
use Rattle.av_build.proofs.MomentLemmas.{AreSpotSlots}

pub record IsNodeOf (w : ArrayMade) (at : SpotMade) : Type 0 where
  pub variable : slice_get (system_of w).variables at.place.0 ≡ Some (view_variable at.var.now)
  pub node : is_node (view_variable at.var.now) ≡ true
  pub number : number_at (system_of w) at.place.0 ≡ at.node.0

pub node_of : (w : ArrayMade) (at : SpotMade) → IsSpot w at → IsNodeOf w at
node_of w at spot =
    let s : FlatSystem = system_of w in
    let v = view_variable at.var.now in
    let r = passing is_node s.variables at.node.0 v spot.is_variable in
    let place : r.place ≡ at.place.0 = sym (ap (node_place s) (sym r.number) ∙ own_place s r.place v r.is r.passes) ∙ sym spot.place in
    record {
      variable = subst (λ (k : ℕ). slice_get s.variables k ≡ Some v) place r.is;
      node = r.passes;
      number = subst (λ (k : ℕ). number_at s k ≡ at.node.0) place r.number;
    }

pub spot_slots : (w : ArrayMade) (at : SpotMade) → IsSpot w at → AreSpotSlots (seen w) (spot_of at) at.slots
spot_slots w at spot = record {
  each = λ k slot found. (let t = at_index (IsSlotIn w at.cell.0 at.node.0 at.piece.now.domain) at.slots spot.are_slots.each k slot found in (t.computes, t.within));
  all = spot.are_slots.all;
}

-- ---- the node that a cell computes is that of each piece on it

pub cell_node : (w : ArrayMade) (p : ℕ) (at : SpotMade) → at.cell.0 ≡ p → IsSpot w at → (cell : Cell) → slice_get (cells_of w) p ≡ Some cell → cell.node ≡ at.node.0
cell_node w p at e s cell is = ap (λ (x : Cell). x.node) (some_is cell s.cell (sym is ∙ ap (slice_get (cells_of w)) (sym e) ∙ s.is_cell)) ∙ s.node

pub computed_node : (w : ArrayMade) (p : ℕ) (at : SpotMade) → at.cell.0 ≡ p → IsSpot w at → (c n : ℕ) (z : Point) → ComputesIn w p c n z → at.node.0 ≡ n
computed_node w p at e s c n z computes = sym (cell_node w p at e s computes.cell computes.is_cell) ∙ computes.stands.node

pub computed_variable : (w : ArrayMade) (p : ℕ) (at : SpotMade) → at.cell.0 ≡ p → IsSpot w at → (c n : ℕ) (z : Point) → ComputesIn w p c n z → (v : Variable) → slice_get (nodes (system_of w)) n ≡ Some v → view_variable at.var.now ≡ v
computed_variable w p at e s c n z computes v is =
    some_is (view_variable at.var.now) v (sym s.is_variable ∙ ap (slice_get (nodes (system_of w))) (computed_node w p at e s c n z computes) ∙ is)

pub computed_piece : (w : ArrayMade) (p : ℕ) (at : SpotMade) → at.cell.0 ≡ p → IsSpot w at → (c n : ℕ) (z : Point) → ComputesIn w p c n z → (v : Variable) → slice_get (nodes (system_of w)) n ≡ Some v
    → (k : ℕ) (piece : Piece) → slice_get v.pieces k ≡ Some piece → at.number ≡ k → view_piece at.piece.now ≡ piece
computed_piece w p at e s c n z computes v is k piece is_piece number =
    some_is (view_piece at.piece.now) piece
    (sym s.is_piece ∙ ap (λ (u : Variable). slice_get u.pieces at.number) (computed_variable w p at e s c n z computes v is) ∙ ap (slice_get v.pieces) number ∙ is_piece)
