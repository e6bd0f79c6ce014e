-- Each cell of an array has computations, and with them a piece.
use Rattle.std.proofs.Common.{◌≡◌, ℕ, ◌<◌, List, length, map, sym, ap, subst, ◌∙◌, arith, Some}
use Rattle.std.specs.Prelude.{slice_get, nat_lt}
use Rattle.av_tree.specs.Points.{Point}
use Rattle.av_flat.specs.Trees.{Variable, FlatSystem}
use Rattle.av_flat.specs.Signatures.{is_computed}
use Rattle.av_flat.specs.Nodes.{is_node, nodes}
use Rattle.av_space.specs.declared.array.Array.{Array as ArrayMade}
use Rattle.av_space.specs.declared.cells.Cell.{Cell}
use Rattle.av_space.specs.declared.spots.Spot.{Spot as SpotMade}
use Rattle.av_space.specs.Spots.{system_of, helpers_of, placings_of, cells_of, ComputesIn, IsArray, AreSpots}
use Rattle.av_space.specs.Occupancy.{IsUsed}
use Rattle.av_space.proofs.ByPlace.{from_map}
use Rattle.av_space.proofs.Elements.{at_index, in_range}
use Rattle.av_flat.proofs.NodeNumbers.{passing}
use Rattle.av_space.proofs.Scheduling.{scheduled}
use Rattle.av_space.proofs.Timely.{some_piece_of}
use Rattle.av_base.proofs.Among.{among_at}
use Rattle.av_base.proofs.Truths.{both}
use Rattle.av_base.proofs.Lists.{there_is, place_in}

-- a computation on the cell p
pub record IsBusy (w : ArrayMade) (p : ℕ) : Type 0 where
  pub cell : Cell
  pub is_cell : slice_get (cells_of w) p ≡ Some cell
  pub cycle : ℕ
  pub point : Point
  pub computes : ComputesIn w p cycle cell.node point
  pub variable : Variable
  pub is_variable : slice_get (nodes (system_of w)) cell.node ≡ Some variable

pub busy : (w : ArrayMade) → IsArray w → (p : ℕ) → p < length (cells_of w) → IsBusy w p
busy w is p low =
    let cell = there_is (cells_of w) p low in
    let used = at_index (IsUsed (system_of w) (placings_of w)) (cells_of w) is.layout.are_cells.each p cell.0 cell.1 in
    let node = used.3.node in
    record {
      cell = cell.0;
      is_cell = cell.1;
      cycle = used.0;
      point = used.2;
      computes = subst (λ (n : ℕ). ComputesIn w p used.0 n used.2) (sym node) (record { cell = cell.0; is_cell = cell.1; stands = used.3 });
      variable = used.3.computation.variable;
      is_variable = ap (slice_get (nodes (system_of w))) node ∙ used.3.computation.is;
    }

pub some_spot : (w : ArrayMade) → IsArray w → (p : ℕ) → p < length (cells_of w) → (spots : List SpotMade) → AreSpots w p spots → 0 < length spots
some_spot w is p low spots are =
    let s : FlatSystem = system_of w in
    let b = busy w is p low in
    let computation = b.computes.stands.computation in
    let v = computation.variable in
    let r = passing is_node s.variables b.cell.node v computation.is in
    let g = scheduled w.timed.now (placings_of w) (cells_of w) is.legal is.layout.are_placings is.layout.are_cells in
    let piece = some_piece_of s (helpers_of w) (placings_of w) (cells_of w) g v b.point (among_at s.variables r.place v r.is) (both (is_computed v.kind) (nat_lt 0 (length v.pieces)) r.passes).0 computation.declared in
    let among = are.all b.cycle b.cell.node b.point v piece.0 piece.1 b.computes computation.is piece.2 piece.3 in
    let i = place_in (map (λ (at : SpotMade). at.number) spots) piece.0 among in
    let at = from_map (λ (at : SpotMade). at.number) spots i.0 piece.0 i.1 in
    let l = in_range spots i.0 at.0 at.1 in
    omega (arith, l)
