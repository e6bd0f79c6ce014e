-- Cells of one kind are those with computations of the same pieces of one node.
use Rattle.std.proofs.Common.{◌≡◌, ◌↔◌, ℕ, zero, suc, ◌<◌, inl, inr, List, [], ◌∷◌, length, map, sym, ap, subst, ◌∙◌, arith, Some}
use Rattle.std.specs.Prelude.{AllPairs, slice_get}
use Rattle.std.proofs.lemmas.List.{length-map}
use Rattle.av_base.proofs.Among.{among_at}
use Rattle.av_base.proofs.Lists.{each_by_place, get_mapped, pairs_first, pairs_rest, place_in, some_is, there_is}
use Rattle.av_flat.specs.Trees.{Piece, view_piece, view_variable}
use Rattle.av_space.specs.declared.array.Array.{Array as ArrayMade}
use Rattle.av_space.specs.declared.cells.Cell.{Cell}
use Rattle.av_space.specs.declared.spots.Spot.{Spot as SpotMade}
use Rattle.av_space.specs.Quantities.{IsUse}
use Rattle.av_space.specs.Spots.{system_of, placings_of, cells_of, ComputesIn, IsSpot, IsSlotIn}
use Rattle.av_space.proofs.ByPlace.{from_map}
use Rattle.av_space.proofs.Elements.{at_index, in_range}
use Rattle.av_kinds.proofs.Shared.{IsOne, AreAscending, ascending_same}
use Rattle.av_build.specs.declared.blueprint.Blueprint.{Blueprint}
use Rattle.av_build.specs.declared.blueprint.CellPlan.{CellPlan}
use Rattle.av_build.specs.inner.Blueprints.{seen, spots_on, ArePieces, IsBlueprint}
use Rattle.av_build.specs.inner.Built.{AreSorted}
use Rattle.av_build.specs.inner.Lanes.{AreKindsOf}
use Rattle.av_build.proofs.AlikeLanes.{piece_same}
use Rattle.av_build.proofs.CellUses.{some_spot}
use Rattle.av_build.proofs.HelperPlaces.{spot_at}
use Rattle.av_build.proofs.SamePieces.{HaveSameSpots, same_spots, same_plans}
use Rattle.av_build.proofs.SortingSteps.{same_turned}
use Rattle.av_build.proofs.SpotNodes.{cell_node, computed_piece}

-- ---- numbers

abbrev numbers : List SpotMade → List ℕ
numbers spots = map (λ (at : SpotMade). at.number) spots

abbrev IsLess : SpotMade → SpotMade → Type 0
IsLess at of = at.number < of.number

ascending : (spots : List SpotMade) → AllPairs IsLess spots → AreAscending (numbers spots)
ascending [] h = tt
ascending (at ∷ spots) h = (each_by_place (λ (k : ℕ). at.number < k) (numbers spots) (λ i k e. above i k e), ascending spots (pairs_rest IsLess at spots h))
  where
    above : (i k : ℕ) → slice_get (numbers spots) i ≡ Some k → at.number < k
    above i k e =
        let of = from_map (λ (s : SpotMade). s.number) spots i k e in
        subst (λ (m : ℕ). at.number < m) of.2 (pairs_first IsLess at of.0 spots h (among_at spots i of.0 of.1))

one_at : (ms : List ℕ) (k n : ℕ) → slice_get ms k ≡ Some n → IsOne n ms
one_at [] k n e = absurd cc
one_at (m ∷ ms) zero n e = inl (sym (some_is m n e))
one_at (m ∷ ms) (suc k) n e = inr (one_at ms k n e)

place_one : (ms : List ℕ) (n : ℕ) → IsOne n ms → (k : ℕ) × (slice_get ms k ≡ Some n)
place_one [] n h = absurd h
place_one (m ∷ ms) n (inl e) = (0, ap Some (sym e))
place_one (m ∷ ms) n (inr h) = let r = place_one ms n h in (suc r.0, r.1)

module _ (b : Blueprint) (is : IsBlueprint b) where
  abbrev w : ArrayMade
  w = b.array

  abbrev Use : ℕ → ℕ → Piece → Type 0
  Use p n piece = IsUse (system_of w) (placings_of w) (cells_of w) (record { cell = p; piece = n }) piece

  -- ---- the pieces on a cell and those with a computation on it

  module _ (p : ℕ) (plan : CellPlan) (is_plan : slice_get b.cells p ≡ Some plan) where
    pieces : ArePieces w p plan.pieces
    pieces = is.plans.pieces p plan is_plan

    on : (k : ℕ) (at : SpotMade) → slice_get (spots_on w plan.pieces) k ≡ Some at → (at.cell.0 ≡ p) × (0 < length at.slots) × IsSpot w at
    on k at e = spot_at w is.array p plan.pieces pieces k at e

    use_of : (k : ℕ) (at : SpotMade) → slice_get (spots_on w plan.pieces) k ≡ Some at → Use p at.number (view_piece at.piece.now)
    use_of k at e =
        let s = on k at e in
        let slot = there_is at.slots 0 s.1 in
        let computed = at_index (IsSlotIn w at.cell.0 at.node.0 at.piece.now.domain) at.slots s.2.are_slots.each 0 slot.0 slot.1 in
        record {
          cycle = slot.0.cycle;
          node = at.node.0;
          point = slot.0.point;
          computes = subst (λ (n : ℕ). ComputesIn w n slot.0.cycle at.node.0 slot.0.point) s.0 computed.computes;
          variable = view_variable at.var.now;
          is_variable = s.2.is_variable;
          is_piece = s.2.is_piece;
          within = computed.within;
        }

    -- the spot of a piece with a computation
    spot_of_use : (n : ℕ) (piece : Piece) → Use p n piece → (k : ℕ) × (at : SpotMade) × (slice_get (spots_on w plan.pieces) k ≡ Some at) × (at.number ≡ n) × (view_piece at.piece.now ≡ piece)
    spot_of_use n piece u =
        let among = pieces.spots.all u.cycle u.node u.point u.variable n piece u.computes u.is_variable u.is_piece u.within in
        let i = place_in (numbers (spots_on w plan.pieces)) n among in
        let at = from_map (λ (s : SpotMade). s.number) (spots_on w plan.pieces) i.0 n i.1 in
        let s = on i.0 at.0 at.1 in
        let here = computed_piece w p at.0 s.0 s.2 u.cycle u.node u.point u.computes u.variable u.is_variable n piece u.is_piece at.2 in
        (i.0, at.0, at.1, at.2, here)

  -- ---- two cells

  module _ (p q : ℕ) (x y : CellPlan) (is_x : slice_get b.cells p ≡ Some x) (is_y : slice_get b.cells q ≡ Some y) where
    -- with the same pieces
    node_same : HaveSameSpots (spots_on w x.pieces) (spots_on w y.pieces) → (c d : Cell) → slice_get (cells_of w) p ≡ Some c → slice_get (cells_of w) q ≡ Some d → c.node ≡ d.node
    node_same same c d is_c is_d =
        let some = some_spot w is.array p (in_range (cells_of w) p c is_c) (spots_on w x.pieces) (pieces p x is_x).spots in
        let size = same.0 in
        let at = there_is (spots_on w x.pieces) 0 some in
        let of = there_is (spots_on w y.pieces) 0 (omega (arith, some, size)) in
        let s = on p x is_x 0 at.0 at.1 in
        let t = on q y is_y 0 of.0 of.1 in
        cell_node w p at.0 s.0 s.2 c is_c ∙ (same.1 0 at.0 of.0 at.1 of.1).0 ∙ sym (cell_node w q of.0 t.0 t.2 d is_d)

    use_moved : HaveSameSpots (spots_on w x.pieces) (spots_on w y.pieces) → (n : ℕ) (piece : Piece) → Use p n piece → Use q n piece
    use_moved same n piece u =
        let found = spot_of_use p x is_x n piece u in
        let low = in_range (spots_on w x.pieces) found.0 found.1 found.2 in
        let size = same.0 in
        let of = there_is (spots_on w y.pieces) found.0 (omega (arith, low, size)) in
        let e = same.1 found.0 found.1 of.0 found.2 of.1 in
        let s = on p x is_x found.0 found.1 found.2 in
        let t = on q y is_y found.0 of.0 of.1 in
        let here : view_piece of.0.piece.now ≡ piece = sym (piece_same w found.1 of.0 s.2 t.2 e.0 e.1) ∙ found.4 in
        subst (λ (z : Piece). Use q n z) here (subst (λ (m : ℕ). Use q m (view_piece of.0.piece.now)) (sym e.1 ∙ found.3) (use_of q y is_y found.0 of.0 of.1))

    -- with the same uses
    number_moved : ((n : ℕ) (piece : Piece) → Use p n piece → Use q n piece) → (n : ℕ) → IsOne n (numbers (spots_on w x.pieces)) → IsOne n (numbers (spots_on w y.pieces))
    number_moved uses n h =
        let k = place_one (numbers (spots_on w x.pieces)) n h in
        let at = from_map (λ (s : SpotMade). s.number) (spots_on w x.pieces) k.0 n k.1 in
        let found = spot_of_use q y is_y at.0.number (view_piece at.0.piece.now) (uses at.0.number (view_piece at.0.piece.now) (use_of p x is_x k.0 at.0 at.1)) in
        one_at (numbers (spots_on w y.pieces)) found.0 n (get_mapped (λ (s : SpotMade). s.number) (spots_on w y.pieces) found.0 found.1 found.2 ∙ ap Some (found.3 ∙ at.2))

    same_numbers : (numbers (spots_on w x.pieces) ≡ numbers (spots_on w y.pieces)) → (c d : Cell) → slice_get (cells_of w) p ≡ Some c → slice_get (cells_of w) q ≡ Some d → c.node ≡ d.node → HaveSameSpots (spots_on w x.pieces) (spots_on w y.pieces)
    same_numbers e c d is_c is_d node = (
      (let a = length-map (spots_on w x.pieces) (λ (s : SpotMade). s.number) in
          let f = length-map (spots_on w y.pieces) (λ (s : SpotMade). s.number) in
          let size = ap (λ (l : List ℕ). length l) e in
          omega (arith, a, f, size)),
      (λ k at of is_at is_of. (
          let s = on p x is_x k at is_at in
          let t = on q y is_y k of is_of in (
            sym (cell_node w p at s.0 s.2 c is_c) ∙ node ∙ cell_node w q of t.0 t.2 d is_d,
            some_is at.number of.number (sym (get_mapped (λ (s : SpotMade). s.number) (spots_on w x.pieces) k at is_at) ∙ ap (λ (l : List ℕ). slice_get l k) e ∙ get_mapped (λ (s : SpotMade). s.number) (spots_on w y.pieces) k of is_of),
          ))),
    )

  same_uses : (p q : ℕ) (x y : CellPlan) (is_x : slice_get b.cells p ≡ Some x) (is_y : slice_get b.cells q ≡ Some y) (c d : Cell) → slice_get (cells_of w) p ≡ Some c → slice_get (cells_of w) q ≡ Some d → c.node ≡ d.node
      → ((n : ℕ) (piece : Piece) → Use p n piece ↔ Use q n piece) → HaveSameSpots (spots_on w x.pieces) (spots_on w y.pieces)
  same_uses p q x y is_x is_y c d is_c is_d node uses =
      let here = numbers (spots_on w x.pieces) in
      let there = numbers (spots_on w y.pieces) in
      let same = ascending_same here there (ascending (spots_on w x.pieces) (pieces p x is_x).spots.order) (ascending (spots_on w y.pieces) (pieces q y is_y).spots.order)
      (number_moved p q x y is_x is_y (λ n piece. (uses n piece).0)) (number_moved q p y x is_y is_x (λ n piece. (uses n piece).1)) in
      same_numbers p q x y is_x is_y same c d is_c is_d node

  pub sorted_by : (kinds : List ℕ) → AreKindsOf b.cells kinds → AreSorted (seen w) kinds
  sorted_by kinds are = λ p q j k c d is_c is_d is_j is_k.
      let many = is.plans.one_each in
      let low = in_range (cells_of w) p c is_c in
      let high = in_range (cells_of w) q d is_d in
      let x = there_is b.cells p (omega (arith, low, many)) in
      let y = there_is b.cells q (omega (arith, high, many)) in
      let by = are.same p q j k x.0 y.0 x.1 y.1 is_j is_k in (
        (λ e. (
            let same = same_spots w x.0.pieces.spots y.0.pieces.spots (by.0 e) in
            let turned = same_spots w y.0.pieces.spots x.0.pieces.spots (same_turned x.0.pieces.spots y.0.pieces.spots (by.0 e)) in (
              node_same p q x.0 y.0 x.1 y.1 same c d is_c is_d,
              λ n piece. (use_moved p q x.0 y.0 x.1 y.1 same n piece, use_moved q p y.0 x.0 y.1 x.1 turned n piece),
            ))),
        (λ h. by.1 (same_plans w x.0.pieces.spots y.0.pieces.spots (same_uses p q x.0 y.0 x.1 y.1 c d is_c is_d h.0 h.1))),
      )
