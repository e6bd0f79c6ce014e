-- The mode of a piece among all computations of its cell.
use Rattle.std.proofs.Common.{◌≡◌, ℕ, zero, suc, ◌+◌, ◌<◌, List, [], ◌∷◌, ◌++◌, length, map, inl, inr, refl, sym, ap, subst, ◌∙◌, arith, All, IsTrue, Some}
use Rattle.std.specs.Prelude.{slice_get}
use Rattle.av_base.proofs.Lists.{get_cases, some_is, place_in}
use Rattle.av_tree.specs.Points.{Point}
use Rattle.av_flat.specs.Trees.{view_piece, view_variable}
use Rattle.av_flat.specs.Nodes.{nodes}
use Rattle.av_flat.specs.Points.{has}
use Rattle.av_depend.specs.SetPoints.{IsPointOf}
use Rattle.av_space.specs.declared.layout.Slot.{Slot}
use Rattle.av_space.specs.declared.spots.Site.{Site}
use Rattle.av_space.specs.declared.spots.Spot.{Spot as SpotMade}
use Rattle.av_space.specs.Layouts.{IsSlot, AreSlots}
use Rattle.av_space.specs.Spots.{system_of, placings_of, cells_of, ComputesIn, IsSpot}
use Rattle.av_space.proofs.ByPlace.{from_map}
use Rattle.av_space.proofs.Elements.{at_index}
use Rattle.av_space.proofs.OnCells.{slot_points}
use Rattle.av_kinds.specs.declared.counter.Counter.{Counter}
use Rattle.av_kinds.specs.Programs.{Work, Mode}
use Rattle.av_kinds.specs.Written.{ModeMade, mode_of}
use Rattle.av_build.specs.declared.blueprint.Blueprint.{Blueprint}
use Rattle.av_build.specs.declared.blueprint.CellPlan.{CellPlan}
use Rattle.av_build.specs.declared.windows.CounterMark.{CounterMark}
use Rattle.av_build.specs.inner.Blueprints.{seen, spots_on, IsBlueprint, IsSpotOn}
use Rattle.av_build.specs.inner.Windows.{windows_by}
use Rattle.av_build.specs.inner.Lanes.{IsValueMode}
use Rattle.av_build.specs.inner.Orders.{IsInOrder, AreMarks}
use Rattle.av_build.specs.inner.Programmed.{IsModeFor}
use Rattle.av_build.proofs.HelperPlaces.{spot_at}
use Rattle.av_build.proofs.ModeLemmas.{mode_for}
use Rattle.av_build.proofs.Pairwise.{one_longer}
use Rattle.av_build.proofs.SpotNodes.{computed_node}

module _ (b : Blueprint) (is : IsBlueprint b) (p : ℕ) (plan : CellPlan) (is_plan : slice_get b.cells p ≡ Some plan) (k : ℕ) (at : SpotMade) (is_at : slice_get (spots_on b.array plan.pieces) k ≡ Some at) where
  here : (at.cell.0 ≡ p) × (0 < length at.slots) × IsSpot b.array at
  here = spot_at b.array is.array p plan.pieces (is.plans.pieces p plan is_plan) k at is_at

  pub is_on : (sites : List Site) → slice_get plan.pieces.sites k ≡ Some sites → IsSpotOn b at sites
  is_on sites are = record { plan = plan; is_plan = ap (λ (q : ℕ). slice_get b.cells q) here.0 ∙ is_plan; number = k; is_spot = is_at; are_sites = are }

  cell_is : slice_get (cells_of b.array) p ≡ Some here.2.cell
  cell_is = ap (λ (q : ℕ). slice_get (cells_of b.array) q) (sym here.0) ∙ here.2.is_cell

  -- the cell has one node
  node_is : (c n : ℕ) (z : Point) → ComputesIn b.array p c n z → n ≡ at.node.0
  node_is c n z computes = sym (computed_node b.array p at here.0 here.2 c n z computes)

  module _ (slots : List Slot) (are : AreSlots (system_of b.array) (placings_of b.array) (cells_of b.array) p slots) where
    -- all computations of the cell are points as the piece's set is asked for
    pub cell_points : All (λ (t : Slot). IsPointOf at.piece.now.domain t.point) slots
    cell_points = slot_points b.array.timed.now b.array.layout p (view_variable at.var.now) slots is.array.legal
        (record { cell = here.2.cell; is_cell = cell_is; is_variable = ap (λ (n : ℕ). slice_get (nodes (system_of b.array)) n) here.2.node ∙ here.2.is_variable; are_slots = are }) at.number (view_piece at.piece.now) here.2.is_piece

    pub piece_mode : (count : ℕ → ℕ) (order : List ℕ) → IsInOrder count slots order → (marks : List CounterMark) → AreMarks count slots order (λ (t : Slot). IsTrue (has at.piece.now.domain t.point)) (length order) marks → (work : Work)
        → IsModeFor (seen b.array) count p (λ m z. m ≡ at.node.0) (λ m z. IsTrue (has at.piece.now.domain z)) (record { windows = windows_by marks; work = work })
    piece_mode count order in_order marks told work =
        mode_for (seen b.array) count p slots order in_order (λ m z. m ≡ at.node.0) (λ m z. IsTrue (has at.piece.now.domain z)) (λ (t : Slot). IsTrue (has at.piece.now.domain t.point)) each all (λ c n z computes read. ((λ x. x), (λ x. x))) marks told work
      where
        each : (i : ℕ) (slot : Slot) → slice_get slots i ≡ Some slot → (n : ℕ) × ComputesIn b.array p slot.cycle n slot.point × (n ≡ at.node.0)
        each i slot e =
            let x = at_index (IsSlot (system_of b.array) (placings_of b.array) (cells_of b.array) p) slots are.each i slot e in
            (x.node, x.computes, node_is slot.cycle x.node slot.point x.computes)

        all : (c n : ℕ) (z : Point) → ComputesIn b.array p c n z → n ≡ at.node.0 → (i : ℕ) × (slice_get slots i ≡ Some (record { cycle = c; point = z }))
        all c n z computes e = place_in slots (record { cycle = c; point = z }) (are.all c n z computes)

-- ---- the modes of a cell's pieces, one after another

pub record AreModesTo (b : Blueprint) (counter : Counter) (p n : ℕ) (modes : List ModeMade) : Type 0 where
  pub one_each : length modes ≡ n
  pub each : (k : ℕ) (mode : ModeMade) → slice_get modes k ≡ Some mode → IsValueMode b counter p k (mode_of mode)

module _ (b : Blueprint) (counter : Counter) (p : ℕ) where
  pub no_modes : AreModesTo b counter p 0 []
  no_modes = record { one_each = refl; each = λ k mode e. absurd cc }

  pub mode_more : (n : ℕ) (modes new : List ModeMade) (mode : ModeMade) → AreModesTo b counter p n modes → IsValueMode b counter p n (mode_of mode) → new ≡ modes ++ mode ∷ [] → AreModesTo b counter p (n + 1) new
  mode_more n modes new mode are own is = subst (AreModesTo b counter p (n + 1)) (sym is) (record {
    one_each = one_longer modes n mode are.one_each;
    each = λ k other e. (elim (get_cases modes (mode ∷ []) k other e) [
      | inl l ↦ are.each k other l
      | inr r ↦ last r.0 k other r.1 r.2
    ]);
  })
    where
      last : (j k : ℕ) (other : ModeMade) → k ≡ length modes + j → slice_get (mode ∷ []) j ≡ Some other → IsValueMode b counter p k (mode_of other)
      last zero k other e f =
          let size = are.one_each in
          let at : n ≡ k = omega (arith, e, size) in
          subst (λ (i : ℕ). IsValueMode b counter p i (mode_of other)) at (subst (λ (m : ModeMade). IsValueMode b counter p n (mode_of m)) (some_is mode other f) own)
      last (suc j) k other e f = absurd cc

  pub each_mode : (n : ℕ) (modes : List ModeMade) → AreModesTo b counter p n modes → (k : ℕ) (mode : Mode) → slice_get (map mode_of modes) k ≡ Some mode → IsValueMode b counter p k mode
  each_mode n modes are k mode e = let m = from_map mode_of modes k mode e in subst (IsValueMode b counter p k) m.2 (are.each k m.0 m.1)
