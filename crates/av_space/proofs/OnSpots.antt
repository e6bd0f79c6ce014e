-- The pieces on a cell, one after another.
use Rattle.std.proofs.Common.{◌≡◌, ℕ, ◌+◌, ◌<◌, ◌≤◌, inl, inr, Bool, IsTrue, Some, List, [], ◌∷◌, ◌++◌, length, map, get_or, sym, ap, subst, ◌∙◌, arith}
use Rattle.std.specs.Prelude.{slice_get, filter, All, AllPairs, Contains}
use Rattle.std.proofs.lemmas.Bool.{cases_lt}
use Rattle.std.proofs.lemmas.List.{map-append}
use Rattle.std.proofs.lemmas.List.Elements.{All-push, All-weaker, All-contains, Contains-append_left, Contains-push, Contains-get_or}
use Rattle.std.proofs.lemmas.List.Kept.{AllPairs-filter}
use Rattle.std.proofs.lemmas.List.Quantifiers.{all_pairs_push}
use Rattle.av_poly.specs.Points.{Set}
use Rattle.av_tree.specs.Points.{Point}
use Rattle.av_flat.specs.Trees.{Piece, Variable, view_piece, view_variable}
use Rattle.av_flat.specs.Points.{has}
use Rattle.av_flat.specs.Nodes.{nodes}
use Rattle.av_depend.proofs.Adds.{among_filter}
use Rattle.av_space.specs.declared.array.Array.{Array}
use Rattle.av_space.specs.declared.cells.Cell.{Cell}
use Rattle.av_space.specs.declared.layout.Slot.{Slot}
use Rattle.av_space.specs.declared.spots.Spot.{Spot}
use Rattle.av_space.specs.Layouts.{IsSlot, AreSlots}
use Rattle.av_space.specs.Spots.{system_of, placings_of, cells_of, ComputesIn, IsSlotIn, AreSlotsIn, IsSpot, AreSpots}
use Rattle.av_space.proofs.Elements.{in_range}
use Rattle.av_space.proofs.Fed.{from_filter}
use Rattle.av_base.proofs.Lists.{some_is}

-- ---- the computations of a piece on a cell

pub some_slots : (a : Array) (p : ℕ) (cell : Cell) (set : Set) (slots : List Slot) → slice_get (cells_of a) p ≡ Some cell → AreSlots (system_of a) (placings_of a) (cells_of a) p slots
    → AreSlotsIn a p cell.node set (filter (λ (t : Slot). has set t.point) slots)
some_slots a p cell set slots is_cell all = record {
  each = λ k d l. (let c = from_filter passes slots (get_or (filter passes slots) k d) (Contains-get_or (filter passes slots) k d l) in one (get_or (filter passes slots) k d) c.0 c.1);
  all = λ c z computes within. among_filter passes slots (record { cycle = c; point = z }) (all.all c cell.node z computes) within;
  order = AllPairs-filter (λ (t u : Slot). t.cycle < u.cycle) passes slots all.order;
}
  where
    passes : Slot → Bool
    passes t = has set t.point

    one : (t : Slot) → Contains slots t → IsTrue (has set t.point) → IsSlotIn a p cell.node set t
    one t c within =
        let i = All-contains (IsSlot (system_of a) (placings_of a) (cells_of a) p) slots t all.each c in
        let node : i.node ≡ cell.node = sym i.computes.stands.node ∙ ap (λ (x : Cell). x.node) (some_is i.computes.cell cell (sym i.computes.is_cell ∙ is_cell)) in
        record { computes = subst (λ (n : ℕ). ComputesIn a p t.cycle n t.point) node i.computes; within = within }

-- ---- the pieces with numbers below n

pub record AreSpotsBelow (a : Array) (p n : ℕ) (spots : List Spot) : Type 0 where
  pub each : All (λ at. (at.cell.0 ≡ p) × (0 < length at.slots) × IsSpot a at) spots
  pub low : All (λ at. at.number < n) spots
  pub all : (c m : ℕ) (z : Point) (v : Variable) (k : ℕ) (piece : Piece) → ComputesIn a p c m z → slice_get (nodes (system_of a)) m ≡ Some v → slice_get v.pieces k ≡ Some piece → IsTrue (has piece.domain z) → k < n
      → Contains (map (λ at. at.number) spots) k
  pub order : AllPairs (λ at of. at.number < of.number) spots

-- what computes on a cell is of the piece's variable
same_piece : (a : Array) (at : Spot) → IsSpot a at → (c m : ℕ) (z : Point) (v : Variable) (k : ℕ) (piece : Piece) → ComputesIn a at.cell.0 c m z → slice_get (nodes (system_of a)) m ≡ Some v → slice_get v.pieces k ≡ Some piece → k ≡ at.number
    → (m ≡ at.node.0) × (piece ≡ view_piece at.piece.now)
same_piece a at is c m z v k piece computes is_variable is_piece number =
    let node : m ≡ at.node.0 = sym computes.stands.node ∙ ap (λ (x : Cell). x.node) (some_is computes.cell is.cell (sym computes.is_cell ∙ is.is_cell)) ∙ is.node in
    let same : v ≡ view_variable at.var.now = some_is v (view_variable at.var.now) (sym is_variable ∙ ap (λ (i : ℕ). slice_get (nodes (system_of a)) i) node ∙ is.is_variable) in
    (node, some_is piece (view_piece at.piece.now) (sym is_piece ∙ ap (λ (w : Variable). slice_get w.pieces k) same ∙ ap (λ (i : ℕ). slice_get (view_variable at.var.now).pieces i) number ∙ is.is_piece))

-- a piece with a computation
pub one_spot_more : (a : Array) (p n : ℕ) (spots : List Spot) (at : Spot) → AreSpotsBelow a p n spots → at.cell.0 ≡ p → at.number ≡ n → 0 < length at.slots → IsSpot a at → AreSpotsBelow a p (n + 1) (spots ++ at ∷ [])
one_spot_more a p n spots at h cell number some is = record {
  each = All-push (λ (of : Spot). (of.cell.0 ≡ p) × (0 < length of.slots) × IsSpot a of) spots at h.each (cell, some, is);
  low = All-push (λ (of : Spot). of.number < n + 1) spots at (All-weaker (λ (of : Spot). of.number < n) (λ (of : Spot). of.number < n + 1) (λ of l. omega (arith, l)) spots h.low) (omega (arith, number));
  all = λ c m z v k piece computes is_variable is_piece within l.
      (let e = map-append (λ (of : Spot). of.number) spots (at ∷ []) in
      subst (λ (ks : List ℕ). Contains ks k) (sym e) (elim (cases_lt k n) [
        | inl lt ↦ Contains-append_left (map (λ (of : Spot). of.number) spots) (at.number ∷ []) k (h.all c m z v k piece computes is_variable is_piece within lt)
        | inr ge ↦ (let same : at.number ≡ k = omega (arith, number, ge, l) in subst (λ (i : ℕ). Contains (map (λ (of : Spot). of.number) spots ++ at.number ∷ []) i) same (Contains-push (map (λ (of : Spot). of.number) spots) at.number))
      ]));
  order = all_pairs_push (λ (b of : Spot). b.number < of.number) spots at h.order (All-weaker (λ (of : Spot). of.number < n) (λ (of : Spot). of.number < at.number) (λ of l. omega (arith, l, number)) spots h.low);
}

-- a piece without one
pub none_more : (a : Array) (p n : ℕ) (spots : List Spot) (at : Spot) → AreSpotsBelow a p n spots → at.cell.0 ≡ p → at.number ≡ n → length at.slots ≡ 0 → IsSpot a at → AreSpotsBelow a p (n + 1) spots
none_more a p n spots at h cell number none is = record {
  each = h.each;
  low = All-weaker (λ (of : Spot). of.number < n) (λ (of : Spot). of.number < n + 1) (λ of l. omega (arith, l)) spots h.low;
  all = λ c m z v k piece computes is_variable is_piece within l. (elim (cases_lt k n) [
    | inl lt ↦ h.all c m z v k piece computes is_variable is_piece within lt
    | inr ge ↦
        let here : ComputesIn a at.cell.0 c m z = subst (λ (i : ℕ). ComputesIn a i c m z) (sym cell) computes in
        let e = same_piece a at is c m z v k piece here is_variable is_piece (omega (arith, number, ge, l)) in
        let among = is.are_slots.all c z (subst (λ (i : ℕ). ComputesIn a at.cell.0 c i z) e.0 here) (subst (λ (q : Piece). IsTrue (has q.domain z)) e.1 within) in
        let low = among.1 in
        absurd (omega (arith, low, none))
  ]);
  order = h.order;
}

-- all pieces of the variable
pub all_spots : (a : Array) (p n : ℕ) (spots : List Spot) (cell : Cell) (v : Variable) → slice_get (cells_of a) p ≡ Some cell → slice_get (nodes (system_of a)) cell.node ≡ Some v → length v.pieces ≤ n → AreSpotsBelow a p n spots → AreSpots a p spots
all_spots a p n spots cell v is_cell is_variable many h = record {
  each = h.each;
  all = λ c m z w k piece computes is is_piece within. h.all c m z w k piece computes is is_piece within (below c m z w k piece computes is is_piece);
  order = h.order;
}
  where
    below : (c m : ℕ) (z : Point) (w : Variable) (k : ℕ) (piece : Piece) → ComputesIn a p c m z → slice_get (nodes (system_of a)) m ≡ Some w → slice_get w.pieces k ≡ Some piece → k < n
    below c m z w k piece computes is is_piece =
        let node : m ≡ cell.node = sym computes.stands.node ∙ ap (λ (x : Cell). x.node) (some_is computes.cell cell (sym computes.is_cell ∙ is_cell)) in
        let same : w ≡ v = some_is w v (sym is ∙ ap (λ (i : ℕ). slice_get (nodes (system_of a)) i) node ∙ is_variable) in
        let l = in_range w.pieces k piece is_piece in
        let e = ap (λ (u : Variable). length u.pieces) same in
        omega (arith, l, e, many)
