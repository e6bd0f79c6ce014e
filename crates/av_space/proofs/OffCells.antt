-- Computations on a cell, which stand in turn on a line, and sets that have none of them.
use Rattle.std.proofs.Common.{◌≡◌, ◌∙◌, ℕ, ◌-◌, ◌≤◌, ℤ, pos, ◌-ℤ◌, ◌≤ℤ◌, Bool, true, false, true≢false, IsTrue, Some, List, [], ◌∷◌, length, map, refl, sym, ap, subst, arith, All, Any}
use Rattle.std.specs.Prelude.{slice_get, filter}
use Rattle.std.proofs.lemmas.Int.{ints}
use Rattle.std.proofs.lemmas.List.Elements.{All-head, All-tail, All-weaker}
use Rattle.av_affine.specs.declared.form.Form.{Form}
use Rattle.av_tree.specs.Points.{Point}
use Rattle.av_poly.specs.Points.{Set, Holds, HoldsAt}
use Rattle.av_poly.proofs.Parting.{complement_points}
use Rattle.av_flat.specs.declared.timed.Timed.{Timed}
use Rattle.av_flat.specs.Trees.{Piece, Variable, FlatSystem, view_system}
use Rattle.av_flat.specs.Points.{has}
use Rattle.av_flat.specs.Chained.{IsChainedPiece}
use Rattle.av_flat.specs.Legal.{IsLegal}
use Rattle.av_flat.specs.Schedules.{cycle}
use Rattle.av_flat.specs.Signatures.{signatures}
use Rattle.av_flat.proofs.Sets.{has_is}
use Rattle.av_space.specs.declared.cells.Cell.{Cell}
use Rattle.av_space.specs.declared.layout.Layout.{Layout}
use Rattle.av_space.specs.declared.layout.Slot.{Slot}
use Rattle.av_space.specs.Coordinates.{Placing, IsPlacing, ArePlacings, along}
use Rattle.av_space.specs.Occupancy.{Computes}
use Rattle.av_space.specs.inner.Apart.{StandsBetween, AreBetweenEnds, AreOfNode}
use Rattle.av_space.proofs.ByPlace.{all_by_place}
use Rattle.av_space.proofs.Grouped.{linear_size}
use Rattle.av_space.proofs.Laid.{placing_time}
use Rattle.av_space.proofs.Nodes.{time_at}
use Rattle.av_space.proofs.OnCells.{IsCellOf, chained_node, slot_computes, slot_points}
use Rattle.av_space.proofs.Placed.{between_points}
use Rattle.av_space.proofs.SlotEnds.{are_ends}
use Rattle.av_base.proofs.Among.{among_at}
use Rattle.av_base.proofs.Lists.{all_at, some_is}

-- ---- a line

-- a computation by the cell and the placing that are known
stands_on : (s : FlatSystem) (placings : List Placing) (cells : List Cell) (p n : ℕ) (cell : Cell) (placing : Placing) → slice_get cells p ≡ Some cell → slice_get placings n ≡ Some placing
    → (c : ℕ) (z : Point) → Computes s placings cells p c n z → (along placing.rows z ≡ cell.at) × (pos c ≡ cycle placing.time z)
stands_on s placings cells p n cell placing is_cell is_placing c z h =
    let same : h.stands.placing ≡ placing = some_is h.stands.placing placing (sym h.stands.is_placing ∙ is_placing) in
    let own : h.cell ≡ cell = some_is h.cell cell (sym h.is_cell ∙ is_cell) in (
      ap (λ (q : Placing). along q.rows z) (sym same) ∙ sym h.stands.at ∙ ap (λ (k : Cell). k.at) own,
      subst (λ (q : Placing). pos c ≡ cycle q.time z) same h.stands.in_cycle,
    )

-- what holds where a row does not
abbrev outside : ℕ → Form → Set
outside dim row = record { dim = dim; rows = record { coef = map (λ x. pos 0 -ℤ x) row.coef; constant = pos 0 -ℤ row.constant -ℤ pos 1 } ∷ [] }

is_outside : (dim : ℕ) (row : Form) (z : Point) → length z ≡ dim → (HoldsAt row z → ⊥) → IsTrue (has (outside dim row) z)
is_outside dim row z size fails =
    let other : Form = record { coef = map (λ x. pos 0 -ℤ x) row.coef; constant = pos 0 -ℤ row.constant -ℤ pos 1 } in
    (has_is (outside dim row) z).1 (record { dimension = size; holds = ((complement_points row other z refl refl).1 fails, tt) })

outside_fails : (dim : ℕ) (row : Form) (z : Point) → IsTrue (has (outside dim row) z) → HoldsAt row z → ⊥
outside_fails dim row z t =
    let other : Form = record { coef = map (λ x. pos 0 -ℤ x) row.coef; constant = pos 0 -ℤ row.constant -ℤ pos 1 } in
    (complement_points row other z refl refl).0 ((has_is (outside dim row) z).0 t).holds.0

module _ (t : Timed) (placings : List Placing) (cells : List Cell) (legal : IsLegal t) (are : ArePlacings t.times placings) where
  abbrev own : FlatSystem
  own = view_system t.flat

  -- on a cell, a computation between two others in time stands between them
  in_turn : (p n : ℕ) (x y z : Slot) → Computes own placings cells p x.cycle n x.point → Computes own placings cells p y.cycle n y.point → Computes own placings cells p z.cycle n z.point
      → x.cycle ≤ y.cycle → y.cycle ≤ z.cycle → StandsBetween x.point z.point y.point
  in_turn p n x y z hx hy hz low high row fails_x fails_z =
      let placing = hy.stands.placing in
      let is = hy.stands.is_placing in
      let time = placing_time t.times placings n placing are is in
      let good : IsPlacing placing = all_at IsPlacing placings n placing are.each is in
      let dim = length placing.time.linear in
      let few = (time_at t n placing.time legal time).few in
      let lx = linear_size t n placing x.point legal time hx.stands.computation in
      let ly = linear_size t n placing y.point legal time hy.stands.computation in
      let lz = linear_size t n placing z.point legal time hz.stands.computation in
      let ax = stands_on own placings cells p n hy.cell placing hy.is_cell is x.cycle x.point hx in
      let ay = stands_on own placings cells p n hy.cell placing hy.is_cell is y.cycle y.point hy in
      let az = stands_on own placings cells p n hy.cell placing hy.is_cell is z.cycle z.point hz in
      let before : cycle placing.time x.point ≤ℤ cycle placing.time y.point = (let a = ax.1 in let b = ay.1 in omega (arith, ints, a, b, low)) in
      let after : cycle placing.time y.point ≤ℤ cycle placing.time z.point = (let a = ay.1 in let b = az.1 in omega (arith, ints, a, b, high)) in
      outside_fails dim row y.point
      (between_points placing good few (outside dim row) x.point y.point z.point lx ly lz (ax.0 ∙ sym ay.0) (az.0 ∙ sym ay.0) before after (is_outside dim row x.point lx fails_x) (is_outside dim row z.point lz fails_z))

  between_ends : (p : ℕ) (v : Variable) (slots : List Slot) → IsCellOf own placings cells p v slots → AreBetweenEnds slots
  between_ends p v slots on first last is_first is_last =
      all_by_place (λ (x : Slot). StandsBetween first.point last.point x.point) slots (λ k x is.
      let ends = are_ends slots on.are_slots.order first last (length slots - 1) is_first is_last (omega arith) in
      let between = all_at (λ (u : Slot). (first.cycle ≤ u.cycle) × (u.cycle ≤ last.cycle)) slots k x ends.between is in
      in_turn p on.cell.node first x last
      (slot_computes own placings cells p v slots on first (among_at slots 0 first is_first)).0
      (slot_computes own placings cells p v slots on x (among_at slots k x is)).0
      (slot_computes own placings cells p v slots on last (among_at slots (length slots - 1) last is_last)).0
      between.0 between.1)

-- the computations on a cell, and the set of a piece of the cell's node
pub are_of_node : (t : Timed) (l : Layout) (p : ℕ) (v : Variable) (slots : List Slot) → IsLegal t → ArePlacings t.times l.placements → IsCellOf (view_system t.flat) l.placements l.cells p v slots
    → (k : ℕ) (piece : Piece) → slice_get v.pieces k ≡ Some piece → AreOfNode piece.domain slots
are_of_node t l p v slots legal are on k piece is =
    let s = view_system t.flat in
    let chained = chained_node t on.cell.node v legal on.is_variable in
    record {
      points = slot_points t l p v slots legal on k piece is;
      rows = (all_at (IsChainedPiece (signatures s) v) v.pieces k piece chained.pieces is).rows;
      ends = between_ends t l.placements l.cells legal are p v slots on;
    }

-- ---- sets without a computation

not_there : (b : Bool) → (IsTrue b → ⊥) → b ≡ false
not_there true f = absurd (f refl)
not_there false f = refl

pub none_of_rows : (set : Set) (first last : Point) (slots : List Slot) → All (λ t. StandsBetween first last t.point) slots → ((z : List ℤ) → StandsBetween first last z → Holds set.rows z → ⊥)
    → All (λ t. has set t.point ≡ false) slots
none_of_rows set first last slots between none =
    All-weaker (λ t. StandsBetween first last t.point) (λ t. has set t.point ≡ false) (λ t b. not_there (has set t.point) (λ h. none t.point b ((has_is set t.point).0 h).holds)) slots between

pub none_filtered : {X : Type 0} (test : X → Bool) (xs : List X) → All (λ x. test x ≡ false) xs → filter test xs ≡ []
none_filtered test [] h = refl
none_filtered test (x ∷ xs) h =
    let e = All-head (λ y. test y ≡ false) x xs h in
    rw e (none_filtered test xs (All-tail (λ y. test y ≡ false) x xs h))

pub none_any : (set : Set) (slots : List Slot) → All (λ t. has set t.point ≡ false) slots → Any (λ t. IsTrue (has set t.point)) slots → ⊥
none_any set slots h (k, t, l, e, p) = true≢false (sym p ∙ subst (λ (x : Slot). has set x.point ≡ false) e (h k t l))
