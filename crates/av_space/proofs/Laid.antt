-- Layouts, node by node.
use Rattle.std.proofs.Common.{◌≡◌, ℕ, zero, suc, ◌+◌, ◌-◌, ◌<◌, ◌≤◌, append_assoc, ◌⊎◌, inl, inr, Some, List, [], ◌∷◌, ◌++◌, length, length-append, refl, sym, ap, subst, ◌∙◌, arith}
use Rattle.std.specs.Prelude.{slice_get, nat_lt}
use Rattle.std.specs.Option.{option_map}
use Rattle.std.proofs.lemmas.Int.{ints}
use Rattle.std.proofs.lemmas.Bool.{cases_lt}
use Rattle.std.proofs.lemmas.Option.{slice_get-map, slice_get_within}
use Rattle.std.proofs.lemmas.List.{append-nil, length_push, length-map}
use Rattle.std.proofs.lemmas.List.Elements.{All-append, All-weaker, All-contains, Contains-append_left, Contains-append_right}
use Rattle.av_tree.specs.Points.{Point}
use Rattle.av_flat.specs.declared.timed.Time.{Time}
use Rattle.av_flat.specs.declared.timed.Timed.{Timed}
use Rattle.av_flat.specs.Legal.{IsLegal}
use Rattle.av_flat.specs.Trees.{Variable, FlatSystem, view_system}
use Rattle.av_flat.specs.Nodes.{nodes, IsComputation}
use Rattle.av_space.specs.declared.cells.Cell.{Cell}
use Rattle.av_space.specs.declared.layout.Slot.{Slot}
use Rattle.av_space.specs.declared.ranked.Ranked.{Ranked}
use Rattle.av_space.specs.Coordinates.{Placing, IsPlacing, ArePlacings}
use Rattle.av_space.specs.Occupancy.{Occupies, IsUsed, IsCellBefore, AreCells, Computes}
use Rattle.av_space.specs.SpaceFaults.{IsCycles}
use Rattle.av_space.specs.Layouts.{AreSlots}
use Rattle.av_space.specs.inner.Laying.{HasFewCycles, HasCellCount, ranked_at, cell_of, AreRanked, IsRunEnd, AreCellsTo, AreCellsIn, IsFilled, AreFilled}
use Rattle.av_space.specs.Layouts.{IsSlot, IsLayout}
use Rattle.av_space.specs.declared.layout.Layout.{Layout}
use Rattle.av_flat.specs.Signatures.{signatures, is_computed}
use Rattle.av_flat.specs.Chained.{IsChainedPiece}
use Rattle.av_flat.proofs.Sets.{both_true}
use Rattle.av_space.proofs.Grouped.{slots_of, cells_none, cells_more, cells_of_node, filled}
use Rattle.av_flat.proofs.NodeNumbers.{chained_node, node_passes}
use Rattle.av_space.proofs.Nodes.{computed_point}
use Rattle.av_space.proofs.Orders.{pairs_append}
use Rattle.av_base.proofs.Lists.{all_at, there_is}

-- ---- cells of several nodes

pub no_cells : (s : FlatSystem) (placings : List Placing) → AreCellsIn s placings 0 0 []
no_cells s placings = record {
  each = λ k d l. absurd (omega (arith, l));
  all = λ cell low high u. absurd (omega (arith, high));
  order = λ i j d l m. absurd (omega (arith, m));
}

pub cells_joined : (s : FlatSystem) (placings : List Placing) (low middle high : ℕ) (xs ys : List Cell) → low ≤ middle → middle ≤ high → AreCellsIn s placings low middle xs → AreCellsIn s placings middle high ys → AreCellsIn s placings low high (xs ++ ys)
cells_joined s placings low middle high xs ys lm mh h k = record {
  each = All-append (IsIn low high) xs ys
      (All-weaker (IsIn low middle) (IsIn low high) (λ cell c. (c.0, (let l = c.1 in omega (arith, l, mh)), c.2)) xs h.each)
      (All-weaker (IsIn middle high) (IsIn low high) (λ cell c. ((let l = c.0 in omega (arith, l, lm)), c.1, c.2)) ys k.each);
  all = λ cell l m u. elim (cases_lt cell.node middle) [
    | inl lt ↦ Contains-append_left xs ys cell (h.all cell l lt u)
    | inr ge ↦ Contains-append_right xs ys cell (k.all cell ge m u)
  ];
  order = pairs_append IsCellBefore xs ys h.order k.order (λ x y a b.
      let c = All-contains (IsIn low middle) xs x h.each a in
      let d = All-contains (IsIn middle high) ys y k.each b in
      let l = c.1 in
      let m = d.0 in
      inl (omega (arith, l, m)));
}
  where
    IsIn : ℕ → ℕ → Cell → Type 0
    IsIn from to cell = (from ≤ cell.node) × (cell.node < to) × IsUsed s placings cell

pub all_cells : (s : FlatSystem) (placings : List Placing) (number : ℕ) (cells : List Cell) → length (nodes s) ≤ number → AreCellsIn s placings 0 number cells → AreCells s placings cells
all_cells s placings number cells whole h = record {
  each = All-weaker (λ (cell : Cell). (0 ≤ cell.node) × (cell.node < number) × IsUsed s placings cell) (IsUsed s placings) (λ cell c. c.2) cells h.each;
  all = λ cell u.
      let l = slice_get_within (nodes s) u.1 u.3.computation.variable u.3.computation.is in
      let e = u.3.node in
      h.all cell (omega arith) (omega (arith, l, e, whole)) u;
  order = h.order;
}

-- ---- the computations of cells

push_cases : {X : Type 0} (xs : List X) (y x : X) (k : ℕ) → slice_get (xs ++ y ∷ []) k ≡ Some x → (slice_get xs k ≡ Some x) ⊎ ((k ≡ length xs) × (y ≡ x))
push_cases [] y x zero e = inr (refl, cc)
push_cases [] y x (suc k) e = absurd cc
push_cases (z ∷ xs) y x zero e = inl e
push_cases (z ∷ xs) y x (suc k) e = elim (push_cases xs y x k e) [ inl h ↦ inl h | inr h ↦ inr (ap suc h.0, h.1) ]

pub none_filled : (s : FlatSystem) (placings : List Placing) → AreFilled s placings [] []
none_filled s placings = record { one_each = refl; each = λ k cell own e f. absurd cc }

pub filled_more : (s : FlatSystem) (placings : List Placing) (cells : List Cell) (slots : List (List Slot)) (cell : Cell) (own : List Slot) → AreFilled s placings cells slots → IsFilled s placings cell own
    → AreFilled s placings (cells ++ cell ∷ []) (slots ++ own ∷ [])
filled_more s placings cells slots cell own h f =
    let n = h.one_each in
    record {
      one_each = (let a = length_push cells cell in let b = length_push slots own in omega (arith, n, a, b));
      each = λ k c o e g. both k c o (push_cases cells cell c k e) (push_cases slots own o k g);
    }
  where
    both : (k : ℕ) (c : Cell) (o : List Slot) → (slice_get cells k ≡ Some c) ⊎ ((k ≡ length cells) × (cell ≡ c)) → (slice_get slots k ≡ Some o) ⊎ ((k ≡ length slots) × (own ≡ o)) → IsFilled s placings c o
    both k c o (inl e) (inl g) = h.each k c o e g
    both k c o (inl e) (inr g) = absurd (let l = slice_get_within cells k c e in let m = g.0 in let n = h.one_each in omega (arith, l, m, n))
    both k c o (inr e) (inl g) = absurd (let l = slice_get_within slots k o g in let m = e.0 in let n = h.one_each in omega (arith, l, m, n))
    both k c o (inr e) (inr g) = subst (λ (w : Cell). IsFilled s placings w o) e.1 (subst (λ (w : List Slot). IsFilled s placings cell w) g.1 f)

pub slots_of_cell : (s : FlatSystem) (placings : List Placing) (cells : List Cell) (slots : List (List Slot)) (k : ℕ) (own : List Slot) → AreFilled s placings cells slots → slice_get slots k ≡ Some own → AreSlots s placings cells k own
slots_of_cell s placings cells slots k own h e =
    let l = slice_get_within slots k own e in
    let n = h.one_each in
    let c = there_is cells k (omega (arith, l, n)) in
    let f = h.each k c.0 own c.1 e in
    record {
      each = All-weaker (λ (t : Slot). (n : ℕ) × Occupies s placings c.0 t.cycle n t.point) (IsSlot s placings cells k) (λ t r. record { node = r.0; computes = record { cell = c.0; is_cell = c.1; stands = r.1 } }) own f.each;
      all = λ y n z r.
          let i = r.is_cell in
          let j = c.1 in
          let same : r.cell ≡ c.0 = cc in
          f.all y n z (subst (λ (w : Cell). Occupies s placings w y n z) same r.stands);
      order = f.order;
    }

-- ---- what is granted

pub node_computes : (t : Timed) (n : ℕ) → IsLegal t → n < length (nodes (view_system t.flat)) → (z : Point) × IsComputation (view_system t.flat) n z
node_computes t n h l =
    let v = there_is (nodes (view_system t.flat)) n l in
    let c = chained_node (view_system t.flat) n v.0 h.chained v.1 in
    let some = node_pieces (view_system t.flat) n v.0 v.1 in
    let p = there_is v.0.pieces 0 some in
    let k = all_at (IsChainedPiece (signatures (view_system t.flat)) v.0) v.0.pieces 0 p.0 c.pieces p.1 in
    (k.point, computed_point (view_system t.flat) n v.0 k.point v.1 (k.within k.point k.has_point))
  where
    node_pieces : (s : FlatSystem) (n : ℕ) (v : Variable) → slice_get (nodes s) n ≡ Some v → 0 < length v.pieces
    node_pieces s n v e = let h = (both_true (is_computed v.kind) (nat_lt 0 (length v.pieces)) (node_passes s n v e)).1 in grind (arith, h)

pub few_cycles : (t : Timed) (count : ℕ) → IsCycles t count → count ≤ 4096 → HasFewCycles t
few_cycles t count h few = λ n z u c e. let a = h.above n z u c e in omega (arith, ints, a, few)

pub placing_time : (times : List Time) (placings : List Placing) (n : ℕ) (p : Placing) → ArePlacings times placings → slice_get placings n ≡ Some p → slice_get times n ≡ Some p.time
placing_time times placings n p h e = ap (λ (ts : List Time). slice_get ts n) (sym h.times_are) ∙ slice_get-map (λ (q : Placing). q.time) placings n ∙ ap (option_map (λ (q : Placing). q.time)) e

pub in_few_cycles : (t : Timed) (placings : List Placing) (cells : List Cell) (k c n : ℕ) (z : Point) → ArePlacings t.times placings → HasFewCycles t → Computes (view_system t.flat) placings cells k c n z → c < 4096
in_few_cycles t placings cells k c n z are few h =
    let a = few n z h.stands.placing.time h.stands.computation (placing_time t.times placings n h.stands.placing are h.stands.is_placing) in
    let e = h.stands.in_cycle in
    omega (arith, ints, a, e)

-- ---- loops over the computations of a node

-- the cells so far are counted
pub record AreCounted (n : ℕ) (p : Placing) (ranked : List Ranked) (start count : ℕ) : Type 0 where
  pub cells : List Cell
  pub to : AreCellsTo n p ranked start cells
  pub number : length cells ≡ count
  pub below : count ≤ start
  pub within : start ≤ length ranked
  pub some : 0 < start → 0 < count

pub counted_more : (t : Timed) (n : ℕ) (p : Placing) (ranked : List Ranked) (start end count : ℕ) → IsLegal t → IsPlacing p → slice_get t.times n ≡ Some p.time → AreRanked (view_system t.flat) n p ranked
    → start < length ranked → IsRunEnd ranked start end → AreCounted n p ranked start count → AreCounted n p ranked end (count + 1)
counted_more t n p ranked start end count legal placing time are l run h =
    let first = there_is ranked start l in
    let above = run.above in
    let below = h.below in
    let number = h.number in
    let size = length_push h.cells (cell_of n p first.0) in
    record {
      cells = h.cells ++ cell_of n p first.0 ∷ [];
      to = cells_more t n p legal placing time ranked are start end first.0 h.cells first.1 run h.to;
      number = omega (arith, size, number);
      below = omega (arith, above, below);
      within = run.within;
      some = λ m. omega arith;
    }

pub counted_all : (t : Timed) (n : ℕ) (p : Placing) (ranked : List Ranked) (start count : ℕ) → IsLegal t → IsPlacing p → slice_get t.times n ≡ Some p.time → AreRanked (view_system t.flat) n p ranked
    → length ranked ≤ start → AreCounted n p ranked start count → (placings : List Placing) → slice_get placings n ≡ Some p → HasCellCount (view_system t.flat) placings n (n + 1) count
counted_all t n p ranked start count legal placing time are l h placings is =
    record { cells = h.cells; are = cells_of_node t n p legal placing time ranked are placings is start h.cells l h.to; number = h.number }

pub ranked_some : (t : Timed) (n : ℕ) (p : Placing) (ranked : List Ranked) → IsLegal t → n < length (nodes (view_system t.flat)) → AreRanked (view_system t.flat) n p ranked → 0 < length ranked
ranked_some t n p ranked legal within are =
    let c = node_computes t n legal within in
    let k = are.all c.0 c.1 in
    let l = slice_get_within ranked k.0 (ranked_at p c.0) k.1 in
    omega (arith, l)

-- the cells so far stand behind those of the nodes before
pub record AreLaid (s : FlatSystem) (n : ℕ) (p : Placing) (ranked : List Ranked) (start : ℕ) (old : List Cell) (old_slots : List (List Slot)) (cells : List Cell) (slots : List (List Slot)) : Type 0 where
  pub own : List Cell
  pub are : cells ≡ old ++ own
  pub to : AreCellsTo n p ranked start own
  pub filled : (placings : List Placing) → slice_get placings n ≡ Some p → AreFilled s placings old old_slots → AreFilled s placings cells slots
  pub within : start ≤ length ranked

pub laid_more : (t : Timed) (n : ℕ) (p : Placing) (ranked : List Ranked) (start end : ℕ) (first : Ranked) (old cells new : List Cell) (old_slots slots new_slots : List (List Slot)) → IsLegal t → IsPlacing p → slice_get t.times n ≡ Some p.time
    → AreRanked (view_system t.flat) n p ranked → slice_get ranked start ≡ Some first → IsRunEnd ranked start end → new ≡ cells ++ cell_of n p first ∷ [] → new_slots ≡ slots ++ slots_of ranked start (end - start) ∷ []
    → AreLaid (view_system t.flat) n p ranked start old old_slots cells slots → AreLaid (view_system t.flat) n p ranked end old old_slots new new_slots
laid_more t n p ranked start end first old cells new old_slots slots new_slots legal placing time are ef run e f h = record {
  own = h.own ++ cell_of n p first ∷ [];
  are = e ∙ ap (λ (cs : List Cell). cs ++ cell_of n p first ∷ []) h.are ∙ append_assoc old h.own (cell_of n p first ∷ []);
  to = cells_more t n p legal placing time ranked are start end first h.own ef run h.to;
  filled = λ placings is k.
      subst (λ (cs : List Cell). AreFilled (view_system t.flat) placings cs new_slots) (sym e) (subst (λ (ss : List (List Slot)). AreFilled (view_system t.flat) placings (cells ++ cell_of n p first ∷ []) ss) (sym f)
      (filled_more (view_system t.flat) placings cells slots (cell_of n p first) (slots_of ranked start (end - start)) (h.filled placings is k) (filled t n p legal placing time ranked are placings is start end first h.own ef run h.to)));
  within = run.within;
}

pub laid_all : (t : Timed) (n : ℕ) (p : Placing) (ranked : List Ranked) (start : ℕ) (old cells : List Cell) (old_slots slots : List (List Slot)) → IsLegal t → IsPlacing p → slice_get t.times n ≡ Some p.time
    → AreRanked (view_system t.flat) n p ranked → length ranked ≤ start → AreLaid (view_system t.flat) n p ranked start old old_slots cells slots → (placings : List Placing) → slice_get placings n ≡ Some p
    → AreCellsIn (view_system t.flat) placings 0 n old → AreCellsIn (view_system t.flat) placings 0 (n + 1) cells
laid_all t n p ranked start old cells old_slots slots legal placing time are l h placings is k =
    subst (AreCellsIn (view_system t.flat) placings 0 (n + 1)) (sym h.are)
    (cells_joined (view_system t.flat) placings 0 n (n + 1) old h.own (omega arith) (omega arith) k (cells_of_node t n p legal placing time ranked are placings is start h.own l h.to))

pub laid_none : (s : FlatSystem) (n : ℕ) (p : Placing) (ranked : List Ranked) (old : List Cell) (old_slots : List (List Slot)) → AreLaid s n p ranked 0 old old_slots old old_slots
laid_none s n p ranked old old_slots = record { own = []; are = sym (append-nil old); to = cells_none n p ranked; filled = λ placings is k. k; within = omega arith }

pub counted_none : (n : ℕ) (p : Placing) (ranked : List Ranked) → AreCounted n p ranked 0 0
counted_none n p ranked = record { cells = []; to = cells_none n p ranked; number = refl; below = omega arith; within = omega arith; some = λ l. absurd (omega (arith, l)) }

-- ---- all nodes

pub placings_number : (t : Timed) (placings : List Placing) → IsLegal t → ArePlacings t.times placings → length placings ≡ length (nodes (view_system t.flat))
placings_number t placings h are = sym (length-map placings (λ (p : Placing). p.time)) ∙ ap (λ (ts : List Time). length ts) are.times_are ∙ h.schedule.one_each

pub no_count : (s : FlatSystem) (placings : List Placing) → HasCellCount s placings 0 0 0
no_count s placings = record { cells = []; are = no_cells s placings; number = refl }

pub count_joined : (s : FlatSystem) (placings : List Placing) (n a b : ℕ) → HasCellCount s placings 0 n a → HasCellCount s placings n (n + 1) b → HasCellCount s placings 0 (n + 1) (a + b)
count_joined s placings n a b h k = record {
  cells = h.cells ++ k.cells;
  are = cells_joined s placings 0 n (n + 1) h.cells k.cells (omega arith) (omega arith) h.are k.are;
  number = (let l = length-append h.cells k.cells in let x = h.number in let y = k.number in omega (arith, l, x, y));
}

pub made_layout : (t : Timed) (l : Layout) → ArePlacings t.times l.placements → IsCycles t l.cycles → l.cycles ≤ 4096
    → (n : ℕ) → length (nodes (view_system t.flat)) ≤ n → AreCellsIn (view_system t.flat) l.placements 0 n l.cells → AreFilled (view_system t.flat) l.placements l.cells l.slots
    → length l.cells ≤ 2048 → IsLayout t l
made_layout t l placings cycles limit n whole are filled few =
    let own = all_cells (view_system t.flat) l.placements n l.cells whole are in
    record {
      are_placings = placings;
      are_cells = own;
      few_cells = few;
      cycle_count = cycles;
      limit = limit;
      few_cycles = λ k c n z x. in_few_cycles t l.placements l.cells k c n z placings (few_cycles t l.cycles cycles limit) x;
      one_each = filled.one_each;
      are_slots = λ k own e. slots_of_cell (view_system t.flat) l.placements l.cells l.slots k own filled e;
    }
