-- The computations on a cell that are points of a piece of the cell's node.
use Rattle.std.proofs.Common.{◌≡◌, ◌∙◌, ℕ, zero, suc, ◌+◌, ◌-◌, ◌≤◌, ⊎_elim, Bool, true, false, if◌then◌else◌, Some, List, [], ◌∷◌, ◌++◌, length, length-append, refl, sym, ap, subst, arith}
use Rattle.std.specs.Prelude.{slice_get, filter, Option}
use Rattle.std.proofs.lemmas.List.Elements.{All-weaker}
use Rattle.std.proofs.lemmas.Option.{slice_get_within}
use Rattle.av_tree.specs.Points.{Point}
use Rattle.av_poly.specs.Points.{Set}
use Rattle.av_flat.specs.declared.timed.Timed.{Timed}
use Rattle.av_flat.specs.Trees.{Piece, Variable, FlatSystem, view_system}
use Rattle.av_flat.specs.Legal.{IsLegal}
use Rattle.av_flat.specs.Nodes.{nodes}
use Rattle.av_flat.specs.Points.{has}
use Rattle.av_depend.proofs.Adds.{among_filter}
use Rattle.av_space.specs.declared.cells.Cell.{Cell}
use Rattle.av_space.specs.declared.layout.Layout.{Layout}
use Rattle.av_space.specs.declared.layout.Slot.{Slot}
use Rattle.av_space.specs.declared.stretch.TapReading.{TapReading}
use Rattle.av_space.specs.Coordinates.{Placing}
use Rattle.av_space.specs.Taps.{Tap}
use Rattle.av_space.specs.Layouts.{IsLayout}
use Rattle.av_space.specs.inner.Apart.{AreOfNode}
use Rattle.av_space.specs.inner.Feeding.{is_entered, IsFirstOf}
use Rattle.av_space.specs.inner.NodePieces.{AreOfPiece, AreOwnSlots}
use Rattle.av_space.specs.inner.Readings.{IsConsumer, IsReadingOf, AreReadings, AreOwnTo}
use Rattle.av_space.proofs.Entered.{not_entered}
use Rattle.av_space.proofs.Fed.{from_filter}
use Rattle.av_space.proofs.FirstCells.{node_between}
use Rattle.av_space.proofs.OffCells.{are_of_node}
use Rattle.av_base.proofs.Lists.{get_cases, some_is, there_is}

-- ---- what a piece asks of the cells of its node

pub are_of_piece : (t : Timed) (l : Layout) (n k first last : ℕ) (v : Variable) (piece : Piece) → IsLegal t → IsLayout t l → slice_get (nodes (view_system t.flat)) n ≡ Some v → slice_get v.pieces k ≡ Some piece
    → IsFirstOf l.cells n first → IsFirstOf l.cells (n + 1) last → last ≤ length l.cells → AreOfPiece l.slots piece.domain first last
are_of_piece t l n k first last v piece legal layout is_variable is_piece from to within p slots low high e =
    let x = there_is l.cells p (omega (arith, high, within)) in
    let node = node_between l.cells n first last p x.0 from to low high x.1 in
    let own = ap (λ (i : ℕ). slice_get (nodes (view_system t.flat)) i) node ∙ is_variable in
    are_of_node t l p v slots legal layout.are_placings (record { cell = x.0; is_cell = x.1; is_variable = own; are_slots = layout.are_slots p slots e }) k piece is_piece

pub pieces_of_consumer : (t : Timed) (l : Layout) (p n : ℕ) (v : Variable) (slots : List Slot) → IsLegal t → IsLayout t l → IsConsumer (view_system t.flat) l.placements l.cells p n v slots
    → (k : ℕ) (piece : Piece) → slice_get v.pieces k ≡ Some piece → AreOfNode piece.domain slots
pieces_of_consumer t l p n v slots legal layout is k piece is_piece =
    let own = ap (λ (i : ℕ). slice_get (nodes (view_system t.flat)) i) is.node ∙ is.is_variable in
    are_of_node t l p v slots legal layout.are_placings (record { cell = is.cell; is_cell = is.is_cell; is_variable = own; are_slots = is.are_slots }) k piece is_piece

-- ---- lists that are filtered twice

filter_twice : {X : Type 0} (p q : X → Bool) → ((x : X) → q x ≡ false → p x ≡ false) → (xs : List X) → filter p (filter q xs) ≡ filter p xs
filter_twice {X} p q h [] = refl
filter_twice {X} p q h (x ∷ xs) = go (q x) refl (filter_twice p q h xs)
  where
    go : (b : Bool) → q x ≡ b → filter p (filter q xs) ≡ filter p xs → filter p (if b then x ∷ filter q xs else filter q xs) ≡ (if p x then x ∷ filter p xs else filter p xs)
    go true e more = ap (λ (ys : List X). if p x then x ∷ ys else ys) more
    go false e more = let none = h x e in rw none more

-- the reads of a reference are at points of its piece
pub entered_twice : (set : Set) (direction : Option Point) (slots : List Slot)
    → filter (λ t. is_entered set direction t.point) (filter (λ t. has set t.point) slots) ≡ filter (λ t. is_entered set direction t.point) slots
entered_twice set direction slots = filter_twice (λ (t : Slot). is_entered set direction t.point) (λ (t : Slot). has set t.point) (λ t e. not_entered set direction t.point e) slots

-- the readings at the points of the piece are all readings
pub readings_of_own : (s : FlatSystem) (placings : List Placing) (cells : List Cell) (n : ℕ) (t : Tap) (piece : Piece) (slots own : List Slot) → own ≡ filter (λ x. has piece.domain x.point) slots
    → (readings : List TapReading) → AreReadings (IsReadingOf s placings cells n t piece own) readings → AreReadings (IsReadingOf s placings cells n t piece slots) readings
readings_of_own s placings cells n t piece slots own e readings h =
    subst (λ (xs : List Slot). AreReadings (IsReadingOf s placings cells n t piece xs) readings → AreReadings (IsReadingOf s placings cells n t piece slots) readings) (sym e) whole h
  where
    whole : AreReadings (IsReadingOf s placings cells n t piece (filter (λ x. has piece.domain x.point) slots)) readings → AreReadings (IsReadingOf s placings cells n t piece slots) readings
    whole h = record {
      each = All-weaker (λ r. IsReadingOf s placings cells n t piece (filter (λ x. has piece.domain x.point) slots) r.cycle r.producer.0 r.delay) (λ r. IsReadingOf s placings cells n t piece slots r.cycle r.producer.0 r.delay)
          (λ r i. record { point = i.point; is_slot = (from_filter (λ (x : Slot). has piece.domain x.point) slots (record { cycle = r.cycle; point = i.point }) i.is_slot).0; is = i.is }) readings h.each;
      all = λ c q d i. h.all c q d (record { point = i.point; is_slot = among_filter (λ (x : Slot). has piece.domain x.point) slots (record { cycle = c; point = i.point }) i.is_slot i.is.within; is = i.is });
      order = h.order;
    }

-- ---- of more and more cells of one piece

last_part : (b c : List Slot) (j : ℕ) → slice_get (b ∷ []) j ≡ Some c → (j ≡ 0) × (b ≡ c)
last_part b c zero e = (refl, some_is b c e)
last_part b c (suc j) e = absurd cc

pub no_cells : (rows : List (List Slot)) (set : Set) (first : ℕ) → AreOwnSlots rows set first first []
no_cells rows set first = record { number = omega arith; each = λ k slots part is e. absurd cc }

pub one_cell_of_piece : (rows : List (List Slot)) (set : Set) (first p : ℕ) (own : List (List Slot)) (slots part : List Slot) → slice_get rows p ≡ Some slots → part ≡ filter (λ t. has set t.point) slots
    → AreOwnSlots rows set first p own → AreOwnSlots rows set first (p + 1) (own ++ part ∷ [])
one_cell_of_piece rows set first p own slots part is_slots is_part h =
    let many = h.number in
    let longer : length (own ++ part ∷ []) ≡ length own + 1 = length-append own (part ∷ []) in
    record {
      number = omega (arith, many, longer);
      each = λ k others some is e. ⊎_elim
          (λ before. h.each k others some is before)
          (λ behind.
          let last = last_part part some behind.0 behind.2 in
          let zero_is = last.0 in
          let at = behind.1 in
          let same : first + k ≡ p = omega (arith, zero_is, at, many) in
          let here : slots ≡ others = some_is slots others (sym is_slots ∙ ap (λ (i : ℕ). slice_get rows i) (sym same) ∙ is) in
          sym last.1 ∙ is_part ∙ ap (λ (ts : List Slot). filter (λ (t : Slot). has set t.point) ts) here)
          (get_cases own (part ∷ []) k some e);
    }

pub own_at : (rows : List (List Slot)) (set : Set) (first last p : ℕ) (own : List (List Slot)) (slots part : List Slot) → AreOwnSlots rows set first last own → first ≤ p → slice_get rows p ≡ Some slots → slice_get own (p - first) ≡ Some part
    → part ≡ filter (λ t. has set t.point) slots
own_at rows set first last p own slots part h low is e =
    let same : first + (p - first) ≡ p = omega (arith, low) in
    h.each (p - first) slots part (ap (λ (i : ℕ). slice_get rows i) same ∙ is) e

-- ---- of more and more pieces on one cell

pub no_pieces : (v : Variable) (slots : List Slot) → AreOwnTo v slots 0 []
no_pieces v slots = record { number = refl; within = omega arith; each = λ k piece part is e. absurd cc }

pub one_piece_of_cell : (v : Variable) (slots : List Slot) (n : ℕ) (own : List (List Slot)) (part : List Slot) (mine : Piece) → slice_get v.pieces n ≡ Some mine → part ≡ filter (λ t. has mine.domain t.point) slots
    → AreOwnTo v slots n own → AreOwnTo v slots (n + 1) (own ++ part ∷ [])
one_piece_of_cell v slots n own part mine is_mine is_part h =
    let many = h.number in
    let longer : length (own ++ part ∷ []) ≡ length own + 1 = length-append own (part ∷ []) in
    let there = slice_get_within v.pieces n mine is_mine in
    record {
      number = omega (arith, many, longer);
      within = omega (arith, there);
      each = λ k piece some is e. ⊎_elim
          (λ before. h.each k piece some is before)
          (λ behind.
          let last = last_part part some behind.0 behind.2 in
          let zero_is = last.0 in
          let at = behind.1 in
          let same : k ≡ n = omega (arith, zero_is, at, many) in
          let here : mine ≡ piece = some_is mine piece (sym is_mine ∙ ap (λ (i : ℕ). slice_get v.pieces i) (sym same) ∙ is) in
          sym last.1 ∙ is_part ∙ ap (λ (q : Piece). filter (λ (t : Slot). has q.domain t.point) slots) here)
          (get_cases own (part ∷ []) k some e);
    }
