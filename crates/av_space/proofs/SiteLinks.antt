-- The links of one tap site on a cell are the stretches of its readings.
use Rattle.std.proofs.Common.{◌≡◌, ℕ, ◌<◌, ◌≤◌, List, [], ◌++◌, get_or, length, refl, sym, ap, subst, ◌∙◌, arith, Some}
use Rattle.std.specs.Prelude.{slice_get, Contains}
use Rattle.std.proofs.lemmas.List.Elements.{All-contains}
use Rattle.av_flat.specs.declared.timed.Helper.{Helper}
use Rattle.av_flat.specs.declared.timed.Timed.{Timed}
use Rattle.av_flat.specs.Trees.{Piece, Variable, FlatSystem, view_system, view_variable}
use Rattle.av_flat.specs.Legal.{IsLegal}
use Rattle.av_flat.specs.Nodes.{nodes, node_place}
use Rattle.av_flat.specs.Points.{has}
use Rattle.av_space.specs.declared.cells.Cell.{Cell}
use Rattle.av_space.specs.declared.cells.Link.{Link}
use Rattle.av_space.specs.declared.layout.Slot.{Slot}
use Rattle.av_space.specs.declared.linking.Consumer.{Consumer}
use Rattle.av_space.specs.declared.layout.Layout.{Layout}
use Rattle.av_space.specs.declared.stretch.TapReading.{TapReading}
use Rattle.av_space.specs.Coordinates.{Placing}
use Rattle.av_space.specs.Occupancy.{AreCells}
use Rattle.av_space.specs.Links.{AreLinks}
use Rattle.av_space.specs.Taps.{Tap, taps, IsTapped}
use Rattle.av_space.specs.Layouts.{IsLayout}
use Rattle.av_space.specs.inner.Readings.{IsConsumer, IsReader, IsSiteOn, IsReadingAt, IsReadingOf, AreReadings, AreReadAt, AreOwn, taps_of_reader}
use Rattle.av_space.specs.inner.Runs.{IsSiteRun}
use Rattle.av_space.specs.inner.Scheduled.{Scheduled, system_of, helpers_of, placings_of, cells_of}
use Rattle.av_space.specs.inner.Stretches.{HasLinks, IsAt, IsBetween, IsOnBelow, Told, AreByCycle, tap_reading}
use Rattle.av_depend.proofs.Adds.{among_filter}
use Rattle.av_flat.proofs.NodeNumbers.{chained_node}
use Rattle.av_space.proofs.Elements.{in_range}
use Rattle.av_space.proofs.FineSites.{fine_tap}
use Rattle.av_space.proofs.JoinedLinks.{retold, none_put}
use Rattle.av_space.proofs.OneReading.{slot_computes}
use Rattle.av_base.proofs.Lists.{some_is, there_is}

module _ (t : Timed) (l : Layout) (legal : IsLegal t) (layout : IsLayout t l) (p j n : ℕ) (tap : Tap) (piece : Piece) (slots : List Slot) (is : IsSiteOn (view_system t.flat) t.helpers l.placements l.cells p j n tap piece slots) where
  abbrev Tapped : ℕ → ℕ → ℕ → ℕ → ℕ → Type 0
  Tapped = IsTapped (view_system t.flat) t.helpers l.placements l.cells

  abbrev Of : ℕ → ℕ → ℕ → Type 0
  Of = IsReadingOf (view_system t.flat) l.placements l.cells n tap piece slots

  pub to_tapped : (c q d : ℕ) → Of c q d → Tapped p j c q d
  to_tapped c q d r = record {
    node = n;
    point = r.point;
    computes = slot_computes t l legal layout p j n tap piece slots is c r.point r.is_slot;
    variable = is.variable;
    is_variable = is.is_variable;
    tap = tap;
    is_tap = is.is_tap;
    piece = piece;
    is_piece = is.is_piece;
    within = r.is.within;
    producer = r.is.producer;
    read = r.is.read;
    reads = r.is.reads;
    earlier = r.is.earlier;
    later = r.is.later;
    computed = r.is.computed;
  }

  pub from_tapped : (c q d : ℕ) → Tapped p j c q d → Of c q d
  from_tapped c q d r =
      let s = view_system t.flat in
      let cell : r.computes.cell ≡ is.cell = some_is r.computes.cell is.cell (sym r.computes.is_cell ∙ is.is_cell) in
      let node : r.node ≡ n = sym r.computes.stands.node ∙ ap (λ (x : Cell). x.node) cell ∙ is.node in
      let variable : r.variable ≡ is.variable = some_is r.variable is.variable (sym r.is_variable ∙ ap (λ (k : ℕ). slice_get (nodes s) k) node ∙ is.is_variable) in
      let place : slice_get (taps s t.helpers (node_place s r.node) r.variable) j ≡ slice_get (taps s t.helpers (node_place s n) is.variable) j =
      ap (λ (k : ℕ). slice_get (taps s t.helpers (node_place s k) r.variable) j) node ∙ ap (λ (v : Variable). slice_get (taps s t.helpers (node_place s n) v) j) variable in
      let one : r.tap ≡ tap = some_is r.tap tap (sym r.is_tap ∙ place ∙ is.is_tap) in
      let same : r.piece ≡ piece = some_is r.piece piece (sym r.is_piece ∙ ap (λ (v : Variable). slice_get v.pieces r.tap.place.piece) variable ∙ ap (λ (u : Tap). slice_get is.variable.pieces u.place.piece) one ∙ is.is_piece) in
      let at : IsReadingAt s l.placements l.cells r.node r.tap r.piece r.point c q d =
      record { within = r.within; producer = r.producer; read = r.read; reads = r.reads; earlier = r.earlier; later = r.later; computed = r.computed } in
      let here = subst (λ (k : ℕ). IsReadingAt s l.placements l.cells k tap piece r.point c q d) node
      (subst (λ (u : Tap). IsReadingAt s l.placements l.cells r.node u piece r.point c q d) one (subst (λ (q' : Piece). IsReadingAt s l.placements l.cells r.node r.tap q' r.point c q d) same at)) in
      record { point = r.point; is_slot = is.are_slots.all c r.node r.point r.computes; is = here }

  pub site_links : (rs : List TapReading) → AreReadings Of rs → (old new : List Link) → HasLinks (Told rs) (IsAt p j) old new → HasLinks Tapped (IsAt p j) old new
  site_links rs h old new links = record {
    added = links.added;
    new_is = links.new_is;
    are = retold (Told rs) Tapped (IsAt p j) links.added
        (λ k i c q d at told. subst (λ (a : ℕ). Tapped a i c q d) (sym at.0) (subst (λ (b : ℕ). Tapped p b c q d) (sym at.1) (to_tapped c q d (All-contains (λ r. Of r.cycle r.producer.0 r.delay) rs (tap_reading c q d) h.each told))))
        (λ k i c q d at tapped. h.all c q d (from_tapped c q d (subst (λ (b : ℕ). Tapped p b c q d) at.1 (subst (λ (a : ℕ). Tapped a i c q d) at.0 tapped))))
        links.are;
  }

-- a tap site of the node of a cell, by its number
pub site_on : (s : FlatSystem) (hs : List Helper) (placings : List Placing) (cells : List Cell) (p j n : ℕ) (v : Variable) (slots : List Slot) → IsConsumer s placings cells p n v slots → (tap : Tap)
    → slice_get (taps s hs (node_place s n) v) j ≡ Some tap → (number : ℕ) → number ≡ tap.place.piece → (piece : Piece) → slice_get v.pieces number ≡ Some piece → IsSiteOn s hs placings cells p j n tap piece slots
site_on s hs placings cells p j n v slots c tap is_tap number e piece is_piece = record {
  cell = c.cell;
  is_cell = c.is_cell;
  node = c.node;
  are_slots = c.are_slots;
  variable = v;
  is_variable = c.is_variable;
  is_tap = is_tap;
  is_piece = ap (slice_get v.pieces) (sym e) ∙ is_piece;
}

-- the readings of the tap site with the number j of a reader: they are by cycle, and their links are the site's
pub links_of_reader : (at : Scheduled) (c : Consumer) → IsReader at c → (j : ℕ) (readings : List TapReading) → j < length (taps_of_reader at c) → AreReadAt at c j readings
    → AreByCycle readings × ((old new : List Link) → HasLinks (Told readings) (IsAt c.number.0 j) old new → HasLinks (IsTapped (system_of at) (helpers_of at) (placings_of at) (cells_of at)) (IsAt c.number.0 j) old new)
links_of_reader at c reader j readings low h =
    let s = system_of at in
    let v = view_variable c.var.now in
    let tap = there_is (taps_of_reader at c) j low in
    let fine = fine_tap at.timed reader.scheduled.legal (node_place s c.node.0) v (chained_node s c.node.0 v reader.scheduled.legal.chained reader.is.is_variable) j tap.0 tap.1 in
    let site = site_on s (helpers_of at) (placings_of at) (cells_of at) c.number.0 j c.node.0 v c.slots.now reader.is tap.0 tap.1 tap.0.place.piece refl fine.piece fine.is_piece in
    let own = h tap.0 tap.1 fine.piece fine.is_piece in
    (own.order, λ old new links. site_links at.timed at.layout reader.scheduled.legal reader.scheduled.layout c.number.0 j c.node.0 tap.0 fine.piece c.slots.now site readings own old new links)

-- the piece of a tap site of a reader, among the computations by pieces
pub piece_of_reader : (at : Scheduled) (c : Consumer) → IsReader at c → (own : List (List Slot)) → AreOwn (view_variable c.var.now) c.slots.now own → (j : ℕ) (tap : Tap) → slice_get (taps_of_reader at c) j ≡ Some tap
    → tap.place.piece < length own
piece_of_reader at c reader own are j tap is_tap =
    let s = system_of at in
    let v = view_variable c.var.now in
    let fine = fine_tap at.timed reader.scheduled.legal (node_place s c.node.0) v (chained_node s c.node.0 v reader.scheduled.legal.chained reader.is.is_variable) j tap is_tap in
    let low = in_range v.pieces tap.place.piece fine.piece fine.is_piece in
    let many = are.number in
    omega (arith, low, many)

-- a tap site reads nothing on a cell where its piece has no computation
pub none_of_empty : (at : Scheduled) (c : Consumer) → IsReader at c → (own : List (List Slot)) → AreOwn (view_variable c.var.now) c.slots.now own → (j : ℕ) (tap : Tap) → slice_get (taps_of_reader at c) j ≡ Some tap
    → slice_get own tap.place.piece ≡ Some [] → (x q d : ℕ) → IsTapped (system_of at) (helpers_of at) (placings_of at) (cells_of at) c.number.0 j x q d → ⊥
none_of_empty at c reader own are j tap is_tap empty x q d tapped =
    let s = system_of at in
    let v = view_variable c.var.now in
    let fine = fine_tap at.timed reader.scheduled.legal (node_place s c.node.0) v (chained_node s c.node.0 v reader.scheduled.legal.chained reader.is.is_variable) j tap is_tap in
    let site = site_on s (helpers_of at) (placings_of at) (cells_of at) c.number.0 j c.node.0 v c.slots.now reader.is tap is_tap tap.place.piece refl fine.piece fine.is_piece in
    let r = from_tapped at.timed at.layout reader.scheduled.legal reader.scheduled.layout c.number.0 j c.node.0 tap fine.piece c.slots.now site x q d tapped in
    let none = are.each tap.place.piece fine.piece [] fine.is_piece empty in
    let here = among_filter (λ (y : Slot). has fine.piece.domain y.point) c.slots.now (record { cycle = x; point = r.point }) r.is_slot r.is.within in
    let there : Contains [] (record { cycle = x; point = r.point }) = subst (λ (ts : List Slot). Contains ts (record { cycle = x; point = r.point })) (sym none) here in
    let low = there.1 in
    omega (arith, low)

-- nor do the sites of a run
pub empty_run : (at : Scheduled) (c : Consumer) → IsReader at c → (own : List (List Slot)) → AreOwn (view_variable c.var.now) c.slots.now own → (first end : ℕ) → IsSiteRun (taps_of_reader at c) first end → (tap : Tap)
    → slice_get (taps_of_reader at c) first ≡ Some tap → slice_get own tap.place.piece ≡ Some [] → (old : List Link)
    → HasLinks (IsTapped (system_of at) (helpers_of at) (placings_of at) (cells_of at)) (IsBetween c.number.0 first end) old old
empty_run at c reader own are first end run tap is_tap empty old =
    none_put (IsTapped (system_of at) (helpers_of at) (placings_of at) (cells_of at)) (IsBetween c.number.0 first end) old (λ p j x q d e tapped.
    let high = e.2 in
    let within = run.within in
    let other = there_is (taps_of_reader at c) j (omega (arith, high, within)) in
    let same = run.one_piece j tap other.0 e.1 e.2 is_tap other.1 in
    none_of_empty at c reader own are j other.0 other.1 (ap (slice_get own) same ∙ empty) x q d (subst (λ (k : ℕ). IsTapped (system_of at) (helpers_of at) (placings_of at) (cells_of at) k j x q d) e.0 tapped))

-- a cell has no tap sites but those of its node
pub few_sites : (s : FlatSystem) (hs : List Helper) (placings : List Placing) (cells : List Cell) (p n : ℕ) (v : Variable) (slots : List Slot) → IsConsumer s placings cells p n v slots → (j c q d : ℕ)
    → IsTapped s hs placings cells p j c q d → j < length (taps s hs (node_place s n) v)
few_sites s hs placings cells p n v slots is j c q d r =
    let cell : r.computes.cell ≡ is.cell = some_is r.computes.cell is.cell (sym r.computes.is_cell ∙ is.is_cell) in
    let node : r.node ≡ n = sym r.computes.stands.node ∙ ap (λ (x : Cell). x.node) cell ∙ is.node in
    let variable : r.variable ≡ v = some_is r.variable v (sym r.is_variable ∙ ap (λ (k : ℕ). slice_get (nodes s) k) node ∙ is.is_variable) in
    let place : taps s hs (node_place s r.node) r.variable ≡ taps s hs (node_place s n) v = ap (λ (k : ℕ). taps s hs (node_place s k) r.variable) node ∙ ap (λ (u : Variable). taps s hs (node_place s n) u) variable in
    in_range (taps s hs (node_place s n) v) j r.tap (ap (λ (ts : List Tap). slice_get ts j) (sym place) ∙ r.is_tap)

-- the node of a cell is one of the nodes
pub cell_node : (s : FlatSystem) (placings : List Placing) (cells : List Cell) → AreCells s placings cells → (k : ℕ) (d : Cell) → k < length cells → (get_or cells k d).node < length (nodes s)
cell_node s placings cells h k d low =
    let u = h.each k d low in
    let e = u.3.node in
    let l = in_range (nodes s) u.1 u.3.computation.variable u.3.computation.is in
    omega (arith, e, l)

-- the links of all cells
pub are_links : (s : FlatSystem) (hs : List Helper) (placings : List Placing) (cells : List Cell) (n : ℕ) (links : List Link) → length cells ≤ n → HasLinks (IsTapped s hs placings cells) (IsOnBelow n) [] links → AreLinks s hs placings cells links
are_links s hs placings cells n links all h =
    subst (AreLinks s hs placings cells) (sym h.new_is) (record {
      each = λ k d low. let x = h.are.each k d (subst (λ (m : ℕ). k < m) (length_is h.added) low) in record { ordered = x.ordered; begins = x.begins; ends = x.ends; between = x.between };
      all = λ p j c q d t. h.are.all p j c q d (let l = in_range cells p t.computes.cell t.computes.is_cell in omega (arith, l, all)) t;
      maximal = h.are.maximal;
      order = h.are.order;
    })
  where
    length_is : (xs : List Link) → length ([] ++ xs) ≡ length xs
    length_is xs = refl
