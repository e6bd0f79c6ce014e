-- What the tap sites of a piece on a cell read there, by the links and the ports of the array.
use Rattle.std.proofs.Common.{◌≡◌, ℕ, List, sym, ap, subst, ◌∙◌, arith, Option, Some, None, ◌↔◌}
use Rattle.std.specs.Prelude.{slice_get, Contains, IfSome, MatchOption}
use Rattle.std.proofs.lemmas.List.Elements.{All-contains}
use Rattle.av_tree.specs.Points.{Point}
use Rattle.av_flat.specs.Trees.{Tree, Piece, Variable, FlatSystem, view_piece, view_variable}
use Rattle.av_flat.specs.Signatures.{signatures}
use Rattle.av_flat.specs.Broadcasts.{references}
use Rattle.av_flat.specs.Chained.{IsChainedPiece}
use Rattle.av_space.specs.declared.array.Array.{Array}
use Rattle.av_space.specs.declared.cells.InPort.{InPort}
use Rattle.av_space.specs.declared.layout.Slot.{Slot}
use Rattle.av_space.specs.declared.spots.Site.{Site}
use Rattle.av_space.specs.declared.spots.Spot.{Spot}
use Rattle.av_space.specs.declared.stretch.TapReading.{TapReading}
use Rattle.av_flat.specs.Sites.{Place, place_of}
use Rattle.av_flat.specs.Nodes.{node_place}
use Rattle.av_space.specs.Taps.{Pipeline, helper_at, IsReadAt, Way, Tap, taps_at, IsReadBy, IsTapRead, IsTapped}
use Rattle.av_space.specs.Links.{IsStretch}
use Rattle.av_space.specs.Spots.{system_of, helpers_of, placings_of, cells_of, IsArray, IsSpot, IsSlotIn, IsSiteOf, pipeline_by, IsLinkedBy}
use Rattle.av_space.specs.inner.Readings.{IsSiteOn, IsSite, IsReadingAt, IsReadingOf}
use Rattle.av_space.specs.inner.SpotTaps.{IsSpotTap, IsReadThere, IsComputedRead, IsPortSite}
use Rattle.av_space.specs.inner.Stretches.{tap_reading}
use Rattle.av_flat.proofs.NodeNumbers.{chained_node, node_variable}
use Rattle.av_space.proofs.Elements.{in_range, at_index}
use Rattle.av_space.proofs.OneReading.{read_before}
use Rattle.av_space.proofs.Scheduling.{scheduled}
use Rattle.av_space.proofs.SiteLinks.{to_tapped}
use Rattle.av_space.proofs.SpotPlaces.{IsPlaceBy, place_known, place_read, tap_site}
use Rattle.av_space.proofs.Timely.{IsDeclaredRead, read_declared, IsNodeRead, read_node, computed_there}
use Rattle.av_base.proofs.Among.{among_at}
use Rattle.av_base.proofs.Lists.{there_is}

module _ (a : Array) (is : IsArray a) (at : Spot) (spot : IsSpot a at) where
  abbrev s : FlatSystem
  s = system_of a

  abbrev v : Variable
  v = view_variable at.var.now

  abbrev pub piece : Piece
  piece = view_piece at.piece.now

  -- the piece of a variable of a chained system
  pub chained : IsChainedPiece (signatures s) v piece
  chained = at_index (IsChainedPiece (signatures s) v) v.pieces (chained_node s at.node.0 v is.legal.chained spot.is_variable).pieces at.number piece spot.is_piece

  -- ---- a tap site at a computation

  module _ (tap : Tap) (tapped : IsSpotTap a at tap) (slot : Slot) (on : IsSlotIn a at.cell.0 at.node.0 at.piece.now.domain slot) where
    own_slots : (slots : List Slot) × (slice_get a.layout.slots at.cell.0 ≡ Some slots)
    own_slots = there_is a.layout.slots at.cell.0 (let l = in_range (cells_of a) at.cell.0 spot.cell spot.is_cell in let m = is.layout.one_each in omega (arith, l, m))

    abbrev site_on : IsSiteOn s (helpers_of a) (placings_of a) (cells_of a) at.cell.0 tapped.number at.node.0 tap piece own_slots.0
    site_on = record {
      cell = spot.cell;
      is_cell = spot.is_cell;
      node = spot.node;
      are_slots = is.layout.are_slots at.cell.0 own_slots.0 own_slots.1;
      variable = v;
      is_variable = spot.is_variable;
      is_tap = tapped.is_tap;
      is_piece = ap (slice_get v.pieces) tapped.piece_is ∙ spot.is_piece;
    }

    among : Contains own_slots.0 (record { cycle = slot.cycle; point = slot.point })
    among = site_on.are_slots.all slot.cycle at.node.0 slot.point on.computes

    pub site : (slots : List Slot) × Contains slots slot × IsSite s (helpers_of a) (placings_of a) (cells_of a) at.node.0 tap piece slots
    site = (own_slots.0, among, record { consumer = at.cell.0; number = tapped.number; is = site_on })

    abbrev At : ℕ → ℕ → Type 0
    At q d = IsReadingAt s (placings_of a) (cells_of a) at.node.0 tap piece slot.point slot.cycle q d

    -- where nothing is found, nothing is read
    nothing : ((q d : ℕ) → At q d ↔ (◌≡◌ {A = Option TapReading} None (Some (tap_reading slot.cycle q d)))) → (k : ℕ) (y : Point) → IsTapRead s at.node.0 tap.place.tree tap.way piece slot.point k y → ⊥
    nothing only k y reads =
        let b = read_before a.timed.now a.layout is.legal is.layout at.cell.0 tapped.number at.node.0 tap piece own_slots.0 site_on slot.cycle slot.point among on.within k y reads in
        let r : At b.0 b.2 = record { within = on.within; producer = k; read = y; reads = reads; earlier = b.1; later = b.3; computed = b.5 } in
        let e = (only b.0 b.2).0 r in absurd cc

    -- what is found comes over a link
    linked : (r : TapReading) → r.cycle ≡ slot.cycle → ((q d : ℕ) → At q d ↔ (◌≡◌ {A = Option TapReading} (Some r) (Some (tap_reading slot.cycle q d)))) → IsReadThere a at tap slot × IsLinkedBy a at slot.cycle tap r.producer.0 r.delay
    linked r when only =
        let reading = (only r.producer.0 r.delay).1 (ap (λ c. Some (tap_reading c r.producer.0 r.delay)) when) in
        let own : IsReadingOf s (placings_of a) (cells_of a) at.node.0 tap piece own_slots.0 slot.cycle r.producer.0 r.delay = record { point = slot.point; is_slot = among; is = reading } in
        let t = to_tapped a.timed.now a.layout is.legal is.layout at.cell.0 tapped.number at.node.0 tap piece own_slots.0 site_on slot.cycle r.producer.0 r.delay own in
        let l = is.links.all at.cell.0 tapped.number slot.cycle r.producer.0 r.delay t in
        let stretch = All-contains (IsStretch s (helpers_of a) (placings_of a) (cells_of a)) a.cells.now.links l.0 is.links.each l.1 in
        let T = IsTapped s (helpers_of a) (placings_of a) (cells_of a) in
        let there = subst (λ (p : ℕ). T p l.0.site slot.cycle r.producer.0 r.delay) (sym l.2.0) (subst (λ (j : ℕ). T at.cell.0 j slot.cycle r.producer.0 r.delay) (sym l.2.1) t) in
        let same = stretch.between slot.cycle r.producer.0 r.delay l.2.2 l.2.3 there in
        (record { node = reading.producer; point = reading.read; reads = reading.reads }, record { number = tapped.number; is_tap = tapped.is_tap; link = l.0; is_link = l.1; in_link = l.2; producer_is = same.0; delay_is = same.1 })

    pub read_of : (o : Option TapReading) → IfSome o (λ r. r.cycle ≡ slot.cycle) → ((q d : ℕ) → At q d ↔ (◌≡◌ {A = Option TapReading} o (Some (tap_reading slot.cycle q d))))
        → MatchOption o (IsReadThere a at tap slot → ⊥) (λ r. IsReadThere a at tap slot × IsLinkedBy a at slot.cycle tap r.producer.0 r.delay)
    read_of None when only = λ r. nothing only r.node r.point r.reads
    read_of (Some r) when only = linked r when only

  -- ---- places

  module _ (mine : Site) (placed : IsSiteOf a at mine) where
    abbrev pub p : Place
    p = place_of mine.place

    pub known : IsPlaceBy (signatures s) (references piece.tree) p p.tree
    known = place_known (signatures s) v.width at.number piece.tree chained.tree.partial p placed.is_place

    pub piece_is : p.piece ≡ at.number
    piece_is = (place_read at.number piece.tree p placed.is_place).piece_is

    -- a tap of the place is a tap site of the piece
    pub tap_of_place : (way : Way) → Contains (taps_at s (helpers_of a) at.place.0 p.tree p) (record { place = p; way = way }) → IsSpotTap a at (record { place = p; way = way })
    tap_of_place way c =
        let t = tap_site s (helpers_of a) (node_place s at.node.0) v at.number piece p (record { place = p; way = way }) spot.is_piece placed.is_place
        (subst (λ (n : ℕ). Contains (taps_at s (helpers_of a) n p.tree p) (record { place = p; way = way })) spot.place c) in
        record { number = t.0; is_tap = t.1; piece_is = piece_is }

    module _ (slot : Slot) (on : IsSlotIn a at.cell.0 at.node.0 at.piece.now.domain slot) where
      among_variables : Contains s.variables v
      among_variables = among_at s.variables (node_place s at.node.0) v (node_variable s at.node.0 v spot.is_variable)

      -- what it reads is declared, and where it is computed, a node
      pub declared_read : (place : ℕ) (y : Point) → IsReadBy p.tree slot.point place y → IsDeclaredRead s place y
      declared_read place y r =
          read_declared s (helpers_of a) (placings_of a) (cells_of a) (scheduled a.timed.now (placings_of a) (cells_of a) is.legal is.layout.are_placings is.layout.are_cells) v among_variables
          at.number piece spot.is_piece slot.point on.within place y ((place_read at.number piece.tree p placed.is_place).part slot.point place y r)

      pub node_read : IsComputedRead s p.tree → (place : ℕ) (y : Point) → IsReadBy p.tree slot.point place y → IsNodeRead s place y
      node_read c place y r =
          read_node s (helpers_of a) (placings_of a) (cells_of a) (scheduled a.timed.now (placings_of a) (cells_of a) is.legal is.layout.are_placings is.layout.are_cells) v among_variables
          at.number piece spot.is_piece slot.point on.within place y ((place_read at.number piece.tree p placed.is_place).part slot.point place y r) (computed_there s p.tree c slot.point place y r)

      -- a reference to an input has a port on the cell, where it is read
      pub port_there : (fed : IsPortSite a at mine) → IsReadAt mine.pipeline piece slot.point → Contains a.cells.now.inputs (record { cell = at.cell.0; piece = at.number; site = mine.place.site })
      port_there fed entered =
          let here : mine.pipeline ≡ helper_at (helpers_of a) (node_place s at.node.0) at.number mine.place.site =
          placed.pipeline ∙ ap (λ (t : Tree). pipeline_by (helpers_of a) at.place.0 p t) fed.tree
          ∙ ap (λ (n : ℕ). helper_at (helpers_of a) n mine.place.piece mine.place.site) spot.place
          ∙ ap (λ (k : ℕ). helper_at (helpers_of a) (node_place s at.node.0) k mine.place.site) piece_is in
          let own : InPort = record { cell = at.cell.0; piece = at.number; site = mine.place.site } in
          is.ports.all own (
            slot.cycle,
            slot.point,
            fed.read,
            fed.map,
            record {
              node = at.node.0;
              computes = on.computes;
              variable = v;
              is_variable = spot.is_variable;
              piece = piece;
              is_piece = spot.is_piece;
              within = on.within;
              place = fed.place;
              is_reference = fed.is_reference;
              is_variable_read = fed.is_read;
              input_kind = fed.input;
              entered = subst (λ (h : Option Pipeline). IsReadAt h piece slot.point) here entered;
            },
          )
