-- Where the places of a piece read, by its links and ports.
use Rattle.std.proofs.Common.{◌≡◌, ℕ, List, [], ◌∷◌, refl, sym, ap, subst, ◌∙◌, arith, IsTrue, Bool, true, false, Option, Some, None}
use Rattle.std.specs.Prelude.{slice_get, Contains, MatchOption}
use Rattle.av_affine.specs.declared.map.Map.{Map}
use Rattle.av_affine.specs.Maps.{image}
use Rattle.av_tree.specs.Points.{Point}
use Rattle.av_flat.specs.declared.timed.Helper.{Helper}
use Rattle.av_flat.specs.declared.tree.Choice.{Choice}
use Rattle.av_flat.specs.declared.tree.Tree.{Tree as TreeMade}
use Rattle.av_flat.specs.declared.tree.Tree.TheVariants as made
use Rattle.av_flat.specs.Trees.{Tree, Piece, Variable, FlatSystem, view, reference, constant, binary, choice, restriction, cases, dependence, reduction, pick}
use Rattle.av_flat.specs.Points.{has}
use Rattle.av_flat.specs.Broadcasts.{Reference, references}
use Rattle.av_flat.specs.Helped.{before}
use Rattle.av_flat.specs.Nodes.{number_at}
use Rattle.av_flat.specs.Signatures.{Signature, signatures}
use Rattle.av_flat.specs.Values.{picked}
use Rattle.av_space.specs.declared.array.Array.{Array}
use Rattle.av_space.specs.declared.layout.Slot.{Slot}
use Rattle.av_space.specs.declared.origin.Origin.TheVariants as origin
use Rattle.av_space.specs.declared.spots.Site.{Site}
use Rattle.av_space.specs.declared.spots.Spot.{Spot}
use Rattle.av_space.specs.declared.stretch.TapReading.{TapReading}
use Rattle.av_flat.specs.Sites.{Place}
use Rattle.av_space.specs.Taps.{Pipeline, helper_at, IsReadAt, each, entries, handed, Tap, taps_by, taps_at, IsReadBy, IsTapRead}
use Rattle.av_depend.specs.ComputedPlaces.{computed_at}
use Rattle.av_space.specs.Spots.{system_of, helpers_of, IsArray, IsSpot, IsSlotIn, IsSiteOf, pipeline_by, handed_tap, own_way, IsLinkedBy, IsReferenceOrigin, at_port, over_link, IsPickOrigin}
use Rattle.av_space.specs.inner.SpotTaps.{own_tap}
use Rattle.av_space.specs.inner.SpotTaps.{IsSpotTap, IsReadThere, IsComputedRead, IsPortSite}
use Rattle.av_space.proofs.SpotPlaces.{IsPlaceBy, pick_computed}
use Rattle.av_space.proofs.SpotReadings.{piece, p, known, piece_is, tap_of_place, declared_read, node_read}
use Rattle.av_pipe.proofs.Piped.{not_computed}

-- ---- the taps of a place

first_tap : (t : Tap) (ts : List Tap) → Contains (t ∷ ts) t
first_tap t ts = (0, omega arith, refl)

second_tap : (u t : Tap) → Contains (u ∷ t ∷ []) t
second_tap u t = (1, omega arith, refl)

own_by : (h : Option Pipeline) (q : Place) → Contains (taps_by true h q) (record { place = q; way = own_way h })
own_by None q = first_tap (record { place = q; way = each }) []
own_by (Some h) q = first_tap (record { place = q; way = entries h.direction }) (record { place = q; way = handed h.number h.direction } ∷ [])

handed_by : (b : Bool) (h : Pipeline) (q : Place) → Contains (taps_by b (Some h) q) (record { place = q; way = handed h.number h.direction })
handed_by true h q = second_tap (record { place = q; way = entries h.direction }) (record { place = q; way = handed h.number h.direction })
handed_by false h q = first_tap (record { place = q; way = handed h.number h.direction }) []

-- that of a computed variable by which it reads itself
own_at : (s : FlatSystem) (hs : List Helper) (own : ℕ) (q : Place) (t : Tree) (h : Option Pipeline) → h ≡ pipeline_by hs own q t → IsComputedRead s t → Contains (taps_at s hs own t q) (record { place = q; way = own_way h })
own_at s hs own q (reference place m) h e c =
    subst (λ (b : Bool). Contains (taps_by b (helper_at hs own q.piece q.site) q) (record { place = q; way = own_way h })) (sym c)
    (subst (λ (o : Option Pipeline). Contains (taps_by true o q) (record { place = q; way = own_way h })) e (own_by h q))
own_at s hs own q (pick place choices n) h e c =
    subst (λ (b : Bool). Contains (taps_by b None q) (record { place = q; way = own_way h })) (sym c)
    (subst (λ (o : Option Pipeline). Contains (taps_by true None q) (record { place = q; way = own_way o })) (sym e) (own_by None q))
own_at s hs own q (constant n) h e c = absurd c
own_at s hs own q (binary g l r) h e c = absurd c
own_at s hs own q (choice l k r x y) h e c = absurd c
own_at s hs own q (restriction d t) h e c = absurd c
own_at s hs own q (cases ts) h e c = absurd c
own_at s hs own q (dependence m t) h e c = absurd c
own_at s hs own q (reduction o m t set) h e c = absurd c

-- that of its helper
handed_at : (s : FlatSystem) (hs : List Helper) (own : ℕ) (q : Place) (t : Tree) (h : Pipeline) → pipeline_by hs own q t ≡ Some h → Contains (taps_at s hs own t q) (record { place = q; way = handed h.number h.direction })
handed_at s hs own q (reference place m) h e =
    subst (λ (o : Option Pipeline). Contains (taps_by (computed_at (slice_get s.variables place)) o q) (record { place = q; way = handed h.number h.direction })) (sym e) (handed_by (computed_at (slice_get s.variables place)) h q)
handed_at s hs own q (pick place choices n) h e = absurd cc
handed_at s hs own q (constant n) h e = absurd cc
handed_at s hs own q (binary g l r) h e = absurd cc
handed_at s hs own q (choice l k r x y) h e = absurd cc
handed_at s hs own q (restriction d t) h e = absurd cc
handed_at s hs own q (cases ts) h e = absurd cc
handed_at s hs own q (dependence m t) h e = absurd cc
handed_at s hs own q (reduction o m t set) h e = absurd cc

-- ---- what it reads

-- by itself, where it is read
own_read : (s : FlatSystem) (n : ℕ) (t : Tree) (h : Option Pipeline) (q : Piece) (z : Point) → IsReadAt h q z → (place : ℕ) (y : Point) → IsReadBy t z place y → IsTapRead s n t (own_way h) q z (number_at s place) y
own_read s n t None q z entered place y r = (place, r, refl)
own_read s n t (Some h) q z entered place y r = (entered, (place, r, refl))

-- a place that is neither a reference nor a pick
pub no_place : (vs : List Signature) (whole : List Reference) (q : Place) (t : TreeMade) → ((place : ℕ) (m : Map) → t ≡ made.Ref place m → ⊥) → ((place : ℕ) (choices : List Choice) (n : _) → t ≡ made.Pick place choices n → ⊥)
    → IsPlaceBy vs whole q (view t) → ⊥
no_place vs whole q (made.Ref place m) a b h = a place m refl
no_place vs whole q (made.Pick place choices n) a b h = b place choices n refl
no_place vs whole q _ a b h = absurd h

module _ (a : Array) (is : IsArray a) (at : Spot) (spot : IsSpot a at) (mine : Site) (placed : IsSiteOf a at mine) (slot : Slot) (on : IsSlotIn a at.cell.0 at.node.0 at.piece.now.domain slot) where
  abbrev s : FlatSystem
  s = system_of a

  abbrev q : Place
  q = p a is at spot mine placed

  -- ---- by itself

  pub own_site : IsComputedRead s q.tree → IsSpotTap a at (own_tap q mine.pipeline)
  own_site c = tap_of_place a is at spot mine placed (own_way mine.pipeline) (own_at s (helpers_of a) at.place.0 q q.tree mine.pipeline placed.pipeline c)

  pub own_found : IsReadAt mine.pipeline (piece a is at spot) slot.point → (tap : Tap) → tap ≡ own_tap q mine.pipeline → (o : Option TapReading)
      → MatchOption o (IsReadThere a at tap slot → ⊥) (λ r. IsReadThere a at tap slot × IsLinkedBy a at slot.cycle tap r.producer.0 r.delay)
      → MatchOption o ((place : ℕ) (y : Point) → IsReadBy q.tree slot.point place y → ⊥) (λ r. IsReadThere a at (own_tap q mine.pipeline) slot × IsLinkedBy a at slot.cycle (own_tap q mine.pipeline) r.producer.0 r.delay)
  own_found entered tap e None h = λ place y r. subst (λ (t : Tap). IsReadThere a at t slot → ⊥) e h
      (record { node = number_at s place; point = y; reads = own_read s at.node.0 q.tree mine.pipeline (piece a is at spot) slot.point entered place y r })
  own_found entered tap e (Some r) h = (subst (λ (t : Tap). IsReadThere a at t slot) e h.0, subst (λ (t : Tap). IsLinkedBy a at slot.cycle t r.producer.0 r.delay) e h.1)

  -- ---- by its helper

  pub handed_site : (h : Pipeline) → mine.pipeline ≡ Some h → IsSpotTap a at (handed_tap q h)
  handed_site h e = tap_of_place a is at spot mine placed (handed h.number h.direction) (handed_at s (helpers_of a) at.place.0 q q.tree h (sym placed.pipeline ∙ e))

  pub handed_found : (h : Pipeline) (tap : Tap) → tap ≡ handed_tap q h → (o : Option TapReading)
      → MatchOption o (IsReadThere a at tap slot → ⊥) (λ r. IsReadThere a at tap slot × IsLinkedBy a at slot.cycle tap r.producer.0 r.delay)
      → MatchOption o (IsTrue (has at.piece.now.domain (before slot.point h.direction)) → ⊥)
      (λ r. IsTrue (has at.piece.now.domain (before slot.point h.direction)) × IsLinkedBy a at slot.cycle (handed_tap q h) r.producer.0 r.delay)
  handed_found h tap e None f = λ inside. subst (λ (t : Tap). IsReadThere a at t slot → ⊥) e f (record { node = at.node.0; point = before slot.point h.direction; reads = (refl, refl, inside) })
  handed_found h tap e (Some r) f =
      let read = subst (λ (t : Tap). IsReadThere a at t slot) e f.0 in
      (subst (λ (z : Point). IsTrue (has at.piece.now.domain z)) read.reads.1 read.reads.2, subst (λ (t : Tap). IsLinkedBy a at slot.cycle t r.producer.0 r.delay) e f.1)

  -- ---- references

  module _ (place : ℕ) (m : Map) (tree : q.tree ≡ reference place m) where
    reads : IsReadBy q.tree slot.point place (image m.rows slot.point)
    reads = subst (λ (t : Tree). IsReadBy t slot.point place (image m.rows slot.point)) (sym tree) (refl, refl)

    among : slice_get (references (view at.piece.now.tree)) mine.place.site ≡ Some (record { place = place; map = m })
    among = subst (IsPlaceBy (signatures s) (references (view at.piece.now.tree)) q) tree (known a is at spot mine placed)

    pub port_site : computed_at (slice_get s.variables place) ≡ false → IsPortSite a at mine
    port_site c =
        let w = declared_read a is at spot mine placed slot on place (image m.rows slot.point) reads in
        record {
          is = placed;
          place = place;
          map = m;
          tree = tree;
          read = w.variable;
          is_read = w.is;
          input = not_computed w.variable.kind (subst (λ (o : Option Variable). computed_at o ≡ false) w.is c);
          is_reference = among;
        }

    pub reads_port : computed_at (slice_get s.variables place) ≡ false → (n : ℕ) → slice_get a.cells.now.inputs n ≡ Some (record { cell = at.cell.0; piece = at.number; site = mine.place.site })
        → IsReferenceOrigin a at slot.cycle mine.place.site place m (own_way mine.pipeline) (origin.Port n)
    reads_port c n is_port =
        let w = declared_read a is at spot mine placed slot on place (image m.rows slot.point) reads in
        at_port n w.variable w.is (not_computed w.variable.kind (subst (λ (o : Option Variable). computed_at o ≡ false) w.is c)) among is_port

    computed_tree : computed_at (slice_get s.variables place) ≡ true → IsComputedRead s q.tree
    computed_tree c = subst (IsComputedRead s) (sym tree) c

    pub reads_some : ((k : ℕ) (y : Point) → IsReadBy q.tree slot.point k y → ⊥) → ⊥
    reads_some none = none place (image m.rows slot.point) reads

    pub reads_link : computed_at (slice_get s.variables place) ≡ true → (k d : ℕ) → IsLinkedBy a at slot.cycle (own_tap q mine.pipeline) k d
        → IsReferenceOrigin a at slot.cycle mine.place.site place m (own_way mine.pipeline) (origin.Value (record { 0 = k }) d)
    reads_link c k d l =
        let w = node_read a is at spot mine placed slot on (computed_tree c) place (image m.rows slot.point) reads in
        over_link (record { 0 = k }) d w.variable w.is w.node (subst (λ (x : Place). IsLinkedBy a at slot.cycle (record { place = x; way = own_way mine.pipeline }) k d) same l)
      where
        same : q ≡ record { piece = at.number; site = mine.place.site; tree = reference place m }
        same = ap (λ (n : ℕ). record { piece = n; site = mine.place.site; tree = q.tree }) (piece_is a is at spot mine placed) ∙ ap (λ (t : Tree). record { piece = at.number; site = mine.place.site; tree = t }) tree

  -- ---- picks

  module _ (place : ℕ) (choices : List Choice) (n : ℕ) (tree : q.tree ≡ pick place choices n) where
    pub pick_read : IsComputedRead s q.tree
    pick_read = pick_computed s (references (view at.piece.now.tree)) q q.tree place n choices tree (known a is at spot mine placed)

    no_pipeline : mine.pipeline ≡ None
    no_pipeline = placed.pipeline ∙ ap (pipeline_by (helpers_of a) at.place.0 q) tree

    reads_point : (y : Point) → picked choices slot.point ≡ Some y → IsReadBy q.tree slot.point place y
    reads_point y e = subst (λ (t : Tree). IsReadBy t slot.point place y) (sym tree) (refl, e)

    -- what is picked, where nothing is read
    pub picks_none : ((k : ℕ) (y : Point) → IsReadBy q.tree slot.point k y → ⊥) → IsPickOrigin a at slot.cycle q place n (picked choices slot.point) (origin.Number (record { bits = n }))
    picks_none none = by (picked choices slot.point) refl
      where
        by : (o : Option Point) → picked choices slot.point ≡ o → IsPickOrigin a at slot.cycle q place n o (origin.Number (record { bits = n }))
        by None e = refl
        by (Some y) e = absurd (none place y (reads_point y e))

    pub picks_link : (k d : ℕ) → IsReadThere a at (own_tap q mine.pipeline) slot → IsLinkedBy a at slot.cycle (own_tap q mine.pipeline) k d → IsPickOrigin a at slot.cycle q place n (picked choices slot.point) (origin.Value (record { 0 = k }) d)
    picks_link k d there l = by (picked choices slot.point) refl
      where
        by : (o : Option Point) → picked choices slot.point ≡ o → IsPickOrigin a at slot.cycle q place n o (origin.Value (record { 0 = k }) d)
        by None e = absurd (never (subst (λ (h : Option Pipeline). IsTapRead s at.node.0 q.tree (own_way h) (piece a is at spot) slot.point there.node there.point) no_pipeline there.reads))
          where
            never : IsTapRead s at.node.0 q.tree each (piece a is at spot) slot.point there.node there.point → ⊥
            never r = let f = subst (λ (t : Tree). IsReadBy t slot.point r.0 there.point) tree r.1 in let g = sym e ∙ f.1 in absurd cc
        by (Some y) e =
            let w = node_read a is at spot mine placed slot on pick_read place y (reads_point y e) in
            (record { 0 = k }, d, w.variable, w.is, w.node, subst (λ (h : Option Pipeline). IsLinkedBy a at slot.cycle (own_tap q h) k d) no_pipeline l, refl)
