-- A kind can be made of the shape that has room for one of its cells; and the shapes of all kinds.
use Rattle.std.proofs.Common.{◌≡◌, ℕ, zero, suc, ◌+◌, ◌<◌, ◌≤◌, List, [], ◌∷◌, ◌++◌, length, map, refl, sym, subst, ap, ◌∙◌, arith, Some}
use Rattle.std.specs.Prelude.{slice_get}
use Rattle.std.specs.List.{AllByRecursion, range_with_len}
use Rattle.std.proofs.lemmas.List.{map-append}
use Rattle.av_base.specs.declared.width.Width.{Width}
use Rattle.av_base.proofs.Lists.{some_is, there_is, each_at, each_by_place}
use Rattle.av_kinds.specs.declared.program.CellLanes.{CellLanes}
use Rattle.av_kinds.specs.declared.program.Inlet.{Inlet}
use Rattle.av_kinds.specs.declared.program.Inlet.TheVariants.{Inputs, Taps, Pipe}
use Rattle.av_kinds.specs.declared.program.ProgramSite.{ProgramSite}
use Rattle.av_kinds.specs.declared.shape.SiteShape.{SiteShape}
use Rattle.av_kinds.specs.Programs.{site_count, FitsTree, Mode, mode_at, Lane, Program, lanes_of, IsInletOf, IsSite, IsModeOf, IsLaneOf, IsProgram}
use Rattle.av_kinds.specs.inner.Shapes.{ModeShape, LaneShape, LaneShapeMade, lane_shape_of, SuitsSite, SuitSites, SuitsMode, SuitModes, HasModeAt, SuitsLane, SuitLanes, IsInletShape, IsSiteShape, IsModeShape, IsLaneShape, IsKindShape}
use Rattle.av_kinds.specs.inner.Shaped.{kind_shape}
use Rattle.av_kinds.specs.inner.Modules.{AreShapesOf, IsKindCount}
use Rattle.av_kinds.proofs.Placing.{range_more}
use Rattle.av_kinds.proofs.ShapeSuits.{kind_suits, mode_there, below_length}
use Rattle.av_kinds.proofs.ShapeOrdered.{kinds_ordered}
use Rattle.av_kinds.proofs.TopInstances.{lane_of_cell, cell_within, suit_many, lanes_many}

-- ---- one lane

pub suit_sites_many : (shapes : List SiteShape) (sites : List ProgramSite) → SuitSites shapes sites → length shapes ≡ length sites
suit_sites_many [] [] suit = refl
suit_sites_many (s ∷ shapes) (site ∷ sites) suit = ap suc (suit_sites_many shapes sites suit.1)
suit_sites_many [] (site ∷ sites) suit = absurd suit
suit_sites_many (s ∷ shapes) [] suit = absurd suit

-- an earlier lane of the cell is one of the shape
record IsEarlier (all : List LaneShape) (k h : ℕ) (width : Width) : Type 0 where
  shape : LaneShape
  there : slice_get all h ≡ Some shape
  same : shape.width ≡ width
  before : h < k

module _ (program : Program) (first q : ℕ) (all : List LaneShape) (k : ℕ) (earlier : (h : ℕ) (lane : Lane) → first + h < q → slice_get program.lanes (first + h) ≡ Some lane → IsEarlier all k h lane.width) where
  site_is : (shape : SiteShape) (site : ProgramSite) → SuitsSite shape site → IsSite program first q site → IsSiteShape all k shape
  site_is shape site suit is =
      subst (λ w. IsInletShape all k w shape.inlet) suit.width (subst (λ i. IsInletShape all k site.width i) suit.inlet (by_inlet site.inlet is))
    where
      by_inlet : (i : Inlet) → IsInletOf program first q i site → IsInletShape all k site.width i
      by_inlet Inputs h = tt
      by_inlet Taps h = tt
      by_inlet (Pipe h) there = let e = earlier h there.0 there.3 there.1 in (e.shape, e.there, e.same ∙ there.2, e.before)

  sites_are : (shapes : List SiteShape) (sites : List ProgramSite) → SuitSites shapes sites → AllByRecursion (IsSite program first q) sites → AllByRecursion (IsSiteShape all k) shapes
  sites_are [] [] suit are = tt
  sites_are (s ∷ shapes) (site ∷ sites) suit are = (site_is s site suit.0 are.0, sites_are shapes sites suit.1 are.1)
  sites_are [] (site ∷ sites) suit are = absurd suit
  sites_are (s ∷ shapes) [] suit are = absurd suit

  mode_is : (w : ℕ) (shape : ModeShape) (mode : Mode) → SuitsMode shape mode → IsModeOf program first q w mode → IsModeShape all k w shape
  mode_is w shape mode suit is = record {
    many = ap site_count (sym suit.tree) ∙ sym is.many ∙ sym (suit_sites_many shape.sites mode.work.sites suit.sites);
    fits = subst (FitsTree w) suit.tree is.tree;
    sites = sites_are shape.sites mode.work.sites suit.sites is.sites;
  }

  modes_are : (w : ℕ) (shapes : List ModeShape) (modes : List Mode) → SuitModes shapes modes → ((i : ℕ) (f : ModeShape) → slice_get shapes i ≡ Some f → f.number < length modes) → AllByRecursion (IsModeOf program first q w) modes
      → AllByRecursion (IsModeShape all k w) shapes
  modes_are w [] modes suit numbers are = tt
  modes_are w (f ∷ shapes) modes suit numbers are =
      let m = there_is modes f.number (numbers 0 f refl) in
      let here : IsModeOf program first q w (mode_at modes f.number) = subst (IsModeOf program first q w) (sym (mode_there modes f.number m.0 m.1)) (each_at (IsModeOf program first q w) modes f.number m.0 are m.1) in
      (mode_is w f (mode_at modes f.number) suit.0 here, modes_are w shapes modes suit.1 (λ i g is. numbers (suc i) g is) are)

  has_some : (j : ℕ) (shapes : List ModeShape) → HasModeAt j shapes → 0 < length shapes
  has_some j [] h = absurd h
  has_some j (f ∷ shapes) h = omega arith

  lane_is : (p : ℕ) (shape : LaneShape) (lane : Lane) → SuitsLane shape lane → IsLaneOf program first p q lane → IsLaneShape all k shape
  lane_is p shape lane suit is = record {
    some = has_some is.some.0 shape.modes (suit.active is.some.0 is.some.1 is.some.2 is.some.3);
    modes = subst (λ (w : Width). AllByRecursion (IsModeShape all k w.bits) shape.modes) suit.width (modes_are lane.width.bits shape.modes lane.modes suit.modes suit.numbers is.modes);
  }

-- ---- the lanes of a cell

pub suit_at : (shapes : List LaneShape) (lanes : List Lane) → SuitLanes shapes lanes → (k : ℕ) (shape : LaneShape) (lane : Lane) → slice_get shapes k ≡ Some shape → slice_get lanes k ≡ Some lane → SuitsLane shape lane
suit_at [] [] suit k shape lane is there = absurd cc
suit_at (s ∷ shapes) (l ∷ lanes) suit zero shape lane is there = subst (λ x. SuitsLane x lane) (some_is s shape is) (subst (SuitsLane s) (some_is l lane there) suit.0)
suit_at (s ∷ shapes) (l ∷ lanes) suit (suc k) shape lane is there = suit_at shapes lanes suit.1 k shape lane is there
suit_at [] (l ∷ lanes) suit k shape lane is there = absurd suit
suit_at (s ∷ shapes) [] suit k shape lane is there = absurd suit

kind_is : (program : Program) → IsProgram program → (p : ℕ) (own : CellLanes) → slice_get program.cells p ≡ Some own → (all : List LaneShape) → SuitLanes all (lanes_of program own) → IsKindShape all
kind_is program is p own is_cell all suit =
    let within = cell_within 0 program.cells (length program.lanes) is.in_turn p own is_cell in
    let many = suit_many all (lanes_of program own) suit in
    let count = lanes_many program own within in
    record { some = omega (arith, many, count); lanes = lane_at }
  where
    lane_of : (h : ℕ) → h < length all → (lane : Lane) × (slice_get (lanes_of program own) h ≡ Some lane)
    lane_of h lt = there_is (lanes_of program own) h (omega (arith, lt, suit_many all (lanes_of program own) suit))

    low : own.first ≤ own.value
    low = (cell_within 0 program.cells (length program.lanes) is.in_turn p own is_cell).low

    earlier : (k : ℕ) → k < length all → (h : ℕ) (lane : Lane) → own.first + h < own.first + k → slice_get program.lanes (own.first + h) ≡ Some lane → IsEarlier all k h lane.width
    earlier k lt h lane before there =
        let below : h < length all = omega (arith, before, lt) in
        let shape = there_is all h below in
        let here = lane_of h below in
        let same : here.0 ≡ lane = some_is here.0 lane (sym (lane_of_cell program is p own is_cell h here.0 here.1 low).0 ∙ there) in
        record { shape = shape.0; there = shape.1; same = sym (suit_at all (lanes_of program own) suit h shape.0 here.0 shape.1 here.1).width ∙ ap (λ (l : Lane). l.width) same; before = omega (arith, before) }

    lane_at : (k : ℕ) (shape : LaneShape) → slice_get all k ≡ Some shape → IsLaneShape all k shape
    lane_at k shape there =
        let lt = below_length all k shape there in
        let lane = lane_of k lt in
        lane_is program own.first (own.first + k) all k (earlier k lt) p shape lane.0 (suit_at all (lanes_of program own) suit k shape lane.0 there lane.1) (lane_of_cell program is p own is_cell k lane.0 lane.1 low).1

-- ---- all kinds

at_range : {X : Type 0} (f : ℕ → X) (a n i : ℕ) (x : X) → slice_get (map f (range_with_len a n)) i ≡ Some x → (i < n) × (f (a + i) ≡ x)
at_range f a zero i x is = absurd cc
at_range f a (suc n) zero x is = let e : a + 0 ≡ a = omega arith in (omega arith, ap f e ∙ some_is (f a) x is)
at_range f a (suc n) (suc i) x is =
    let h = at_range f (a + 1) n i x is in
    let e : a + suc i ≡ a + 1 + i = omega arith in
    (omega (arith, h.0), ap f e ∙ h.1)

range_many : {X : Type 0} (f : ℕ → X) (a n : ℕ) → length (map f (range_with_len a n)) ≡ n
range_many f a zero = refl
range_many f a (suc n) = ap suc (range_many f (a + 1) n)

-- some cell is of each kind that is counted
record IsMet (program : Program) (kind : ℕ) : Type 0 where
  p : ℕ
  own : CellLanes
  is_cell : slice_get program.cells p ≡ Some own
  is_kind : slice_get program.kinds p ≡ Some kind

met : (program : Program) → IsProgram program → (count : ℕ) → IsKindCount program.kinds count → (kind : ℕ) → kind < count → IsMet program kind
met program is count counted kind lt =
    let top = counted.reached (omega (arith, lt)) in
    let at = is.numbered top.0 top.1 kind top.2 (omega (arith, lt, top.3)) in
    let cell = there_is program.cells at.0 (omega (arith, below_length program.kinds at.0 kind at.1, is.kinds)) in
    record { p = at.0; own = cell.0; is_cell = cell.1; is_kind = at.1 }

-- the shapes of so many kinds
abbrev pub shapes_of : Program → ℕ → List (List LaneShape)
shapes_of program count = map (kind_shape program) (range_with_len 0 count)

are_shapes : (program : Program) → IsProgram program → (count : ℕ) → IsKindCount program.kinds count → AreShapesOf program (shapes_of program count)
are_shapes program is count counted = record {
  each = each_by_place IsKindShape (shapes_of program count) (λ k shape there.
      let h = at_range (kind_shape program) 0 count k shape there in
      let e : 0 + k ≡ k = omega arith in
      let m = met program is count counted k h.0 in
      kind_is program is m.p m.own m.is_cell shape (subst (λ s. SuitLanes s (lanes_of program m.own)) (ap (kind_shape program) (sym e) ∙ h.1) (suits k m.p m.own m.is_kind m.is_cell)));
  suit = λ k shape there p own is_cell is_kind.
      let h = at_range (kind_shape program) 0 count k shape there in
      let e : 0 + k ≡ k = omega arith in
      subst (λ s. SuitLanes s (lanes_of program own)) (ap (kind_shape program) (sym e) ∙ h.1) (suits k p own is_kind is_cell);
  all = λ p k there. let m = range_many (kind_shape program) 0 count in let b = counted.below p k there in omega (arith, m, b);
  ordered = kinds_ordered program 0 count;
}
  where
    suits : (k p : ℕ) (own : CellLanes) → slice_get program.kinds p ≡ Some k → slice_get program.cells p ≡ Some own → SuitLanes (kind_shape program k) (lanes_of program own)
    suits k p own is_kind is_cell = kind_suits program k (λ i j a b ki kj ci cj. is.alike i j k a b ki kj ci cj) p own is_kind is_cell

pub shapes_put : (program : Program) (n : ℕ) (old next : List (List LaneShapeMade)) (shape : List LaneShapeMade) → map (map lane_shape_of) old ≡ shapes_of program n → map lane_shape_of shape ≡ kind_shape program n → next ≡ old ++ shape ∷ []
    → map (map lane_shape_of) next ≡ shapes_of program (n + 1)
shapes_put program n old next shape h is put =
    range_more (kind_shape program) [] (map (map lane_shape_of) old) (map (map lane_shape_of) next) n (map lane_shape_of shape) h (ap (map (map lane_shape_of)) put ∙ map-append (map lane_shape_of) old (shape ∷ [])) is

pub shapes_whole : (program : Program) → IsProgram program → (n count : ℕ) (shapes : List (List LaneShapeMade)) → n ≡ count → IsKindCount program.kinds count → map (map lane_shape_of) shapes ≡ shapes_of program n → AreShapesOf program (map (map lane_shape_of) shapes)
shapes_whole program is n count shapes e counted h = subst (AreShapesOf program) (sym (h ∙ ap (shapes_of program) e)) (are_shapes program is count counted)
