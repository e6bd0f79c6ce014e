-- The shape of a kind has room for each of its cells, and a kind can be made of it.
use Rattle.std.proofs.Common.{◌≡◌, ℕ, zero, suc, ◌+◌, ◌<◌, ◌≤◌, inl, inr, List, [], ◌∷◌, length, map, filter, Some, refl, sym, subst, ap, ◌∙◌, arith, Bool, true, false, if◌then◌else◌, max}
use Rattle.std.specs.Prelude.{slice_get, nat_lt, nat_eq}
use Rattle.std.specs.List.{AllByRecursion}
use Rattle.av_base.proofs.Lists.{some_is}
use Rattle.av_kinds.specs.declared.program.CellLanes.{CellLanes}
use Rattle.av_kinds.specs.declared.program.ProgramSite.{ProgramSite}
use Rattle.av_kinds.specs.declared.shape.SiteShape.{SiteShape}
use Rattle.av_kinds.specs.Programs.{Mode, mode_at, Lane, Program, lanes_of, Paired, AreAlikeSites, AreAlikeModes, AreAlikeLanes}
use Rattle.av_kinds.specs.inner.Shapes.{ModeShape, LaneShape, SuitSites, SuitsMode, SuitModes, HasModeAt, SuitsLane, SuitLanes}
use Rattle.av_kinds.specs.inner.Shaped.{site_shapes, mode_shapes, lane_shapes, shapes_by, is_used, used, kind_shape}

-- ---- the shape with all modes, by number

abbrev pub FitModes : ℕ → List ModeShape → List Mode → Type 0
FitModes k [] [] = Unit {0}
FitModes k (f ∷ shapes) (m ∷ modes) = (f.number ≡ k) × SuitsMode f m × FitModes (k + 1) shapes modes
FitModes k [] (m ∷ modes) = ⊥
FitModes k (f ∷ shapes) [] = ⊥

pub record FitsLane (shape : LaneShape) (lane : Lane) : Type 0 where
  width : lane.width ≡ shape.width
  modes : FitModes 0 shape.modes lane.modes

abbrev pub FitLanes : List LaneShape → List Lane → Type 0
FitLanes [] [] = Unit {0}
FitLanes (shape ∷ shapes) (lane ∷ lanes) = FitsLane shape lane × FitLanes shapes lanes
FitLanes [] (lane ∷ lanes) = ⊥
FitLanes (shape ∷ shapes) [] = ⊥

first_most : (a b : ℕ) → a ≤ max a b
first_most a b = omega arith

second_most : (a b : ℕ) → b ≤ max a b
second_most a b = omega arith

-- ---- it has room for the cell that it was made for

own_sites : (before : List SiteShape) (sites : List ProgramSite) → SuitSites (site_shapes before sites) sites
own_sites before [] = tt
own_sites [] (site ∷ sites) = (record { inlet = refl; width = refl; room = second_most 0 (length site.selections) }, own_sites [] sites)
own_sites (s ∷ before) (site ∷ sites) = (record { inlet = refl; width = refl; room = second_most s.selections (length site.selections) }, own_sites before sites)

own_modes : (before : List ModeShape) (k : ℕ) (modes : List Mode) → FitModes k (mode_shapes before k modes) modes
own_modes before k [] = tt
own_modes [] k (m ∷ modes) = (refl, record { sites = own_sites [] m.work.sites; tree = refl; room = second_most 0 (length m.windows) }, own_modes [] (k + 1) modes)
own_modes (f ∷ before) k (m ∷ modes) = (refl, record { sites = own_sites f.sites m.work.sites; tree = refl; room = second_most f.windows (length m.windows) }, own_modes before (k + 1) modes)

own_lanes : (before : List LaneShape) (lanes : List Lane) → FitLanes (lane_shapes before lanes) lanes
own_lanes before [] = tt
own_lanes [] (lane ∷ lanes) = (record { width = refl; modes = own_modes [] 0 lane.modes }, own_lanes [] lanes)
own_lanes (f ∷ before) (lane ∷ lanes) = (record { width = refl; modes = own_modes f.modes 0 lane.modes }, own_lanes before lanes)

-- ---- and for those before it, which are like it

old_sites : (before : List SiteShape) (old sites : List ProgramSite) → SuitSites before old → Paired AreAlikeSites old sites → SuitSites (site_shapes before sites) old
old_sites [] [] [] suit alike = tt
old_sites (s ∷ before) (o ∷ old) (site ∷ sites) suit alike =
    (record { inlet = alike.0.inlet; width = alike.0.width; room = omega (arith, suit.0.room, first_most s.selections (length site.selections)) }, old_sites before old sites suit.1 alike.1)
old_sites [] (o ∷ old) sites suit alike = absurd suit
old_sites (s ∷ before) [] sites suit alike = absurd suit
old_sites [] [] (site ∷ sites) suit alike = absurd alike
old_sites (s ∷ before) (o ∷ old) [] suit alike = absurd alike

old_modes : (k : ℕ) (before : List ModeShape) (old modes : List Mode) → FitModes k before old → Paired AreAlikeModes old modes → FitModes k (mode_shapes before k modes) old
old_modes k [] [] [] suit alike = tt
old_modes k (f ∷ before) (o ∷ old) (m ∷ modes) suit alike = (
  refl,
  record {
    sites = old_sites f.sites o.work.sites m.work.sites suit.1.sites alike.0.sites;
    tree = alike.0.tree;
    room = omega (arith, suit.1.room, first_most f.windows (length m.windows));
  },
  old_modes (k + 1) before old modes suit.2 alike.1,
)
old_modes k [] (o ∷ old) modes suit alike = absurd suit
old_modes k (f ∷ before) [] modes suit alike = absurd suit
old_modes k [] [] (m ∷ modes) suit alike = absurd alike
old_modes k (f ∷ before) (o ∷ old) [] suit alike = absurd alike

old_lanes : (before : List LaneShape) (old lanes : List Lane) → FitLanes before old → Paired AreAlikeLanes old lanes → FitLanes (lane_shapes before lanes) old
old_lanes [] [] [] suit alike = tt
old_lanes (f ∷ before) (o ∷ old) (lane ∷ lanes) suit alike =
    (record { width = alike.0.width; modes = old_modes 0 f.modes o.modes lane.modes suit.0.modes alike.0.modes }, old_lanes before old lanes suit.1 alike.1)
old_lanes [] (o ∷ old) lanes suit alike = absurd suit
old_lanes (f ∷ before) [] lanes suit alike = absurd suit
old_lanes [] [] (lane ∷ lanes) suit alike = absurd alike
old_lanes (f ∷ before) (o ∷ old) [] suit alike = absurd alike

-- ---- the modes that some cell has

-- the mode of this number, among those from k on
by_number : (k : ℕ) (shapes : List ModeShape) (modes : List Mode) → FitModes k shapes modes → (i : ℕ) (f : ModeShape) → slice_get shapes i ≡ Some f → (f.number ≡ k + i) × (m : Mode) × (slice_get modes i ≡ Some m) × SuitsMode f m
by_number k [] [] fit i f is = absurd cc
by_number k (g ∷ shapes) (m ∷ modes) fit zero f is =
    let same : g ≡ f = some_is g f is in
    let e : k ≡ k + 0 = omega arith in
    subst (λ (x : ModeShape). (x.number ≡ k + 0) × (n : Mode) × (slice_get (m ∷ modes) 0 ≡ Some n) × SuitsMode x n) same (fit.0 ∙ e, m, refl, fit.1)
by_number k (g ∷ shapes) (m ∷ modes) fit (suc i) f is =
    let rest = by_number (k + 1) shapes modes fit.2 i f is in
    let e : k + 1 + i ≡ k + suc i = omega arith in
    (rest.0 ∙ e, rest.1, rest.2, rest.3)
by_number k [] (m ∷ modes) fit i f is = absurd fit
by_number k (g ∷ shapes) [] fit i f is = absurd fit

-- a mode that is there is the one of its number
pub mode_there : (modes : List Mode) (k : ℕ) (m : Mode) → slice_get modes k ≡ Some m → mode_at modes k ≡ m
mode_there [] k m is = absurd cc
mode_there (n ∷ modes) zero m is = some_is n m is
mode_there (n ∷ modes) (suc k) m is = mode_there modes k m is

pub below_length : {X : Type 0} (xs : List X) (k : ℕ) (x : X) → slice_get xs k ≡ Some x → k < length xs
below_length [] k x is = absurd cc
below_length (y ∷ xs) zero x is = omega arith
below_length (y ∷ xs) (suc k) x is = let h = below_length xs k x is in omega (arith, h)

-- each shape of these has room for the mode of its number
record FitsAt (modes : List Mode) (f : ModeShape) : Type 0 where
  there : f.number < length modes
  room : SuitsMode f (mode_at modes f.number)

fits_at : (shapes : List ModeShape) (modes : List Mode) → FitModes 0 shapes modes → (i : ℕ) (f : ModeShape) → slice_get shapes i ≡ Some f → FitsAt modes f
fits_at shapes modes fit i f is =
    let h = by_number 0 shapes modes fit i f is in
    let e : i ≡ f.number = omega (arith, h.0) in
    let at : slice_get modes f.number ≡ Some h.1 = subst (λ j. slice_get modes j ≡ Some h.1) e h.2 in
    record { there = below_length modes f.number h.1 at; room = subst (SuitsMode f) (sym (mode_there modes f.number h.1 at)) h.3 }

all_fit : (all : List ModeShape) (modes : List Mode) → ((i : ℕ) (f : ModeShape) → slice_get all i ≡ Some f → FitsAt modes f) → AllByRecursion (FitsAt modes) all
all_fit [] modes each = tt
all_fit (f ∷ all) modes each = (each 0 f refl, all_fit all modes (λ i g is. each (suc i) g is))

kept : (modes : List Mode) (all : List ModeShape) → AllByRecursion (FitsAt modes) all → AllByRecursion (FitsAt modes) (filter is_used all)
kept modes [] each = tt
kept modes (f ∷ all) each = by_use (is_used f) (kept modes all each.1)
  where
    by_use : (b : Bool) → AllByRecursion (FitsAt modes) (filter is_used all) → AllByRecursion (FitsAt modes) (if b then f ∷ filter is_used all else filter is_used all)
    by_use true later = (each.0, later)
    by_use false later = later

suit_of : (modes : List Mode) (shapes : List ModeShape) → AllByRecursion (FitsAt modes) shapes → SuitModes shapes modes
suit_of modes [] each = tt
suit_of modes (f ∷ shapes) each = (each.0.room, suit_of modes shapes each.1)

numbers_of : (modes : List Mode) (shapes : List ModeShape) → AllByRecursion (FitsAt modes) shapes → (i : ℕ) (f : ModeShape) → slice_get shapes i ≡ Some f → f.number < length modes
numbers_of modes [] each i f is = absurd cc
numbers_of modes (g ∷ shapes) each zero f is = subst (λ (x : ModeShape). x.number < length modes) (some_is g f is) each.0.there
numbers_of modes (g ∷ shapes) each (suc i) f is = numbers_of modes shapes each.1 i f is

-- a mode that is active at some time is used
used_mode : (k : ℕ) (all : List ModeShape) (modes : List Mode) → FitModes k all modes → (i : ℕ) (m : Mode) → slice_get modes i ≡ Some m → 0 < length m.windows → (j : ℕ) → k + i ≡ j → HasModeAt j (filter is_used all)
used_mode k [] [] fit i m is some j at = absurd cc
used_mode k (f ∷ all) (n ∷ modes) fit zero m is some j at =
    let same : n ≡ m = some_is n m is in
    let lt : 0 < f.windows = omega (arith, subst (λ (x : Mode). length x.windows ≤ f.windows) same fit.1.room, some) in
    let e : f.number ≡ j = omega (arith, fit.0, at) in
    by_use (is_used f) (used_test f.windows lt) e
  where
    used_test : (i : ℕ) → 0 < i → nat_lt 0 i ≡ true
    used_test i lt = grind arith

    by_use : (b : Bool) → b ≡ true → f.number ≡ j → HasModeAt j (if b then f ∷ filter is_used all else filter is_used all)
    by_use true t e = inl e
    by_use false t e = absurd cc
used_mode k (f ∷ all) (n ∷ modes) fit (suc i) m is some j at =
    let rest = used_mode (k + 1) all modes fit.2 i m is some j (omega (arith, at)) in
    by_use (is_used f) rest
  where
    by_use : (b : Bool) → HasModeAt j (filter is_used all) → HasModeAt j (if b then f ∷ filter is_used all else filter is_used all)
    by_use true h = inr h
    by_use false h = h
used_mode k [] (n ∷ modes) fit i m is some j at = absurd fit
used_mode k (f ∷ all) [] fit i m is some j at = absurd fit

pub lane_suits : (shape : LaneShape) (lane : Lane) → FitsLane shape lane → SuitsLane (used shape) lane
lane_suits shape lane fit =
    let each = kept lane.modes shape.modes (all_fit shape.modes lane.modes (fits_at shape.modes lane.modes fit.modes)) in
    record {
      width = fit.width;
      modes = suit_of lane.modes (filter is_used shape.modes) each;
      numbers = numbers_of lane.modes (filter is_used shape.modes) each;
      active = λ k m is some. used_mode 0 shape.modes lane.modes fit.modes k m is some k (omega arith);
    }

lanes_suit : (shapes : List LaneShape) (lanes : List Lane) → FitLanes shapes lanes → SuitLanes (map used shapes) lanes
lanes_suit [] [] fit = tt
lanes_suit (shape ∷ shapes) (lane ∷ lanes) fit = (lane_suits shape lane fit.0, lanes_suit shapes lanes fit.1)
lanes_suit [] (lane ∷ lanes) fit = absurd fit
lanes_suit (shape ∷ shapes) [] fit = absurd fit

-- ---- all cells of a kind

-- the cells of a kind among these are like each other
abbrev pub AreAlike : Program → ℕ → List CellLanes → List ℕ → Type 0
AreAlike program kind cells kinds =
    (p q : ℕ) (own other : CellLanes) → slice_get kinds p ≡ Some kind → slice_get kinds q ≡ Some kind → slice_get cells p ≡ Some own → slice_get cells q ≡ Some other → Paired AreAlikeLanes (lanes_of program own) (lanes_of program other)

later_alike : (program : Program) (kind : ℕ) (own : CellLanes) (cells : List CellLanes) (k : ℕ) (kinds : List ℕ) → AreAlike program kind (own ∷ cells) (k ∷ kinds) → AreAlike program kind cells kinds
later_alike program kind own cells k kinds alike p q a b kp kq cp cq = alike (suc p) (suc q) a b kp kq cp cq

-- what has room for a cell before, which is like all these, has room for it in the end
keeps_old : (program : Program) (kind : ℕ) (before : List LaneShape) (cells : List CellLanes) (kinds : List ℕ) (old : List Lane) → FitLanes before old
    → ((p : ℕ) (own : CellLanes) → slice_get kinds p ≡ Some kind → slice_get cells p ≡ Some own → Paired AreAlikeLanes old (lanes_of program own)) → FitLanes (shapes_by program kind before cells kinds) old
keeps_old program kind before [] kinds old fit alike = fit
keeps_old program kind before (own ∷ cells) [] old fit alike = fit
keeps_old program kind before (own ∷ cells) (k ∷ kinds) old fit alike =
    by_kind (nat_eq k kind) refl
    (λ same. keeps_old program kind (lane_shapes before (lanes_of program own)) cells kinds old (old_lanes before old (lanes_of program own) fit (alike 0 own (ap Some same) refl)) (λ p o kp cp. alike (suc p) o kp cp))
    (keeps_old program kind before cells kinds old fit (λ p o kp cp. alike (suc p) o kp cp))
  where
    by_kind : (b : Bool) → nat_eq k kind ≡ b → (k ≡ kind → FitLanes (shapes_by program kind (lane_shapes before (lanes_of program own)) cells kinds) old) → FitLanes (shapes_by program kind before cells kinds) old
        → FitLanes (if b then shapes_by program kind (lane_shapes before (lanes_of program own)) cells kinds else shapes_by program kind before cells kinds) old
    by_kind true e taken passed = let same : k ≡ kind = grind arith in taken same
    by_kind false e taken passed = passed

room_for : (program : Program) (kind : ℕ) (before : List LaneShape) (cells : List CellLanes) (kinds : List ℕ) → AreAlike program kind cells kinds
    → (p : ℕ) (own : CellLanes) → slice_get kinds p ≡ Some kind → slice_get cells p ≡ Some own → FitLanes (shapes_by program kind before cells kinds) (lanes_of program own)
room_for program kind before [] kinds alike p own kp cp = absurd cc
room_for program kind before (o ∷ cells) [] alike p own kp cp = absurd cc
room_for program kind before (o ∷ cells) (k ∷ kinds) alike p own kp cp =
    by_kind (nat_eq k kind) refl p kp cp (λ i ki ci. room_for program kind (lane_shapes before (lanes_of program o)) cells kinds (later_alike program kind o cells k kinds alike) i own ki ci)
    (λ i ki ci. room_for program kind before cells kinds (later_alike program kind o cells k kinds alike) i own ki ci)
  where
    at_first : (j : ℕ) → slice_get (k ∷ kinds) 0 ≡ Some j → k ≡ j
    at_first j e = some_is k j e

    not_both : true ≡ false → ⊥
    not_both e = absurd cc

    same_test : (i j : ℕ) → i ≡ j → nat_eq i j ≡ true
    same_test i j e = grind arith

    by_kind : (b : Bool) → nat_eq k kind ≡ b → (p : ℕ) → slice_get (k ∷ kinds) p ≡ Some kind → slice_get (o ∷ cells) p ≡ Some own
        → ((i : ℕ) → slice_get kinds i ≡ Some kind → slice_get cells i ≡ Some own → FitLanes (shapes_by program kind (lane_shapes before (lanes_of program o)) cells kinds) (lanes_of program own))
        → ((i : ℕ) → slice_get kinds i ≡ Some kind → slice_get cells i ≡ Some own → FitLanes (shapes_by program kind before cells kinds) (lanes_of program own))
        → FitLanes (if b then shapes_by program kind (lane_shapes before (lanes_of program o)) cells kinds else shapes_by program kind before cells kinds) (lanes_of program own)
    by_kind true e zero kp cp taken passed =
        let cell : o ≡ own = some_is o own cp in
        let fits : FitLanes (lane_shapes before (lanes_of program o)) (lanes_of program own) = subst (λ (x : CellLanes). FitLanes (lane_shapes before (lanes_of program o)) (lanes_of program x)) cell (own_lanes before (lanes_of program o)) in
        keeps_old program kind (lane_shapes before (lanes_of program o)) cells kinds (lanes_of program own) fits (λ q other kq cq. alike 0 (suc q) own other kp kq cp cq)
    by_kind true e (suc p) kp cp taken passed = taken p kp cp
    by_kind false e zero kp cp taken passed = absurd (not_both (sym (same_test k kind (at_first kind kp)) ∙ e))
    by_kind false e (suc p) kp cp taken passed = passed p kp cp

-- The shape of a kind has room for each of its cells.
pub kind_suits : (program : Program) (kind : ℕ) → AreAlike program kind program.cells program.kinds → (p : ℕ) (own : CellLanes) → slice_get program.kinds p ≡ Some kind → slice_get program.cells p ≡ Some own → SuitLanes (kind_shape program kind) (lanes_of program own)
kind_suits program kind alike p own kp cp = lanes_suit (shapes_by program kind [] program.cells program.kinds) (lanes_of program own) (room_for program kind [] program.cells program.kinds alike p own kp cp)
