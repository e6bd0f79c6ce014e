-- The instances of a program's cells: they are named, of sound kinds, and what stands at their ports may stand there.
use Rattle.std.proofs.Common.{◌≡◌, ℕ, zero, suc, ◌+◌, ◌-◌, ◌^◌, ◌<◌, ◌≤◌, List, [], ◌∷◌, ◌++◌, map, length, take, drop, get_or, refl, sym, subst, ap, ◌∙◌, arith, Bool, true, false, ◌||◌, Some}
use Rattle.std.specs.Prelude.{Contains, slice_get}
use Rattle.std.specs.List.{AllByRecursion, list_any}
use Rattle.std.proofs.lemmas.List.{length-drop, length-take-le}
use Rattle.std.proofs.lemmas.List.Elements.{All-from_recursion, Contains-append_left}
use Rattle.av_base.specs.declared.width.Width.{Width}
use Rattle.av_base.proofs.Lists.{some_is, there_is, each_at, each_by_place, each_weaker}
use Rattle.av_net.specs.declared.operation.Operand.{Operand}
use Rattle.av_net.specs.declared.operation.Operand.TheVariants.{Name, Literal}
use Rattle.av_net.specs.declared.plan.CellKind.{CellKind}
use Rattle.av_net.specs.declared.plan.Instance.{Instance}
use Rattle.av_net.specs.Meaning.{Widths}
use Rattle.av_net.specs.Names.{IsAmong}
use Rattle.av_net.specs.Sound.{IsSound, IsFitting}
use Rattle.av_net.specs.Flat.{kind_module, no_kind}
use Rattle.av_net.specs.Plans.{SuitPorts, AreInOrder, IsPlaced}
use Rattle.av_kinds.specs.declared.counter.Counter.{Counter}
use Rattle.av_kinds.specs.declared.program.CellLanes.{CellLanes}
use Rattle.av_kinds.specs.declared.program.Inlet.{Inlet}
use Rattle.av_kinds.specs.declared.program.Inlet.TheVariants.{Inputs, Taps, Pipe}
use Rattle.av_kinds.specs.declared.program.Selection.{Selection}
use Rattle.av_kinds.specs.declared.program.ProgramSite.{ProgramSite}
use Rattle.av_kinds.specs.declared.program.WordSource.{WordSource}
use Rattle.av_kinds.specs.declared.program.WordSource.TheVariants.{Word, Input, Line}
use Rattle.av_kinds.specs.Programs.{Mode, mode_at, no_mode, Lane, Program, lanes_of, AreInTurn, IsSource, IsInletOf, IsSite, IsModeOf, IsLaneOf, IsProgram}
use Rattle.av_kinds.specs.Names.{Labels, input_name, labels}
use Rattle.av_kinds.specs.Counters.{counter_width, counter_name}
use Rattle.av_kinds.specs.inner.Shapes.{LaneShape, IsKindShape, SuitLanes}
use Rattle.av_kinds.specs.inner.Kinds.{counts, lanes_outputs, kind_inputs, kind_by}
use Rattle.av_kinds.specs.inner.Instances.{outputs_from, cell_operands, instance_by}
use Rattle.av_kinds.specs.inner.Modules.{AreShapesOf, kinds_by, instances_by}
use Rattle.av_kinds.proofs.KindNames.{IsFewKind}
use Rattle.av_kinds.proofs.FewKinds.{kinds_many}
use Rattle.av_kinds.proofs.KindSound.{kind_sound}
use Rattle.av_kinds.proofs.PlanShown.{got, kind_there}
use Rattle.av_kinds.proofs.ShapeSuits.{below_length}
use Rattle.av_kinds.proofs.PartNames.{AreNamed}
use Rattle.av_kinds.proofs.SortedKinds.{or_second}
use Rattle.av_kinds.proofs.TopGroups.{HaveRoom}
use Rattle.av_kinds.proofs.Feeds.{IsFeed, Feed, IsSourceFeed, InletFeeds, SiteFeeds, ModeFeeds, ModesFeed, feed_suits, feed_known, feed_fits, cell_feed}

-- ---- cells with their kinds

-- what holds of each cell, of the number p and more, with its kind
abbrev pub EachCell : (ℕ → CellLanes → ℕ → Type 0) → ℕ → List CellLanes → List ℕ → Type 0
EachCell P p [] kinds = Unit {0}
EachCell P p (own ∷ cells) [] = ⊥
EachCell P p (own ∷ cells) (k ∷ kinds) = P p own k × EachCell P (p + 1) cells kinds

each_cell : (P : ℕ → CellLanes → ℕ → Type 0) (p : ℕ) (cells : List CellLanes) (kinds : List ℕ) → length kinds ≡ length cells
    → ((i : ℕ) (own : CellLanes) (k : ℕ) → slice_get cells i ≡ Some own → slice_get kinds i ≡ Some k → (q : ℕ) → p + i ≡ q → P q own k) → EachCell P p cells kinds
each_cell P p [] kinds many each = tt
each_cell P p (own ∷ cells) [] many each = absurd (omega (arith, many))
each_cell P p (own ∷ cells) (k ∷ kinds) many each =
    (each 0 own k refl refl p (omega arith), each_cell P (p + 1) cells kinds (omega (arith, many)) (λ i o n is_cell is_kind q at. each (suc i) o n is_cell is_kind q (omega (arith, at))))

-- ---- the lanes of a cell

pub in_cell : (lanes : List Lane) (first n h : ℕ) (lane : Lane) → slice_get (take n (drop first lanes)) h ≡ Some lane → (slice_get lanes (first + h) ≡ Some lane) × (h < n)
in_cell lanes zero n h lane is =
    let e : 0 + h ≡ h = omega arith in
    let t = taken lanes n h is in
    (subst (λ i. slice_get lanes i ≡ Some lane) (sym e) t.0, t.1)
  where
    taken : (xs : List Lane) (n i : ℕ) → slice_get (take n xs) i ≡ Some lane → (slice_get xs i ≡ Some lane) × (i < n)
    taken [] zero i is = absurd cc
    taken [] (suc n) i is = absurd cc
    taken (y ∷ xs) zero i is = absurd cc
    taken (y ∷ xs) (suc n) zero is = (is, omega arith)
    taken (y ∷ xs) (suc n) (suc i) is = let h = taken xs n i is in (h.0, omega (arith, h.1))
in_cell [] (suc first) zero h lane is = absurd cc
in_cell [] (suc first) (suc n) h lane is = absurd cc
in_cell (l ∷ lanes) (suc first) n h lane is =
    let t = in_cell lanes first n h lane is in
    let e : suc (first + h) ≡ suc first + h = omega arith in
    (subst (λ i. slice_get (l ∷ lanes) i ≡ Some lane) e t.0, t.1)

pub lane_of_cell : (program : Program) → IsProgram program → (p : ℕ) (own : CellLanes) → slice_get program.cells p ≡ Some own → (h : ℕ) (lane : Lane) → slice_get (lanes_of program own) h ≡ Some lane → own.first ≤ own.value
    → (slice_get program.lanes (own.first + h) ≡ Some lane) × IsLaneOf program own.first p (own.first + h) lane
lane_of_cell program is p own is_cell h lane there le =
    let t = in_cell program.lanes own.first (suc (own.value - own.first)) h lane there in
    (t.0, is.lanes p (own.first + h) own lane is_cell (omega arith) (omega (arith, t.1, le)) t.0)

pub record IsWithin (count : ℕ) (own : CellLanes) : Type 0 where
  pub low : own.first ≤ own.value
  pub high : own.value < count

in_turn_most : (q : ℕ) (cells : List CellLanes) (count : ℕ) → AreInTurn q cells count → q ≤ count
in_turn_most q [] count turn = omega (arith, turn)
in_turn_most q (o ∷ cells) count turn = let h = in_turn_most (suc o.value) cells count turn.2 in omega (arith, turn.0, turn.1, h)

pub cell_within : (q : ℕ) (cells : List CellLanes) (count : ℕ) → AreInTurn q cells count → (p : ℕ) (own : CellLanes) → slice_get cells p ≡ Some own → IsWithin count own
cell_within q [] count turn p own is = absurd cc
cell_within q (o ∷ cells) count turn zero own is =
    let h = in_turn_most (suc o.value) cells count turn.2 in
    subst (IsWithin count) (some_is o own is) (record { low = turn.1; high = omega (arith, h) })
cell_within q (o ∷ cells) count turn (suc p) own is = cell_within (suc o.value) cells count turn.2 p own is

pub suit_many : (shapes : List LaneShape) (lanes : List Lane) → SuitLanes shapes lanes → length shapes ≡ length lanes
suit_many [] [] suit = refl
suit_many (s ∷ shapes) (l ∷ lanes) suit = ap suc (suit_many shapes lanes suit.1)
suit_many [] (l ∷ lanes) suit = absurd suit
suit_many (s ∷ shapes) [] suit = absurd suit

pub lanes_many : (program : Program) (own : CellLanes) → IsWithin (length program.lanes) own → length (lanes_of program own) ≡ suc (own.value - own.first)
lanes_many program own h =
    let left : length (drop own.first program.lanes) ≡ length program.lanes - own.first = length-drop own.first program.lanes in
    length-take-le (suc (own.value - own.first)) (drop own.first program.lanes) (omega (arith, left, h.low, h.high))

pub some_counts : (shapes : List (List LaneShape)) (k : ℕ) (shape : List LaneShape) → slice_get shapes k ≡ Some shape → counts shape ≡ true → list_any counts shapes ≡ true
some_counts [] k shape is counted = absurd cc
some_counts (s ∷ shapes) zero shape is counted = let e : counts s ≡ true = ap counts (some_is s shape is) ∙ counted in rw e refl
some_counts (s ∷ shapes) (suc k) shape is counted = or_second (counts s) (list_any counts shapes) (some_counts shapes k shape is counted)

-- what holds without a mode, and of each that is there, holds of that of each number
at_mode : (P : Mode → Type 0) → P no_mode → (modes : List Mode) → AllByRecursion P modes → (k : ℕ) → P (mode_at modes k)
at_mode P none [] each k = none
at_mode P none (m ∷ modes) each zero = each.0
at_mode P none (m ∷ modes) each (suc k) = at_mode P none modes each.1 k

among_more : (a b : List (List ℕ)) → ((x : List ℕ) → Contains a x → Contains b x) → (o : Operand) → IsAmong a o → IsAmong b o
among_more a b more (Name x) h = more x h
among_more a b more (Literal width value) h = tt

instances_in_order : (given known : List (List ℕ)) → ((x : List ℕ) → Contains given x → Contains known x) → (instances : List Instance) → AllByRecursion (λ (i : Instance). AllByRecursion (IsAmong given) i.inputs) instances → AreInOrder known instances
instances_in_order given known more [] h = tt
instances_in_order given known more (i ∷ instances) h = (
  All-from_recursion (IsAmong known) i.inputs (each_weaker (IsAmong given) (IsAmong known) (among_more given known more) i.inputs h.0),
  instances_in_order given (known ++ i.outputs) (λ x at. Contains-append_left known i.outputs x (more x at)) instances h.1,
)

module _ (counter : Counter) (program : Program) (is : IsProgram program) (shapes : List (List LaneShape)) (are : AreShapesOf program shapes) (few : AllByRecursion IsFewKind shapes) where
  abbrev pub names : Labels
  names = labels program

  abbrev pub kinds : List CellKind
  kinds = kinds_by 0 shapes

  -- a cell, with the shape of its kind
  pub record IsPlacedCell (p : ℕ) (own : CellLanes) (k : ℕ) : Type 0 where
    pub is_cell : slice_get program.cells p ≡ Some own
    pub shape : List LaneShape
    pub is_shape : slice_get shapes k ≡ Some shape
    pub suits : SuitLanes shape (lanes_of program own)
    pub within : IsWithin (length program.lanes) own

  pub cells_placed : EachCell IsPlacedCell 0 program.cells program.kinds
  cells_placed = each_cell IsPlacedCell 0 program.cells program.kinds is.kinds (λ i own k is_cell is_kind q at. let e : i ≡ q = omega (arith, at) in subst (λ n. IsPlacedCell n own k) e (placed i own k is_cell is_kind))
    where
      placed : (p : ℕ) (own : CellLanes) (k : ℕ) → slice_get program.cells p ≡ Some own → slice_get program.kinds p ≡ Some k → IsPlacedCell p own k
      placed p own k is_cell is_kind =
          let there = there_is shapes k (are.all p k is_kind) in
          record { is_cell = is_cell; shape = there.0; is_shape = there.1; suits = are.suit k there.0 there.1 p own is_cell is_kind; within = cell_within 0 program.cells (length program.lanes) is.in_turn p own is_cell }

  pub have_room : (p : ℕ) (cells : List CellLanes) (ks : List ℕ) → EachCell IsPlacedCell p cells ks → HaveRoom program shapes cells ks
  have_room p [] ks each = tt
  have_room p (own ∷ cells) [] each = absurd each
  have_room p (own ∷ cells) (k ∷ ks) each =
      let h = each.0 in
      (ap length (got shapes k [] h.shape h.is_shape) ∙ suit_many h.shape (lanes_of program own) h.suits ∙ lanes_many program own h.within, have_room (p + 1) cells ks each.1)

  pub kind_is : (k : ℕ) (shape : List LaneShape) → slice_get shapes k ≡ Some shape → get_or kinds k no_kind ≡ kind_by k shape
  kind_is k shape there = got kinds k no_kind (kind_by k shape) (kind_there 0 shapes k shape there k (omega arith))

  pub named : (p : ℕ) (cells : List CellLanes) (ks : List ℕ) → EachCell IsPlacedCell p cells ks → AreNamed kinds p (instances_by counter program shapes p cells ks)
  named p [] ks each = tt
  named p (own ∷ cells) [] each = tt
  named p (own ∷ cells) (k ∷ ks) each =
      let h = each.0 in
      let sound : IsSound (kind_module (kind_by k h.shape)) = kind_sound k h.shape (each_at IsKindShape shapes k h.shape are.each h.is_shape) (each_at IsFewKind shapes k h.shape few h.is_shape) in
      (refl, subst (λ (x : CellKind). IsSound (kind_module x)) (sym (kind_is k h.shape h.is_shape)) sound, named (p + 1) cells ks each.1)

  -- what holds of the instance of each cell holds of all instances
  pub each_instance : (P : Instance → Type 0) → ((p : ℕ) (own : CellLanes) (k : ℕ) → (h : IsPlacedCell p own k) → P (instance_by names (counter_name counter) p k own.first h.shape (lanes_of program own)))
      → (p : ℕ) (cells : List CellLanes) (ks : List ℕ) → EachCell IsPlacedCell p cells ks → AllByRecursion P (instances_by counter program shapes p cells ks)
  each_instance P f p [] ks each = tt
  each_instance P f p (own ∷ cells) [] each = tt
  each_instance P f p (own ∷ cells) (k ∷ ks) each =
      (subst (λ (s : List LaneShape). P (instance_by names (counter_name counter) p k own.first s (lanes_of program own))) (sym (got shapes k [] each.0.shape each.0.is_shape)) (f p own k each.0), each_instance P f (p + 1) cells ks each.1)

  pub instances_many : (p : ℕ) (cells : List CellLanes) (ks : List ℕ) → EachCell IsPlacedCell p cells ks → length (instances_by counter program shapes p cells ks) ≡ length cells
  instances_many p [] ks each = refl
  instances_many p (own ∷ cells) [] each = absurd each
  instances_many p (own ∷ cells) (k ∷ ks) each = ap suc (instances_many (p + 1) cells ks each.1)

  -- where input ports, registers and wires have their widths
  pub record HasNames (given : List (List ℕ)) (W : Widths) : Type 0 where
    pub input : (k : ℕ) (w : Width) → slice_get program.inputs k ≡ Some w → IsFeed given W (Name (input_name k)) w.bits
    pub register : (q d : ℕ) (lane : Lane) → slice_get program.lanes q ≡ Some lane → d < lane.length → IsFeed given W (Name (names.register q d)) lane.width.bits
    pub value : (q : ℕ) (lane : Lane) → slice_get program.lanes q ≡ Some lane → W (names.value q) ≡ lane.width.bits
    pub count : list_any counts shapes ≡ true → IsFeed given W (Name (counter_name counter)) counter_width.bits

  module _ (given : List (List ℕ)) (W : Widths) (has : HasNames given W) where
    source_feed : (w : Width) (source : WordSource) → IsSource program w source → IsSourceFeed given W names w source
    source_feed w (Word n) h = record { known = tt; wide = refl; fits = h }
    source_feed w (Input k) h = has.input k w h
    source_feed w (Line q zero) h = absurd (omega (arith, h.4))
    source_feed w (Line q (suc d)) h = subst (λ (u : Width). IsFeed given W (Name (names.register q d)) u.bits) h.2 (has.register q d h.0 h.1 (omega (arith, h.3)))

    inlet_feeds : (first q : ℕ) (i : Inlet) (site : ProgramSite) → IsInletOf program first q i site → InletFeeds given W names i site.width site
    inlet_feeds first q Inputs site h = (
      each_weaker (λ (l : Selection). (l.last < 2 ^ 12) × IsSource program site.width l.source) (λ (l : Selection). IsSourceFeed given W names site.width l.source) (λ l x. source_feed site.width l.source x.1) site.selections h.0,
      each_weaker (λ (l : Selection). (l.last < 2 ^ 12) × IsSource program site.width l.source) (λ (l : Selection). l.last < 2 ^ 12) (λ l x. x.0) site.selections h.0,
      source_feed site.width site.otherwise h.1,
    )
    inlet_feeds first q Taps site h = (
      each_weaker (λ (l : Selection). (l.last < 2 ^ 12) × IsSource program site.width l.source) (λ (l : Selection). IsSourceFeed given W names site.width l.source) (λ l x. source_feed site.width l.source x.1) site.selections h.0,
      each_weaker (λ (l : Selection). (l.last < 2 ^ 12) × IsSource program site.width l.source) (λ (l : Selection). l.last < 2 ^ 12) (λ l x. x.0) site.selections h.0,
      source_feed site.width site.otherwise h.1,
    )
    inlet_feeds first q (Pipe n) site h = tt

    mode_feeds : (first q w : ℕ) (m : Mode) → IsModeOf program first q w m → ModeFeeds given W names m
    mode_feeds first q w m h = record {
      sites = each_weaker (IsSite program first q) (SiteFeeds given W names) (λ site x. inlet_feeds first q site.inlet site x) m.work.sites h.sites;
      windows = h.windows;
    }

    no_feeds : ModeFeeds given W names no_mode
    no_feeds = record { sites = tt; windows = tt }

    lane_feeds : (first p q : ℕ) (lane : Lane) → IsLaneOf program first p q lane → ModesFeed given W names lane.modes
    lane_feeds first p q lane h k = at_mode (ModeFeeds given W names) no_feeds lane.modes (each_weaker (IsModeOf program first q lane.width.bits) (ModeFeeds given W names) (mode_feeds first q lane.width.bits) lane.modes h.modes) k

    pub placed_feed : (p : ℕ) (own : CellLanes) (k : ℕ) → (h : IsPlacedCell p own k) → Feed given W names (cell_operands names (counter_name counter) h.shape (lanes_of program own)) (kind_inputs h.shape)
    placed_feed p own k h =
        cell_feed given W names (counter_name counter) h.shape (lanes_of program own) (λ counted. has.count (some_counts shapes k h.shape h.is_shape counted)) h.suits
        (each_by_place (λ (lane : Lane). ModesFeed given W names lane.modes) (lanes_of program own) (λ i lane there. lane_feeds own.first p (own.first + i) lane (lane_of_cell program is p own h.is_cell i lane there h.within.low).1))

    outputs_suit : (q k : ℕ) (ss : List LaneShape) (lanes : List Lane) → SuitLanes ss lanes → ((i : ℕ) (lane : Lane) → slice_get lanes i ≡ Some lane → (j : ℕ) → q + i ≡ j → W (names.value j) ≡ lane.width.bits)
        → SuitPorts W (map Name (outputs_from names q (length ss))) (lanes_outputs k ss)
    outputs_suit q k [] [] suit wide = tt
    outputs_suit q k (s ∷ ss) (l ∷ lanes) suit wide =
        (wide 0 l refl q (omega arith) ∙ ap (λ (w : Width). w.bits) suit.0.width, outputs_suit (q + 1) (k + 1) ss lanes suit.1 (λ i lane there j at. wide (suc i) lane there j (omega (arith, at))))
    outputs_suit q k [] (l ∷ lanes) suit wide = absurd suit
    outputs_suit q k (s ∷ ss) [] suit wide = absurd suit

    pub placed_suits : (p : ℕ) (own : CellLanes) (k : ℕ) → (h : IsPlacedCell p own k) → IsPlaced kinds W (instance_by names (counter_name counter) p k own.first h.shape (lanes_of program own))
    placed_suits p own k h =
        let below = below_length shapes k h.shape h.is_shape in
        let e = kind_is k h.shape h.is_shape in
        record {
          kind = omega (arith, below, kinds_many 0 shapes);
          inputs = subst (λ (x : CellKind). SuitPorts W (cell_operands names (counter_name counter) h.shape (lanes_of program own)) x.inputs) (sym e)
              (feed_suits given W names (cell_operands names (counter_name counter) h.shape (lanes_of program own)) (kind_inputs h.shape) (placed_feed p own k h));
          outputs = subst (λ (x : CellKind). SuitPorts W (map Name (outputs_from names own.first (length h.shape))) x.outputs) (sym e)
              (outputs_suit own.first 0 h.shape (lanes_of program own) h.suits (λ i lane there j at.
              let t = lane_of_cell program is p own h.is_cell i lane there h.within.low in
              has.value j lane (subst (λ n. slice_get program.lanes n ≡ Some lane) at t.0)));
        }

    pub instances_placed : AllByRecursion (IsPlaced kinds W) (instances_by counter program shapes 0 program.cells program.kinds)
    instances_placed = each_instance (IsPlaced kinds W) placed_suits 0 program.cells program.kinds cells_placed

    pub instances_known : AllByRecursion (λ (i : Instance). AllByRecursion (IsAmong given) i.inputs) (instances_by counter program shapes 0 program.cells program.kinds)
    instances_known = each_instance (λ (i : Instance). AllByRecursion (IsAmong given) i.inputs)
        (λ p own k h. feed_known given W names (cell_operands names (counter_name counter) h.shape (lanes_of program own)) (kind_inputs h.shape) (placed_feed p own k h)) 0 program.cells program.kinds cells_placed

    pub instances_fit : AllByRecursion (λ (i : Instance). AllByRecursion IsFitting i.inputs) (instances_by counter program shapes 0 program.cells program.kinds)
    instances_fit = each_instance (λ (i : Instance). AllByRecursion IsFitting i.inputs)
        (λ p own k h. feed_fits given W names (cell_operands names (counter_name counter) h.shape (lanes_of program own)) (kind_inputs h.shape) (placed_feed p own k h)) 0 program.cells program.kinds cells_placed

    pub are_in_order : AreInOrder given (instances_by counter program shapes 0 program.cells program.kinds)
    are_in_order = instances_in_order given given (λ x at. at) (instances_by counter program shapes 0 program.cells program.kinds) instances_known
