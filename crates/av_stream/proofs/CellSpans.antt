-- The first and the last computation of a cell, by the points that stand on it.
use Rattle.std.proofs.Common.{◌≡◌, ℕ, zero, suc, ◌+◌, ◌-◌, ◌*◌, ◌<◌, ◌≤◌, ◌^◌, ℤ, pos, ◌+ℤ◌, Bool, false, List, [], ◌∷◌, length, map, get_or, Option, Some, refl, sym, ap, subst, ◌∙◌, arith, inl, inr, true≢false}
use Rattle.std.specs.Prelude.{unsigned_abs, slice_get, IsTrue, ◌↔◌}
use Rattle.std.proofs.lemmas.Int.{ints}
use Rattle.std.proofs.lemmas.List.{length-map}
use Rattle.std.proofs.lemmas.Option.{slice_get_within}
use Rattle.std.proofs.lemmas.List.Elements.{All-cons, All-nil, All-weaker}
use Rattle.std.proofs.lemmas.Bool.{cases_lt}
use Rattle.av_base.proofs.Lists.{all_at, some_is, there_is}
use Rattle.av_affine.specs.declared.completion.Placed.{Placed}
use Rattle.av_affine.specs.Numbers.{dot, AtMost}
use Rattle.av_affine.proofs.Dots.{dot_most}
use Rattle.av_tree.specs.Points.{Point}
use Rattle.av_flat.specs.declared.timed.Time.{Time}
use Rattle.av_flat.specs.declared.timed.Timed.{Timed}
use Rattle.av_flat.specs.Trees.{Variable, FlatSystem, view_system}
use Rattle.av_flat.specs.Points.{has}
use Rattle.av_flat.specs.Nodes.{nodes, IsComputation}
use Rattle.av_flat.specs.Schedules.{cycle}
use Rattle.av_flat.specs.Legal.{IsLegal}
use Rattle.av_space.specs.declared.cells.Cell.{Cell}
use Rattle.av_space.specs.Coordinates.{Placing, IsPlacing, ArePlacings, along}
use Rattle.av_space.specs.Occupancy.{Occupies}
use Rattle.av_space.specs.Quantities.{IsCycleCount}
use Rattle.av_space.proofs.ByPlace.{read_at}
use Rattle.av_flat.proofs.NodeNumbers.{chained_node}
use Rattle.av_space.proofs.Nodes.{IsTimeOf, time_at, IsSmallPoint, small_of, computed_has, computed_within}
use Rattle.av_space.proofs.OnePlacing.{one_placings}
use Rattle.av_space.proofs.Rows.{small_rows, small_along}
use Rattle.av_stream.specs.inner.Standing.{IsMatrixFor, placing_by, Stands, IsUsedIn, HasSpan}
use Rattle.av_stream.proofs.StandingPoints.{is_placing}

-- ---- placings

-- a placing is told by its time
one_placing : (p q : Placing) → p.time ≡ q.time → IsPlacing p → IsPlacing q → p ≡ q
one_placing p q e h k = some_is p q (ap (λ (ps : List Placing). slice_get ps 0) (one_placings (q.time ∷ []) (p ∷ []) (q ∷ []) (alone p q.time e h) (alone q q.time refl k)))
  where
    alone : (r : Placing) (time : Time) → r.time ≡ time → IsPlacing r → ArePlacings (time ∷ []) (r ∷ [])
    alone r time f i = record { times_are = ap (λ (t : Time). t ∷ []) f; each = All-cons IsPlacing r [] i (All-nil IsPlacing) }

time_of : (placings : List Placing) (n : ℕ) (p : Placing) → slice_get placings n ≡ Some p → slice_get (map (λ (q : Placing). q.time) placings) n ≡ Some p.time
time_of [] n p e = absurd cc
time_of (q ∷ placings) zero p e = ap (λ (r : Placing). Some r.time) (some_is q p e)
time_of (q ∷ placings) (suc n) p e = time_of placings n p e

-- so that of a node is the one of its time and matrix
pub placing_is : (times : List Time) (placings : List Placing) → ArePlacings times placings → (n : ℕ) (p : Placing) (time : Time) → slice_get placings n ≡ Some p → slice_get times n ≡ Some time
    → (matrix : Option Placed) → IsMatrixFor time matrix → p ≡ placing_by time matrix
placing_is times placings are n p time is at matrix h =
    let same : p.time ≡ time = some_is p.time time (sym (time_of placings n p is) ∙ ap (λ (ts : List Time). slice_get ts n) are.times_are ∙ at) in
    one_placing p (placing_by time matrix) same (all_at IsPlacing placings n p are.each is) (is_placing time matrix h)

-- ---- a cell

-- what is known of a cell, the variable of its node, and the time and matrix of that
pub record IsOfCell (t : Timed) (cycles : ℕ) (cell : Cell) (v : Variable) (time : Time) (matrix : Option Placed) : Type 0 where
  pub legal : IsLegal t
  pub used : IsUsedIn t cell
  pub count : IsCycleCount (view_system t.flat) t.times cycles
  pub few : cycles ≤ 4096
  pub is_variable : slice_get (nodes (view_system t.flat)) cell.node ≡ Some v
  pub is_time : slice_get t.times cell.node ≡ Some time
  pub is_matrix : IsMatrixFor time matrix

-- its node is one of the nodes
pub node_within : (t : Timed) (cell : Cell) → IsUsedIn t cell → cell.node < length (nodes (view_system t.flat))
node_within t cell used =
    let u = used.used in
    let within = computed_within (view_system t.flat) u.1 u.2 u.3.computation in
    omega (arith, within, u.3.node)

pub time_within : (t : Timed) (cell : Cell) (xs : List Time) → IsLegal t → IsUsedIn t cell → xs ≡ t.times → cell.node < length xs
time_within t cell xs legal used same = omega (arith, node_within t cell used, legal.schedule.one_each, ap length same)

-- the time of its node, as it is read from the times
pub time_read : (t : Timed) (cell : Cell) (xs : List Time) (time : Time) → IsLegal t → IsUsedIn t cell → xs ≡ t.times → time ≡ get_or xs cell.node time → slice_get t.times cell.node ≡ Some time
time_read t cell xs time legal used same is = read_at t.times xs cell.node time same (time_within t cell xs legal used same) is

pub time_of_node : (t : Timed) (cell : Cell) (xs : List Time) (time : Time) → IsLegal t → IsUsedIn t cell → xs ≡ t.times → time ≡ get_or xs cell.node time → IsTimeOf t cell.node time
time_of_node t cell xs time legal used same is = time_at t cell.node time legal (time_read t cell xs time legal used same is)

pub of_cell : (t : Timed) (cycles : ℕ) (cell : Cell) (v : Variable) (xs : List Time) (time : Time) (matrix : Option Placed) → IsLegal t → IsUsedIn t cell → IsCycleCount (view_system t.flat) t.times cycles → cycles ≤ 4096
    → slice_get (nodes (view_system t.flat)) cell.node ≡ Some v → xs ≡ t.times → time ≡ get_or xs cell.node time → IsMatrixFor time matrix → IsOfCell t cycles cell v time matrix
of_cell t cycles cell v xs time matrix legal used count few is_variable same is is_matrix = record {
  legal = legal;
  used = used;
  count = count;
  few = few;
  is_variable = is_variable;
  is_time = time_read t cell xs time legal used same is;
  is_matrix = is_matrix;
}

module _ (t : Timed) (cycles : ℕ) (cell : Cell) (v : Variable) (time : Time) (matrix : Option Placed) (of : IsOfCell t cycles cell v time matrix) where
  abbrev own : FlatSystem
  own = view_system t.flat

  abbrev placing : Placing
  placing = placing_by time matrix

  of_time : IsTimeOf t cell.node time
  of_time = time_at t cell.node time of.legal of.is_time

  of_point : (z : Point) → IsTrue (has v.domain z) → IsSmallPoint v z
  of_point z h = small_of own v z (chained_node own cell.node v of.legal.chained of.is_variable) h

  -- the entries of a point of the variable
  pub small_entries : (z : Point) → IsTrue (has v.domain z) → AtMost 4095 z
  small_entries z h = (of_point z h).small

  pub indices : length time.linear ≡ v.domain.dim
  indices = (of.legal.schedule.linear cell.node v time of.is_variable of.is_time).size

  -- the placing of the cell's node, among those of all nodes
  there : (placings : List Placing) → ArePlacings t.times placings → slice_get placings cell.node ≡ Some placing
  there placings are =
      let within : cell.node < length placings = omega (arith, slice_get_within t.times cell.node time of.is_time, ap length are.times_are, length-map placings (λ (p : Placing). p.time)) in
      let p = there_is placings cell.node within in
      p.1 ∙ ap (λ (q : Placing). Some q) (placing_is t.times placings are cell.node p.0 time p.1 of.is_time matrix of.is_matrix)

  -- a computation on the cell is a point that stands there
  pub stands : (placings : List Placing) → ArePlacings t.times placings → (c n : ℕ) (z : Point) → Occupies own placings cell c n z → Stands v placing cell.at c
  stands placings are c n z h =
      let node : n ≡ cell.node = sym h.node in
      let p : h.placing ≡ placing = some_is h.placing placing (sym h.is_placing ∙ ap (slice_get placings) node ∙ there placings are) in
      let here = computed_has own cell.node v z of.is_variable (subst (λ k. IsComputation own k z) node h.computation) in (
        z,
        here,
        record {
          size = (of_point z here).size ∙ sym indices;
          coordinates = h.at ∙ ap (λ (q : Placing). along q.rows z) p;
          in_cycle = h.in_cycle ∙ ap (λ (q : Placing). cycle q.time z) p;
        },
      )

  -- and such a point is a computation on the cell
  pub occupies : (placings : List Placing) → ArePlacings t.times placings → (c : ℕ) → (h : Stands v placing cell.at c) → Occupies own placings cell c cell.node h.0
  occupies placings are c h = record {
    computation = record { variable = v; is = of.is_variable; declared = h.1 };
    placing = placing;
    is_placing = there placings are;
    node = refl;
    at = h.2.coordinates;
    in_cycle = h.2.in_cycle;
  }

  -- a cycle in which some point stands there
  pub known : (c : ℕ) × Stands v placing cell.at c
  known = let u = of.used.used in (u.0, stands of.used.placings of.used.are_placings u.0 u.1 u.2 u.3)

  pub timely : (c : ℕ) → Stands v placing cell.at c → c < cycles
  timely c h =
      let below = of.count.above cell.node h.0 time (record { variable = v; is = of.is_variable; declared = h.1 }) of.is_time in
      omega (arith, ints, below, h.2.in_cycle)

  pub size : length cell.at ≡ length placing.rows
  size = ap length known.1.2.coordinates ∙ length-map placing.rows (λ (row : List ℤ). dot row known.1.0)

  pub small : AtMost (2 ^ 17) cell.at
  small =
      let z = known.1.0 in
      let rows = small_rows placing (is_placing time matrix of.is_matrix) of_time.few in
      let most = small_along placing.rows z rows (omega (arith, known.1.2.size, of_time.few)) (small_entries z known.1.1) in
      subst (AtMost (2 ^ 17)) (sym known.1.2.coordinates) (All-weaker (λ (x : ℤ). unsigned_abs x ≤ 16380) (λ (x : ℤ). unsigned_abs x ≤ 2 ^ 17) (λ x le. omega (arith, le)) (along placing.rows z) most)

  pub near : unsigned_abs time.offset ≤ 2 ^ 17
  near =
      let z = known.1.0 in
      let most : unsigned_abs (dot time.linear z) ≤ 4 * 4095 * length z = dot_most time.linear z 4 4095 of_time.small (small_entries z known.1.1) in
      let few : length z ≤ 4 = omega (arith, known.1.2.size, of_time.few) in
      let late = timely known.0 known.1 in
      let in_cycle : pos known.0 ≡ dot time.linear z +ℤ time.offset = known.1.2.in_cycle in
      omega (arith, ints, most, few, late, of.few, in_cycle)

  -- ---- from both ends

  pub not_past : (first : ℕ) → ((c : ℕ) → c < first → Stands v placing cell.at c → ⊥) → first < cycles
  not_past first none = elim (cases_lt known.0 first) [
    | inl less ↦ absurd (none known.0 less known.1)
    | inr ge ↦ (let late = timely known.0 known.1 in omega (arith, ge, late))
  ]

  pub later_none : (first : ℕ) (stood : Bool) → (IsTrue stood ↔ Stands v placing cell.at first) → stood ≡ false → ((c : ℕ) → c < first → Stands v placing cell.at c → ⊥) → (c : ℕ) → c < first + 1 → Stands v placing cell.at c → ⊥
  later_none first stood iff fails none c lt h = elim (cases_lt c first) [
    | inl less ↦ none c less h
    | inr ge ↦ true≢false (sym (iff.1 (subst (Stands v placing cell.at) (omega (arith, lt, ge)) h)) ∙ fails)
  ]

  pub earlier_none : (last : ℕ) (stood : Bool) → (IsTrue stood ↔ Stands v placing cell.at last) → stood ≡ false → ((c : ℕ) → last < c → Stands v placing cell.at c → ⊥) → (c : ℕ) → last - 1 < c → Stands v placing cell.at c → ⊥
  earlier_none last stood iff fails none c lt h = elim (cases_lt last c) [
    | inl less ↦ none c less h
    | inr ge ↦ elim (cases_lt c last) [
      | inl less ↦ absurd (omega (arith, lt, less))
      | inr le ↦ true≢false (sym (iff.1 (subst (Stands v placing cell.at) (omega (arith, le, ge)) h)) ∙ fails)
    ]
  ]

  -- a cycle behind which no point stands is not before the known one
  pub not_before : (last : ℕ) → ((c : ℕ) → last < c → Stands v placing cell.at c → ⊥) → known.0 ≤ last
  not_before last none = elim (cases_lt last known.0) [
    | inl less ↦ absurd (none known.0 less known.1)
    | inr ge ↦ ge
  ]

  pub not_first : (last : ℕ) (stood : Bool) → (IsTrue stood ↔ Stands v placing cell.at last) → stood ≡ false → ((c : ℕ) → last < c → Stands v placing cell.at c → ⊥) → 1 ≤ last
  not_first last stood iff fails none = elim (cases_lt known.0 last) [
    | inl less ↦ omega (arith, less)
    | inr ge ↦ absurd (let le = not_before last none in true≢false (sym (iff.1 (subst (Stands v placing cell.at) (omega (arith, le, ge)) known.1)) ∙ fails))
  ]

  -- a cycle in which a point stands is not before one before which none does
  pub in_order : (first last : ℕ) → ((c : ℕ) → c < first → Stands v placing cell.at c → ⊥) → Stands v placing cell.at last → first ≤ last
  in_order first last none h = elim (cases_lt last first) [ inl less ↦ absurd (none last less h) | inr ge ↦ ge ]

  pub span_is : (first last : ℕ) → Stands v placing cell.at first → Stands v placing cell.at last → ((c : ℕ) → c < first → Stands v placing cell.at c → ⊥) → ((c : ℕ) → last < c → Stands v placing cell.at c → ⊥)
      → (span : ℕ) → last + 1 ≡ first + span → HasSpan t cell span
  span_is first last begins ends before behind span many placings are = record {
    first = first;
    last = last;
    first_node = cell.node;
    last_node = cell.node;
    first_point = begins.0;
    last_point = ends.0;
    begins = occupies placings are first begins;
    ends = occupies placings are last ends;
    many = many;
    between = λ c n z h. (
      elim (cases_lt c first) [ inl less ↦ absurd (before c less (stands placings are c n z h)) | inr ge ↦ ge ],
      elim (cases_lt last c) [ inl less ↦ absurd (behind c less (stands placings are c n z h)) | inr ge ↦ ge ],
    );
  }
