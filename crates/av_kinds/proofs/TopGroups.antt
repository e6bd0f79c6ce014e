-- The names of a top module and of its instances, in groups by their first letters.
use Rattle.std.proofs.Common.{◌≡◌, ℕ, zero, suc, ◌+◌, ◌-◌, ◌^◌, ◌≤◌, List, [], ◌∷◌, ◌++◌, map, length, get_or, refl, sym, subst, ap, ◌∙◌, arith, append_assoc, Bool, true, false, if◌then◌else◌, Some}
use Rattle.std.specs.Prelude.{slice_get, decimal}
use Rattle.std.specs.List.{AllByRecursion, range_with_len}
use Rattle.std.proofs.lemmas.List.{append-nil}
use Rattle.av_net.specs.Names.{AreDistinct, clk, rst, names_of}
use Rattle.av_net.specs.Plans.{linked_names}
use Rattle.av_kinds.specs.declared.counter.Counter.{Counter}
use Rattle.av_kinds.specs.declared.counter.Counter.TheVariants.{Cycles, Phases}
use Rattle.av_kinds.specs.declared.program.CellLanes.{CellLanes}
use Rattle.av_kinds.specs.Programs.{Lane, Program, AreInTurn, IsLaneOf, IsProgram}
use Rattle.av_kinds.specs.Names.{Labels, labels}
use Rattle.av_kinds.specs.Counters.{counter_name, next_name, last_name, sum_name}
use Rattle.av_kinds.specs.inner.Counts.{counter_wires}
use Rattle.av_kinds.specs.inner.Shapes.{LaneShape}
use Rattle.av_kinds.specs.inner.Instances.{outputs_from}
use Rattle.av_kinds.specs.inner.Modules.{instances_by}
use Rattle.av_kinds.proofs.NameParts.{sort, IsGroup, joined_distinct, one_distinct}
use Rattle.av_kinds.proofs.PortNames.{letter_distinct}
use Rattle.av_kinds.proofs.TopNames.{of_lanes, wires_of, times_more, one_number, group, AreSmall, apart_by}
use Rattle.av_kinds.proofs.RunShown.{cell_of}
use Rattle.av_kinds.proofs.ShapeSuits.{below_length}

-- ---- numbers of a program

pub lane_at : (program : Program) → IsProgram program → (q : ℕ) (lane : Lane) → slice_get program.lanes q ≡ Some lane → (p : ℕ) × (own : CellLanes) × (slice_get program.cells p ≡ Some own) × (own.first ≤ q) × (q ≤ own.value) × IsLaneOf program own.first p q lane
lane_at program is q lane there =
    let h = cell_of 0 program.cells (length program.lanes) is.in_turn q (omega arith) (below_length program.lanes q lane there) in
    (h.cell, h.own, h.is_cell, h.low, h.high, is.lanes h.cell q h.own lane h.is_cell h.low h.high there)

pub small_program : (program : Program) → IsProgram program → AreSmall program
small_program program is = record {
  lanes = λ q lane there.
      let h = lane_at program is q lane there in
      let few = below_length program.cells h.0 h.1 h.2 in
      let line = times_more program.stride lane.length (2 ^ 32) (omega (arith, h.5.short)) in
      record {
        home = omega (arith, h.5.home, few, is.cells_few);
        rank = h.5.rank;
        first = omega (arith, h.5.rank, is.ranks_few);
        registers = omega (arith, h.5.rank, is.ranks_few, line);
      };
  apart = is.apart;
}

-- ---- the names of wires are those that instances drive

pub values_are : (names : Labels) (q : ℕ) (lanes : List Lane) → of_lanes (wires_of names) q lanes ≡ map names.value (range_with_len q (length lanes))
values_are names q [] = refl
values_are names q (lane ∷ lanes) = ap (λ (ys : List (List ℕ)). names.value q ∷ ys) (values_are names (q + 1) lanes)

pub outputs_are : (names : Labels) (q n : ℕ) → outputs_from names q n ≡ map names.value (range_with_len q n)
outputs_are names q zero = refl
outputs_are names q (suc n) = ap (λ (ys : List (List ℕ)). names.value q ∷ ys) (outputs_are names (q + 1) n)

two_ranges : (f : ℕ → List ℕ) (q m n : ℕ) → map f (range_with_len q m) ++ map f (range_with_len (q + m) n) ≡ map f (range_with_len q (m + n))
two_ranges f q zero n =
    let e : q + 0 ≡ q = omega arith in
    let d : n ≡ 0 + n = omega arith in
    ap (λ i. map f (range_with_len i n)) e ∙ ap (λ i. map f (range_with_len q i)) d
two_ranges f q (suc m) n =
    let e : q + suc m ≡ q + 1 + m = omega arith in
    let d : suc (m + n) ≡ suc m + n = omega arith in
    ap (λ (ys : List (List ℕ)). f q ∷ ys) (ap (λ i. map f (range_with_len (q + 1) m) ++ map f (range_with_len i n)) e ∙ two_ranges f (q + 1) m n) ∙ ap (λ i. map f (range_with_len q i)) d

-- the kinds of cells have room for their lanes
abbrev pub HaveRoom : Program → List (List LaneShape) → List CellLanes → List ℕ → Type 0
HaveRoom program shapes [] kinds = Unit {0}
HaveRoom program shapes (own ∷ cells) [] = ⊥
HaveRoom program shapes (own ∷ cells) (k ∷ kinds) = (length (get_or shapes k []) ≡ suc (own.value - own.first)) × HaveRoom program shapes cells kinds

pub linked_are : (counter : Counter) (program : Program) (shapes : List (List LaneShape)) (p q : ℕ) (cells : List CellLanes) (kinds : List ℕ) (count n : ℕ) → AreInTurn q cells count → HaveRoom program shapes cells kinds → q + n ≡ count
    → linked_names (instances_by counter program shapes p cells kinds) ≡ map (labels program).value (range_with_len q n)
linked_are counter program shapes p q [] kinds count n turn room at =
    let e : n ≡ 0 = omega (arith, turn, at) in
    sym (ap (λ i. map (labels program).value (range_with_len q i)) e)
linked_are counter program shapes p q (own ∷ cells) [] count n turn room at = absurd room
linked_are counter program shapes p q (own ∷ cells) (k ∷ kinds) count n turn room at =
    let N = labels program in
    let m = suc (own.value - own.first) in
    let next = in_turn_most (suc own.value) cells count turn.2 in
    let rest = count - suc own.value in
    let first : own.first ≡ q = turn.0 in
    let after : q + m ≡ suc own.value = omega (arith, turn.0, turn.1) in
    let total : m + rest ≡ n = omega (arith, turn.0, turn.1, at, next) in
    let own_names : outputs_from N own.first (length (get_or shapes k [])) ≡ map N.value (range_with_len q m) =
    ap (λ i. outputs_from N own.first i) room.0 ∙ outputs_are N own.first m ∙ ap (λ i. map N.value (range_with_len i m)) first in
    let later : linked_names (instances_by counter program shapes (p + 1) cells kinds) ≡ map N.value (range_with_len (q + m) rest) =
    linked_are counter program shapes (p + 1) (suc own.value) cells kinds count rest turn.2 room.1 (omega (arith, next)) ∙ ap (λ i. map N.value (range_with_len i rest)) (sym after) in
    ap (λ (ys : List (List ℕ)). ys ++ linked_names (instances_by counter program shapes (p + 1) cells kinds)) own_names ∙ ap (λ (ys : List (List ℕ)). map N.value (range_with_len q m) ++ ys) later
    ∙ two_ranges N.value q m rest ∙ ap (λ i. map N.value (range_with_len q i)) total
  where
    in_turn_most : (q : ℕ) (cells : List CellLanes) (count : ℕ) → AreInTurn q cells count → q ≤ count
    in_turn_most q [] count turn = omega (arith, turn)
    in_turn_most q (o ∷ cells) count turn = let h = in_turn_most (suc o.value) cells count turn.2 in omega (arith, turn.0, turn.1, h)

-- ---- the groups of names

pub number_group : (a n : ℕ) → n ≤ 10 ^ 64 → IsGroup (group a (map (λ k. a ∷ decimal k) (range_with_len 0 n)))
number_group a n few = record { distinct = letter_distinct a 0 n (omega (arith, few)); sorts = own 0 n (omega (arith, few)) }
  where
    own : (p n : ℕ) → p + n ≤ 10 ^ 64 → AllByRecursion (λ x. sort x ≡ a) (map (λ k. a ∷ decimal k) (range_with_len p n))
    own p zero few = tt
    own p (suc n) few = (one_number a p (omega (arith, few)), own (p + 1) n (omega (arith, few)))

-- the counter's register, and its wires
abbrev pub counter_register : Counter → Bool → List (List ℕ)
counter_register counter counted = if counted then counter_name counter ∷ [] else []

abbrev pub counter_wire_names : Counter → Bool → List (List ℕ)
counter_wire_names counter counted = names_of (if counted then counter_wires counter else [])

-- without a counter, with that of cycles, and with that of phases
module _ (i r o v u : List (List ℕ)) (gi : IsGroup (group 105 i)) (gr : IsGroup (group 114 r)) (go : IsGroup (group 111 o)) (gv : IsGroup (group 99 v)) (gu : IsGroup (group 117 u)) where
  one_group : (k : ℕ) (x : List ℕ) → sort x ≡ k → IsGroup (group k (x ∷ []))
  one_group k x e = record { distinct = one_distinct x; sorts = (e, tt) }

  declared_shape : (c n : List (List ℕ)) → i ++ (r ++ (c ++ (o ++ (v ++ (n ++ (u ++ [])))))) ≡ ((i ++ (r ++ c)) ++ (o ++ (v ++ n))) ++ u
  declared_shape c n = simp (append_assoc, append-nil {A = List ℕ})

  declared_without : AreDistinct (clk ∷ rst ∷ (((i ++ (r ++ [])) ++ (o ++ (v ++ []))) ++ u))
  declared_without =
      let groups = group 1314 (clk ∷ []) ∷ group 1345 (rst ∷ []) ∷ group 105 i ∷ group 114 r ∷ group 111 o ∷ group 99 v ∷ group 117 u ∷ [] in
      subst (λ (ys : List (List ℕ)). AreDistinct (clk ∷ rst ∷ ys)) (declared_shape [] [])
      (joined_distinct groups (apart_by groups refl) (one_group 1314 clk refl, (one_group 1345 rst refl, (gi, (gr, (go, (gv, (gu, tt))))))))

  declared_cycles : AreDistinct (clk ∷ rst ∷ (((i ++ (r ++ counter_name Cycles ∷ [])) ++ (o ++ (v ++ next_name Cycles ∷ []))) ++ u))
  declared_cycles =
      let groups = group 1314 (clk ∷ []) ∷ group 1345 (rst ∷ []) ∷ group 105 i ∷ group 114 r ∷ group 1319 (counter_name Cycles ∷ []) ∷ group 111 o ∷ group 99 v ∷ group 1861 (next_name Cycles ∷ []) ∷ group 117 u ∷ [] in
      subst (λ (ys : List (List ℕ)). AreDistinct (clk ∷ rst ∷ ys)) (declared_shape (counter_name Cycles ∷ []) (next_name Cycles ∷ []))
      (joined_distinct groups (apart_by groups refl) (one_group 1314 clk refl, (one_group 1345 rst refl, (gi, (gr, (one_group 1319 (counter_name Cycles) refl, (go, (gv, (one_group 1861 (next_name Cycles) refl, (gu, tt))))))))))

  declared_phases : (period : ℕ) → AreDistinct (clk ∷ rst ∷ (((i ++ (r ++ counter_name (Phases period) ∷ [])) ++ (o ++ (v ++ last_name ∷ sum_name ∷ next_name (Phases period) ∷ []))) ++ u))
  declared_phases period =
      let groups = group 1314 (clk ∷ []) ∷ group 1345 (rst ∷ []) ∷ group 105 i ∷ group 114 r ∷ group 1529 (counter_name (Phases period) ∷ []) ∷ group 111 o ∷ group 99 v ∷ group 2060 (last_name ∷ []) ∷ group 1965 (sum_name ∷ []) ∷ group 2071 (next_name (Phases period) ∷ []) ∷ group 117 u ∷ [] in
      subst (λ (ys : List (List ℕ)). AreDistinct (clk ∷ rst ∷ ys)) (declared_shape (counter_name (Phases period) ∷ []) (last_name ∷ sum_name ∷ next_name (Phases period) ∷ []))
      (joined_distinct groups (apart_by groups refl)
      (one_group 1314 clk refl, (one_group 1345 rst refl, (gi, (gr, (one_group 1529 (counter_name (Phases period)) refl, (go, (gv, (one_group 2060 last_name refl, (one_group 1965 sum_name refl, (one_group 2071 (next_name (Phases period)) refl, (gu, tt))))))))))))

  pub declared_names : (counter : Counter) (counted : Bool) → AreDistinct (clk ∷ rst ∷ (((i ++ (r ++ counter_register counter counted)) ++ (o ++ (v ++ counter_wire_names counter counted))) ++ u))
  declared_names counter false = declared_without
  declared_names Cycles true = declared_cycles
  declared_names (Phases period) true = declared_phases period

  driven_shape : (n c : List (List ℕ)) → v ++ (o ++ (n ++ (r ++ (c ++ [])))) ≡ (v ++ (o ++ n)) ++ (r ++ c)
  driven_shape n c = simp (append_assoc, append-nil {A = List ℕ})

  driven_without : AreDistinct ((v ++ (o ++ [])) ++ (r ++ []))
  driven_without =
      let groups = group 99 v ∷ group 111 o ∷ group 114 r ∷ [] in
      subst AreDistinct (driven_shape [] []) (joined_distinct groups (apart_by groups refl) (gv, (go, (gr, tt))))

  driven_cycles : AreDistinct ((v ++ (o ++ next_name Cycles ∷ [])) ++ (r ++ counter_name Cycles ∷ []))
  driven_cycles =
      let groups = group 99 v ∷ group 111 o ∷ group 1861 (next_name Cycles ∷ []) ∷ group 114 r ∷ group 1319 (counter_name Cycles ∷ []) ∷ [] in
      subst AreDistinct (driven_shape (next_name Cycles ∷ []) (counter_name Cycles ∷ []))
      (joined_distinct groups (apart_by groups refl) (gv, (go, (one_group 1861 (next_name Cycles) refl, (gr, (one_group 1319 (counter_name Cycles) refl, tt))))))

  driven_phases : (period : ℕ) → AreDistinct ((v ++ (o ++ last_name ∷ sum_name ∷ next_name (Phases period) ∷ [])) ++ (r ++ counter_name (Phases period) ∷ []))
  driven_phases period =
      let groups = group 99 v ∷ group 111 o ∷ group 2060 (last_name ∷ []) ∷ group 1965 (sum_name ∷ []) ∷ group 2071 (next_name (Phases period) ∷ []) ∷ group 114 r ∷ group 1529 (counter_name (Phases period) ∷ []) ∷ [] in
      subst AreDistinct (driven_shape (last_name ∷ sum_name ∷ next_name (Phases period) ∷ []) (counter_name (Phases period) ∷ []))
      (joined_distinct groups (apart_by groups refl)
      (gv, (go, (one_group 2060 last_name refl, (one_group 1965 sum_name refl, (one_group 2071 (next_name (Phases period)) refl, (gr, (one_group 1529 (counter_name (Phases period)) refl, tt))))))))

  pub driven_names : (counter : Counter) (counted : Bool) → AreDistinct ((v ++ (o ++ counter_wire_names counter counted)) ++ (r ++ counter_register counter counted))
  driven_names counter false = driven_without
  driven_names Cycles true = driven_cycles
  driven_names (Phases period) true = driven_phases period
