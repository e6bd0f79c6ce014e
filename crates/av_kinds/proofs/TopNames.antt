-- In the top module of a program no name is declared or driven twice.
use Rattle.std.proofs.Common.{◌≡◌, ◌≢◌, ℕ, zero, suc, ◌+◌, ◌^◌, ◌*◌, ◌<◌, ◌≤◌, ◌⊎◌, Option, Some, List, [], ◌∷◌, ◌++◌, length, map, refl, sym, subst, arith, ◌∙◌, ap, Bool, true, false, if◌then◌else◌, inl, inr}
use Rattle.std.proofs.lemmas.List.FromFn.{get_or-map-range_with_len, length-map-range_with_len}
use Rattle.std.specs.Prelude.{slice_get, Contains, decimal, nat_eq, not, ◌&&◌}
use Rattle.std.specs.List.{AllByRecursion, range_with_len}
use native.Mathlib.Nat.{mul-suc, add_comm}
use Rattle.std.proofs.lemmas.List.{append-nil, map-append}
use Rattle.std.proofs.lemmas.List.Elements.{All-contains, All-from_recursion, Contains-append_cases}
use Rattle.av_base.specs.declared.width.Width.{Width}
use Rattle.av_base.proofs.Truths.{both}
use Rattle.av_base.proofs.Lists.{each_append}
use Rattle.av_net.specs.declared.netlist.Port.{Port}
use Rattle.av_net.specs.declared.netlist.Step.{Step}
use Rattle.av_net.specs.Names.{AreDistinct, names_of, registers_of}
use Rattle.av_net.proofs.Distinct.{append_distinct}
use Rattle.av_kinds.specs.Programs.{Lane, Program}
use Rattle.av_kinds.specs.Names.{Naming, Labels, value_name, wire_name, label_in, number_in, lane_value, lane_register, labels}
use Rattle.av_kinds.specs.Tops.{port, numbered_ports, lane_wires, lane_registers, line_step, lane_steps}
use Rattle.av_kinds.proofs.NameParts.{decimal_once, owner, after, owner_numbered, after_numbered, sort, sort_numbered, Group, IsGroup, AreApart, one_distinct, each_of_range, second_injective, nothing_distinct}

-- ---- the names of lanes, with numbers from q on

-- of each lane its names
abbrev pub of_lanes : {X : Type 0} → (ℕ → Lane → List X) → ℕ → List Lane → List X
of_lanes f q [] = []
of_lanes f q (lane ∷ lanes) = f q lane ++ of_lanes f (q + 1) lanes

mapped_range : {X Y : Type 0} (g : X → Y) (f : ℕ → X) (h : ℕ → Y) → ((k : ℕ) → g (f k) ≡ h k) → (a n : ℕ) → map g (map f (range_with_len a n)) ≡ map h (range_with_len a n)
mapped_range g f h e a zero = refl
mapped_range g f h e a (suc n) = rw (e a, mapped_range g f h e (a + 1) n) refl

abbrev pub wires_of : Labels → ℕ → Lane → List (List ℕ)
wires_of names q lane = names.value q ∷ []

abbrev pub registers_in : Labels → ℕ → Lane → List (List ℕ)
registers_in names q lane = map (names.register q) (range_with_len 0 lane.length)

pub wires_are : (names : Labels) (q : ℕ) (lanes : List Lane) → names_of (lane_wires names q lanes) ≡ of_lanes (wires_of names) q lanes
wires_are names q [] = refl
wires_are names q (lane ∷ lanes) = ap (λ (ys : List (List ℕ)). names.value q ∷ ys) (wires_are names (q + 1) lanes)

pub registers_are : (names : Labels) (q : ℕ) (lanes : List Lane) → names_of (lane_registers names q lanes) ≡ of_lanes (registers_in names) q lanes
registers_are names q [] = refl
registers_are names q (lane ∷ lanes) =
    map-append (λ (p : Port). p.name) (map (λ d. port lane.width (names.register q d)) (range_with_len 0 lane.length)) (lane_registers names (q + 1) lanes)
    ∙ rw (mapped_range (λ (p : Port). p.name) (λ d. port lane.width (names.register q d)) (names.register q) (λ k. refl) 0 lane.length, registers_are names (q + 1) lanes) refl

pub steps_are : (names : Labels) (q : ℕ) (lanes : List Lane) → registers_of (lane_steps names q lanes) ≡ of_lanes (registers_in names) q lanes
steps_are names q [] = refl
steps_are names q (lane ∷ lanes) =
    map-append (λ (t : Step). t.register) (map (line_step names q) (range_with_len 0 lane.length)) (lane_steps names (q + 1) lanes)
    ∙ rw (mapped_range (λ (t : Step). t.register) (line_step names q) (names.register q) (λ k. refl) 0 lane.length, steps_are names (q + 1) lanes) refl

-- ---- numbers of a lane

pub record IsSmallLane (stride : ℕ) (lane : Lane) : Type 0 where
  pub home : lane.home < 10 ^ 64
  pub rank : lane.rank < stride
  pub first : number_in stride lane 0 < 10 ^ 64
  pub registers : number_in stride lane lane.length ≤ 10 ^ 64

times_suc : (s a : ℕ) → s * suc a ≡ s + s * a
times_suc s a = mul-suc s a ∙ add_comm (s * a) s

times_zero : (s : ℕ) → s * 0 ≡ 0
times_zero s = omega arith

pub times_more : (s a b : ℕ) → a ≤ b → s * a ≤ s * b
times_more s zero b le = omega (arith, times_zero s)
times_more s (suc a) zero le = absurd (omega arith)
times_more s (suc a) (suc b) le = omega (arith, times_suc s a, times_suc s b, times_more s a b (omega arith))

same_rank : (s a b r t : ℕ) → r < s → t < s → r + s * a ≡ t + s * b → r ≡ t
same_rank s zero zero r t lr lt e = omega (arith, times_zero s)
same_rank s zero (suc b) r t lr lt e = absurd (omega (arith, times_zero s, times_suc s b))
same_rank s (suc a) zero r t lr lt e = absurd (omega (arith, times_zero s, times_suc s a))
same_rank s (suc a) (suc b) r t lr lt e = same_rank s a b r t lr lt (omega (arith, times_suc s a, times_suc s b))

same_place : (s a b : ℕ) → 0 < s → s * a ≡ s * b → a ≡ b
same_place s zero zero pos e = refl
same_place s zero (suc b) pos e = absurd (omega (arith, times_zero s, times_suc s b))
same_place s (suc a) zero pos e = absurd (omega (arith, times_zero s, times_suc s a))
same_place s (suc a) (suc b) pos e = ap suc (same_place s a b pos (omega (arith, times_suc s a, times_suc s b)))

-- ---- names of a lane

-- a name of its cell: the cell's own name for the rank 0, or a number that leaves the rank
record IsMarked (stride : ℕ) (lane : Lane) (x : List ℕ) : Type 0 where
  of_home : owner x ≡ decimal lane.home
  numbered : ((after x ≡ []) × (lane.rank ≡ 0)) ⊎ ((k : ℕ) × (number_in stride lane k < 10 ^ 64) × (after x ≡ 95 ∷ decimal (number_in stride lane k)))

abbrev Differ : Lane → Lane → Type 0
Differ a b = a.home ≡ b.home → a.rank ≡ b.rank → ⊥

tail_same : (xs ys : List ℕ) → ◌≡◌ {A = List ℕ} (95 ∷ xs) (95 ∷ ys) → xs ≡ ys
tail_same xs ys e = cc

marks_apart : (stride : ℕ) (a b : Lane) (x : List ℕ) → a.home < 10 ^ 64 → b.home < 10 ^ 64 → a.rank < stride → b.rank < stride → Differ a b → IsMarked stride a x → IsMarked stride b x → ⊥
marks_apart stride a b x ha hb ra rb differ ma mb =
    let home = decimal_once a.home b.home ha hb (sym ma.of_home ∙ mb.of_home) in
    elim ma.numbered [
      | inl p ↦ elim mb.numbered [
        | inl q ↦ differ home (p.1 ∙ sym q.1)
        | inr q ↦ some_none (decimal (number_in stride b q.0)) (sym p.0 ∙ q.2)
      ]
      | inr p ↦ elim mb.numbered [
        | inl q ↦ some_none (decimal (number_in stride a p.0)) (sym q.0 ∙ p.2)
        | inr q ↦ (let e = decimal_once (number_in stride a p.0) (number_in stride b q.0) p.1 q.1 (tail_same (decimal (number_in stride a p.0)) (decimal (number_in stride b q.0)) (sym p.2 ∙ q.2)) in
            differ home (same_rank stride p.0 q.0 a.rank b.rank ra rb e))
      ]
    ]
  where
    some_none : (xs : List ℕ) → ◌≡◌ {A = List ℕ} [] (95 ∷ xs) → ⊥
    some_none xs e = absurd cc

-- ---- all lanes

abbrev pub Each : (ℕ → Lane → Type 0) → ℕ → List Lane → Type 0
Each P n lanes = (k : ℕ) (lane : Lane) → slice_get lanes k ≡ Some lane → (q : ℕ) → n + k ≡ q → P q lane

pub later_each : (P : ℕ → Lane → Type 0) (n : ℕ) (lane : Lane) (lanes : List Lane) → Each P n (lane ∷ lanes) → Each P (n + 1) lanes
later_each P n lane lanes h k l is q e = h (suc k) l is q (omega arith)

-- what holds of a lane in a list of distinct names
record IsNamed (stride : ℕ) (g : ℕ → Lane → List (List ℕ)) (q : ℕ) (lane : Lane) : Type 0 where
  home : lane.home < 10 ^ 64
  rank : lane.rank < stride
  marked : AllByRecursion (IsMarked stride lane) (g q lane)
  distinct : AreDistinct (g q lane)

record IsOf (stride : ℕ) (lanes : List Lane) (x : List ℕ) : Type 0 where
  place : ℕ
  lane : Lane
  is : slice_get lanes place ≡ Some lane
  home : lane.home < 10 ^ 64
  rank : lane.rank < stride
  marked : IsMarked stride lane x

of_later : (stride : ℕ) (g : ℕ → Lane → List (List ℕ)) (n : ℕ) (lanes : List Lane) → Each (IsNamed stride g) n lanes → (x : List ℕ) → Contains (of_lanes g n lanes) x → IsOf stride lanes x
of_later stride g n [] each x at = absurd (omega (arith, at.1))
of_later stride g n (lane ∷ lanes) each x at =
    let own = each 0 lane refl n (omega arith) in
    elim (Contains-append_cases (g n lane) (of_lanes g (n + 1) lanes) x at) [
      | inl here ↦ record { place = 0; lane = lane; is = refl; home = own.home; rank = own.rank; marked = All-contains (IsMarked stride lane) (g n lane) x (All-from_recursion (IsMarked stride lane) (g n lane) own.marked) here }
      | inr there ↦ (let r = of_later stride g (n + 1) lanes (later_each (IsNamed stride g) n lane lanes each) x there in record { place = suc r.place; lane = r.lane; is = r.is; home = r.home; rank = r.rank; marked = r.marked })
    ]

abbrev ArePairwise : List Lane → Type 0
ArePairwise lanes = (p q : ℕ) (a b : Lane) → slice_get lanes p ≡ Some a → slice_get lanes q ≡ Some b → a.home ≡ b.home → a.rank ≡ b.rank → p ≡ q

lanes_distinct : (stride : ℕ) (g : ℕ → Lane → List (List ℕ)) (n : ℕ) (lanes : List Lane) → Each (IsNamed stride g) n lanes → ArePairwise lanes → AreDistinct (of_lanes g n lanes)
lanes_distinct stride g n [] each pairs = nothing_distinct
lanes_distinct stride g n (lane ∷ lanes) each pairs =
    let own = each 0 lane refl n (omega arith) in
    append_distinct (g n lane) (of_lanes g (n + 1) lanes) own.distinct
    (lanes_distinct stride g (n + 1) lanes (later_each (IsNamed stride g) n lane lanes each) (λ p q a b ia ib h r. let e = pairs (suc p) (suc q) a b ia ib h r in omega (arith, e)))
    (λ x here there.
    let o = of_later stride g (n + 1) lanes (later_each (IsNamed stride g) n lane lanes each) x there in
    let mine = All-contains (IsMarked stride lane) (g n lane) x (All-from_recursion (IsMarked stride lane) (g n lane) own.marked) here in
    marks_apart stride lane o.lane x own.home o.home own.rank o.rank (λ h r. let e = pairs 0 (suc o.place) lane o.lane refl o.is h r in absurd (omega (arith, e))) mine o.marked)

sorts_lanes : (k : ℕ) (g : ℕ → Lane → List (List ℕ)) (n : ℕ) (lanes : List Lane) → Each (λ q lane. AllByRecursion (λ x. sort x ≡ k) (g q lane)) n lanes → AllByRecursion (λ x. sort x ≡ k) (of_lanes g n lanes)
sorts_lanes k g n [] h = tt
sorts_lanes k g n (lane ∷ lanes) h = each_append (λ x. sort x ≡ k) (g n lane) (of_lanes g (n + 1) lanes) (h 0 lane refl n (omega arith)) (sorts_lanes k g (n + 1) lanes (later_each (λ q lane. AllByRecursion (λ x. sort x ≡ k) (g q lane)) n lane lanes h))

-- ---- one lane

range_apart : (f : ℕ → List ℕ) (n : ℕ) → ((i j : ℕ) → i < n → j < n → f i ≡ f j → i ≡ j) → AreDistinct (map f (range_with_len 0 n))
range_apart f n injective i j d lt lj same =
    let many : length (map f (range_with_len 0 n)) ≡ n = length-map-range_with_len f 0 n in
    let left = get_or-map-range_with_len f 0 n i i d (omega arith) (omega arith) in
    let right = get_or-map-range_with_len f 0 n j j d (omega arith) (omega arith) in
    let e = injective i j (omega arith) (omega arith) (sym left ∙ same ∙ right) in
    omega arith

pub one_number : (a p : ℕ) → p < 10 ^ 64 → sort (a ∷ decimal p) ≡ a
one_number a p small = subst (λ (xs : List ℕ). sort (a ∷ xs) ≡ a) (append-nil (decimal p)) (sort_numbered a p [] small)

pub one_owner : (a p : ℕ) → p < 10 ^ 64 → owner (a ∷ decimal p) ≡ decimal p
one_owner a p small = subst (λ (xs : List ℕ). owner (a ∷ xs) ≡ decimal p) (append-nil (decimal p)) (owner_numbered a p [] small refl)

pub one_after : (a p : ℕ) → p < 10 ^ 64 → after (a ∷ decimal p) ≡ []
one_after a p small = subst (λ (xs : List ℕ). after (a ∷ xs) ≡ []) (append-nil (decimal p)) (after_numbered a p [] small refl)

-- the name with a number of the lane
mark : (a : ℕ) (stride : ℕ) (lane : Lane) (k : ℕ) → lane.home < 10 ^ 64 → number_in stride lane k < 10 ^ 64 → IsMarked stride lane (a ∷ (decimal lane.home ++ (95 ∷ decimal (number_in stride lane k))))
mark a stride lane k home small = record {
  of_home = owner_numbered a lane.home (95 ∷ decimal (number_in stride lane k)) home refl;
  numbered = inr (k, small, after_numbered a lane.home (95 ∷ decimal (number_in stride lane k)) home refl);
}

-- the word of a lane
value_mark : (stride : ℕ) (lane : Lane) → lane.home < 10 ^ 64 → number_in stride lane 0 < 10 ^ 64 → IsMarked stride lane (lane_value stride lane)
value_mark stride lane home small = by_rank (nat_eq lane.rank 0) refl
  where
    by_rank : (b : Bool) → nat_eq lane.rank 0 ≡ b → IsMarked stride lane (if b then value_name lane.home else wire_name lane.home (number_in stride lane 0))
    by_rank true e = record { of_home = one_owner 99 lane.home home; numbered = inl (one_after 99 lane.home home, grind arith) }
    by_rank false e = mark 99 stride lane 0 home small

pub value_sort : (stride : ℕ) (lane : Lane) → lane.home < 10 ^ 64 → sort (lane_value stride lane) ≡ 99
value_sort stride lane home = by_rank (nat_eq lane.rank 0)
  where
    by_rank : (b : Bool) → sort (if b then value_name lane.home else wire_name lane.home (number_in stride lane 0)) ≡ 99
    by_rank true = one_number 99 lane.home home
    by_rank false = sort_numbered 99 lane.home (95 ∷ decimal (number_in stride lane 0)) home

abbrev pub own_registers : ℕ → Lane → List (List ℕ)
own_registers stride lane = map (λ k. lane_register stride k lane) (range_with_len 0 lane.length)

pub below_line : (stride : ℕ) (lane : Lane) → IsSmallLane stride lane → (k : ℕ) → k < lane.length → number_in stride lane k < 10 ^ 64
below_line stride lane h k lt = omega (arith, h.registers, h.rank, times_more stride (suc k) lane.length (omega arith), times_suc stride k)

registers_marked : (stride : ℕ) (lane : Lane) → IsSmallLane stride lane → AllByRecursion (IsMarked stride lane) (own_registers stride lane)
registers_marked stride lane h = each_of_range (IsMarked stride lane) (λ k. lane_register stride k lane) 0 lane.length (λ k low high. mark 114 stride lane k h.home (below_line stride lane h k (omega arith)))

registers_sorted : (stride : ℕ) (lane : Lane) → IsSmallLane stride lane → AllByRecursion (λ x. sort x ≡ 114) (own_registers stride lane)
registers_sorted stride lane h = each_of_range (λ x. sort x ≡ 114) (λ k. lane_register stride k lane) 0 lane.length (λ k low high. sort_numbered 114 lane.home (95 ∷ decimal (number_in stride lane k)) h.home)

registers_apart : (stride : ℕ) (lane : Lane) → IsSmallLane stride lane → AreDistinct (own_registers stride lane)
registers_apart stride lane h = range_apart (λ k. lane_register stride k lane) lane.length (λ i j li lj e.
    let number = second_injective 114 lane.home h.home (number_in stride lane i) (number_in stride lane j) (below_line stride lane h i li) (below_line stride lane h j lj) e in
    same_place stride i j (omega (arith, h.rank)) (omega (arith, number)))

-- ---- the groups of the lanes' names

abbrev pub group : ℕ → List (List ℕ) → Group
group k names = record { sort_is = k; names = names }

pub record AreSmall (program : Program) : Type 0 where
  pub lanes : (q : ℕ) (lane : Lane) → slice_get program.lanes q ≡ Some lane → IsSmallLane program.stride lane
  -- one lane to a cell and a rank
  pub apart : (p q : ℕ) (a b : Lane) → slice_get program.lanes p ≡ Some a → slice_get program.lanes q ≡ Some b → a.home ≡ b.home → a.rank ≡ b.rank → p ≡ q

pub moved : (program : Program) (k q : ℕ) (lane : Lane) → slice_get program.lanes k ≡ Some lane → 0 + k ≡ q → slice_get program.lanes q ≡ Some lane
moved program k q lane is e = let f : k ≡ q = omega arith in subst (λ j. slice_get program.lanes j ≡ Some lane) f is

pub same_value : (program : Program) (q : ℕ) (lane : Lane) → slice_get program.lanes q ≡ Some lane → (labels program).value q ≡ lane_value program.stride lane
same_value program q lane is = ap (label_in (lane_value program.stride)) is

pub same_registers : (program : Program) (q : ℕ) (lane : Lane) → slice_get program.lanes q ≡ Some lane → registers_in (labels program) q lane ≡ own_registers program.stride lane
same_registers program q lane is = ap (λ (o : Option Lane). map (λ k. label_in (lane_register program.stride k) o) (range_with_len 0 lane.length)) is

pub wire_group : (program : Program) → AreSmall program → IsGroup (group 99 (of_lanes (wires_of (labels program)) 0 program.lanes))
wire_group program small =
    let N = labels program in
    record {
      distinct = lanes_distinct program.stride (wires_of N) 0 program.lanes (λ k lane is q e.
          let there = moved program k q lane is e in
          let h = small.lanes q lane there in
          record {
            home = h.home;
            rank = h.rank;
            marked = (subst (IsMarked program.stride lane) (sym (same_value program q lane there)) (value_mark program.stride lane h.home h.first), tt);
            distinct = one_distinct (N.value q);
          }) small.apart;
      sorts = sorts_lanes 99 (wires_of N) 0 program.lanes (λ k lane is q e.
          let there = moved program k q lane is e in
          (ap sort (same_value program q lane there) ∙ value_sort program.stride lane (small.lanes q lane there).home, tt));
    }

pub register_group : (program : Program) → AreSmall program → IsGroup (group 114 (of_lanes (registers_in (labels program)) 0 program.lanes))
register_group program small =
    let N = labels program in
    let g : ℕ → Lane → List (List ℕ) = registers_in N in
    record {
      distinct = lanes_distinct program.stride g 0 program.lanes (λ k lane is q e.
          let there = moved program k q lane is e in
          let h = small.lanes q lane there in
          let same = sym (same_registers program q lane there) in
          record {
            home = h.home;
            rank = h.rank;
            marked = subst (λ (xs : List (List ℕ)). AllByRecursion (IsMarked program.stride lane) xs) same (registers_marked program.stride lane h);
            distinct = subst AreDistinct same (registers_apart program.stride lane h);
          }) small.apart;
      sorts = sorts_lanes 114 g 0 program.lanes (λ k lane is q e.
          let there = moved program k q lane is e in
          subst (λ (xs : List (List ℕ)). AllByRecursion (λ x. sort x ≡ 114) xs) (sym (same_registers program q lane there)) (registers_sorted program.stride lane (small.lanes q lane there)));
    }

-- ---- ports

pub ports_are : (name : Naming) (k : ℕ) (widths : List Width) → names_of (numbered_ports name k widths) ≡ map name (range_with_len k (length widths))
ports_are name k [] = refl
ports_are name k (w ∷ widths) = ap (λ (ys : List (List ℕ)). name k ∷ ys) (ports_are name (k + 1) widths)

-- ---- sorts that are numerals

abbrev other_sorts : ℕ → List Group → Bool
other_sorts k [] = true
other_sorts k (h ∷ groups) = not (nat_eq k h.sort_is) && other_sorts k groups

abbrev pub all_apart : List Group → Bool
all_apart [] = true
all_apart (g ∷ groups) = other_sorts g.sort_is groups && all_apart groups

not_equal : (m n : ℕ) → not (nat_eq m n) ≡ true → m ≢ n
not_equal m n h e = grind arith

others : (k : ℕ) (groups : List Group) → other_sorts k groups ≡ true → AllByRecursion (λ h. k ≢ h.sort_is) groups
others k [] e = tt
others k (h ∷ groups) e = let b = both (not (nat_eq k h.sort_is)) (other_sorts k groups) e in (not_equal k h.sort_is b.0, others k groups b.1)

pub apart_by : (groups : List Group) → all_apart groups ≡ true → AreApart groups
apart_by [] e = tt
apart_by (g ∷ groups) e = let b = both (other_sorts g.sort_is groups) (all_apart groups) e in (others g.sort_is groups b.0, apart_by groups b.1)
