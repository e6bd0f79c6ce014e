-- In the flat module of a program each drive of a cell is of one sort, and sort by sort there are no more of them than the works of the cell's lanes
-- have operators.
use Rattle.std.proofs.Common.{◌≡◌, ◌≢◌, ℕ, zero, suc, ◌+◌, ◌^◌, ◌<◌, List, [], ◌∷◌, ◌++◌, map, length, get_or, refl, sym, subst, ap, ◌∙◌, arith, inl, inr, Bool, true, false, if◌then◌else◌, Some}
use Rattle.std.specs.Prelude.{Contains, slice_get}
use Rattle.std.specs.List.{AllByRecursion, flat_map}
use Rattle.std.proofs.lemmas.List.{append-nil}
use Rattle.std.proofs.lemmas.List.Elements.{All-from_recursion, All-contains, Contains-append_left, Contains-append_right}
use Rattle.av_base.specs.declared.width.Width.{Width}
use Rattle.av_base.proofs.Lists.{some_is, there_is, each_at, each_weaker}
use Rattle.av_net.specs.declared.operation.Operand.{Operand}
use Rattle.av_net.specs.declared.operation.Operand.TheVariants.{Name, Literal}
use Rattle.av_net.specs.declared.operation.Operation.{Operation}
use Rattle.av_net.specs.declared.operation.Operation.TheVariants.{Plain, Binary, Signed, Choose, Part, Widen}
use Rattle.av_net.specs.declared.netlist.Port.{Port}
use Rattle.av_net.specs.declared.netlist.Drive.{Drive}
use Rattle.av_net.specs.declared.netlist.Module.{Module}
use Rattle.av_net.specs.declared.plan.CellKind.{CellKind}
use Rattle.av_net.specs.declared.plan.Instance.{Instance}
use Rattle.av_net.specs.Flat as flattened
use Rattle.av_net.specs.Flat.{part_name, part_operation, part_drive, input_drives, instance_drives}
use Rattle.av_kinds.specs.declared.counter.Counter.{Counter}
use Rattle.av_kinds.specs.declared.counter.Counter.TheVariants.{Cycles, Phases}
use Rattle.av_kinds.specs.declared.program.CellLanes.{CellLanes}
use Rattle.av_kinds.specs.declared.program.WordSource.{WordSource}
use Rattle.av_kinds.specs.declared.program.WordSource.TheVariants.{Word, Input, Line}
use Rattle.av_kinds.specs.Programs.{Program, lanes_of, IsProgram}
use Rattle.av_kinds.specs.Names.{Labels, input_name, instance_name, kind_counter, labels}
use Rattle.av_kinds.specs.Counters.{counter_width, counter_name}
use Rattle.av_kinds.specs.Tops.{port}
use Rattle.av_kinds.specs.Sorts.{IsCounted, IsOfSort, copies, AreOfSorts, ended, sorted}
use Rattle.av_kinds.specs.Forms as forms
use Rattle.av_kinds.specs.Forms.{IsWire, IsCounterWire, AreDrivesOf, of_cell, other, HasFewOperators}
use Rattle.av_kinds.specs.inner.Counts.{counter_drives}
use Rattle.av_kinds.specs.inner.Shapes.{LaneShape}
use Rattle.av_kinds.specs.inner.Ordered.{IsOrdered}
use Rattle.av_kinds.specs.inner.Kinds.{counts, no_ports, lanes_inputs, lanes_outputs, lanes_drives, kind_inputs, kind_by}
use Rattle.av_kinds.specs.inner.Instances.{operand_of, lanes_operands, outputs_from, cell_operands, instance_by}
use Rattle.av_kinds.specs.inner.Modules.{AreShapesOf, instances_by}
use Rattle.av_kinds.proofs.Counted.{kind_has}
use Rattle.av_kinds.proofs.KindNames.{IsFewKind}
use Rattle.av_kinds.proofs.NameParts.{decimal_once, owner, sort}
use Rattle.av_kinds.proofs.TopNames.{one_number}
use Rattle.av_kinds.proofs.ShapeSuits.{below_length}
use Rattle.av_kinds.proofs.PlanShown.{got}
use Rattle.av_kinds.proofs.TopInstances.{EachCell, cells_placed}
use Rattle.av_kinds.proofs.OwnNames.{part_owner, part_sort, part_own, register_sort, line_register, counter_apart, same_wire, counter_wire_none}
use Rattle.av_kinds.proofs.Sources.{IsGiven}
use Rattle.av_kinds.proofs.SortedGates.{IsFree, IsSorted, sort_in, same_sort, is_sort}
use Rattle.av_kinds.proofs.SortedKinds.{lanes_sorted}
use Rattle.av_kinds.proofs.FewOperators.{unit, sorts_in, instance_has, lanes_weigh}
use Rattle.av_kinds.proofs.FlatDrives as flat
use Rattle.av_kinds.proofs.FlatDrives.{flat_each, HasCases}
use Rattle.av_kinds.proofs.FormReads.{counter_targets, is_small, small_home, value_sort, output_lane, output_no_wire, own_wire}

-- ---- the drives of one cell

joined : (p : ℕ) (ys b : List Drive) {xs a : List Drive} → AreDrivesOf p xs a → AreDrivesOf p ys b → AreDrivesOf p (xs ++ ys) (a ++ b)
joined p ys b forms.ended h = h
joined p ys b (of_cell w g) h = of_cell w (joined p ys b g h)
joined p ys b (other n g) h = other n (joined p ys b g h)

all_own : (p : ℕ) (ds : List Drive) → AllByRecursion (λ (d : Drive). IsWire p d.target) ds → AreDrivesOf p ds ds
all_own p [] h = forms.ended
all_own p (d ∷ ds) h = of_cell h.0 (all_own p ds h.1)

none_own : (p : ℕ) (ds : List Drive) → AllByRecursion (λ (d : Drive). IsWire p d.target → ⊥) ds → AreDrivesOf p ds []
none_own p [] h = forms.ended
none_own p (d ∷ ds) h = other h.0 (none_own p ds h.1)

later : {X : Type 0} (y : X) (xs : List X) (x : X) → Contains xs x → Contains (y ∷ xs) x
later y xs x at = Contains-append_right (y ∷ []) xs x at

own_among : (p : ℕ) {ds own : List Drive} → AreDrivesOf p ds own → (d : Drive) → Contains own d → Contains ds d
own_among p forms.ended d at = at
own_among p (of_cell {d = e} {ds = es} w g) d (zero, lt, same) = (0, omega arith, same)
own_among p (of_cell {d = e} {ds = es} w g) d (suc k, lt, same) = later e es d (own_among p g d (k, omega (arith, lt), same))
own_among p (other {d = e} {ds = es} n g) d at = later e es d (own_among p g d at)

mapped_among : {X Y : Type 0} (f : X → Y) (xs : List X) (x : X) → Contains xs x → Contains (map f xs) (f x)
mapped_among f [] x at = absurd (omega (arith, at.1))
mapped_among f (y ∷ xs) x (zero, lt, e) = (0, omega arith, ap f e)
mapped_among f (y ∷ xs) x (suc k, lt, e) = later (f y) (map f xs) (f x) (mapped_among f xs x (k, omega (arith, lt), e))

are_sorts : (counter : List ℕ) (D ds : List Drive) → AllByRecursion (λ (d : Drive). IsOfSort counter D d.operation (sort_in d.operation)) ds → AreOfSorts counter D ds (sorts_in ds)
are_sorts counter D [] h = ended
are_sorts counter D (d ∷ ds) h = sorted h.0 (are_sorts counter D ds h.1)

-- ---- copies

plain_name : (x y : List ℕ) → Plain (Name x) ≡ Plain (Name y) → x ≡ y
plain_name x y e = cc

no_literal : (w : Width) (n : ℕ) (y : List ℕ) → Plain (Literal w n) ≡ Plain (Name y) → ⊥
no_literal w n y e = cc

-- what an instance has of its own is no copy of another name
inner_copy : (u y : List ℕ) (o : Operation) → ((x : List ℕ) → part_name u x ≡ y → ⊥) → part_operation u o ≡ Plain (Name y) → ⊥
inner_copy u y (Plain (Name x)) apart e = apart x (plain_name (part_name u x) y e)
inner_copy u y (Plain (Literal w n)) apart e = no_literal w n y e
inner_copy u y (Binary a s b) apart e = absurd cc
inner_copy u y (Signed a s b) apart e = absurd cc
inner_copy u y (Choose c a b) apart e = absurd cc
inner_copy u y (Part x high low) apart e = absurd cc
inner_copy u y (Widen x by) apart e = absurd cc

counter_copy : (counter : Counter) (y : List ℕ) → AllByRecursion (λ (d : Drive). d.operation ≡ Plain (Name y) → ⊥) (counter_drives counter)
counter_copy Cycles y = (λ e. cc, tt)
counter_copy (Phases period) y = (λ e. cc, (λ e. cc, (λ e. cc, tt)))

module _ (counter : Counter) (program : Program) (is : IsProgram program) (shapes : List (List LaneShape)) (are : AreShapesOf program shapes) (few : AllByRecursion IsFewKind shapes) where
  abbrev N : Labels
  N = labels program

  abbrev own_name : List ℕ
  own_name = counter_name counter

  abbrev kinds : List CellKind
  kinds = flat.kinds counter program is shapes are few

  abbrev Placed : ℕ → CellLanes → ℕ → Type 0
  Placed p own k = flat.IsPlaced counter program is shapes are few p own k

  abbrev Cases : (P : Drive → Type 0) (p : ℕ) (own : CellLanes) (k : ℕ) → Placed p own k → Type 0
  Cases P p own k h = HasCases counter program is shapes are few P p own k h

  abbrev D : List Drive
  D = flat.drives counter program is shapes are few

  abbrev own_drives : (p : ℕ) (own : CellLanes) (k : ℕ) → Placed p own k → List Drive
  own_drives p own k h = flat.own_drives counter program is shapes are few p own k h

  small_of : (p : ℕ) (own : CellLanes) → slice_get program.cells p ≡ Some own → p < 10 ^ 64
  small_of p own is_cell = is_small counter program is shapes are few p own is_cell

  -- ---- the counter drives its port of each instance alone

  abbrev IsCopy : Drive → Type 0
  IsCopy d = d.operation ≡ Plain (Name own_name) → (p : ℕ) × (p < 10 ^ 64) × (d.target ≡ part_name (instance_name p) kind_counter)

  no_part : (p : ℕ) (x : List ℕ) → p < 10 ^ 64 → part_name (instance_name p) x ≡ own_name → ⊥
  no_part p x small e = (counter_apart counter).part (sym (ap sort e) ∙ part_sort p x small)

  no_source : (p : ℕ) (own : CellLanes) (k : ℕ) (h : Placed p own k) (w : Width) (s : WordSource) → IsGiven program is p own h.is_cell h.within.low s → Plain (operand_of N w s) ≡ Plain (Name own_name) → ⊥
  no_source p own k h w (Word n) given e = no_literal w n own_name e
  no_source p own k h w (Input n) given e =
      (counter_apart counter).input (sym (ap sort (plain_name (input_name n) own_name e)) ∙ one_number 105 n (omega (arith, below_length program.inputs n given.width given.is_source, is.inputs_few)))
  no_source p own k h w (Line q zero) given e = absurd (omega (arith, given.is_source.4))
  no_source p own k h w (Line q (suc d)) given e =
      let lane = given.is_source.0 in
      let there = given.is_source.1 in
      (counter_apart counter).register (sym (ap sort (plain_name (N.register q d) own_name e)) ∙ register_sort lane.home (N.register q d) (small_home counter program is shapes are few q lane there) (line_register program q d lane there))

  copied : AllByRecursion IsCopy D
  copied = flat.drives_each counter program is shapes are few IsCopy cell
      (λ j q at e.
      let lane = output_lane counter program is shapes are few j q at in
      absurd ((counter_apart counter).cell (sym (ap sort (plain_name (N.value q) own_name e)) ∙ value_sort counter program is shapes are few q lane.0 lane.1)))
      (λ counting. each_weaker (λ (d : Drive). d.operation ≡ Plain (Name own_name) → ⊥) IsCopy (λ d none e. absurd (none e)) (counter_drives counter) (counter_copy counter own_name))
    where
      cell : (p : ℕ) (own : CellLanes) (k : ℕ) (h : Placed p own k) → Cases IsCopy p own k h
      cell p own k h =
          let small = small_of p own h.is_cell in
          record {
            count = λ c e. (p, small, refl);
            literal = λ x w n e. absurd (no_literal w n own_name e);
            source = λ x w s given e. absurd (no_source p own k h w s given e);
            inner = λ d at e. absurd (inner_copy (instance_name p) own_name d.operation (λ x f. no_part p x small f) e);
            output = λ x q lane there home e. absurd (no_part p x small (plain_name (part_name (instance_name p) x) own_name e));
          }

  -- other names of an instance are free
  free : (p : ℕ) → p < 10 ^ 64 → (x : List ℕ) → x ≢ kind_counter → IsFree own_name D (instance_name p) (Name x)
  free p small x apart (inl e) = no_part p x small e
  free p small x apart (inr (q, own, (d, at, target, operation))) =
      let copy = All-contains IsCopy D d (All-from_recursion IsCopy D copied) at operation in
      let same : part_name (instance_name p) x ≡ part_name (instance_name copy.0) kind_counter = sym target ∙ copy.2 in
      let one : p ≡ copy.0 = decimal_once p copy.0 small copy.1 (sym (part_owner p x small) ∙ ap owner same ∙ part_owner copy.0 kind_counter copy.1) in
      apart (part_own p x kind_counter small (same ∙ ap (λ n. part_name (instance_name n) kind_counter) (sym one)))

  -- ---- the drives of the cell p are those of its instance

  abbrev NotOf : ℕ → Drive → Type 0
  NotOf p d = IsWire p d.target → ⊥

  own_of : (p : ℕ) (own : CellLanes) (k : ℕ) (h : Placed p own k) → AllByRecursion (λ (d : Drive). IsWire p d.target) (own_drives p own k h)
  own_of p own k h = flat.own_each counter program is shapes are few (λ (d : Drive). IsWire p d.target) p own k h (record {
    count = λ c. inr (kind_counter, refl);
    literal = λ x w n. inr (x, refl);
    source = λ x w s given. inr (x, refl);
    inner = λ d at. inr (d.target, refl);
    output = λ x q lane there home. own_wire counter program is shapes are few p q lane there home;
  })

  not_of : (p q : ℕ) (own : CellLanes) (k : ℕ) (h : Placed q own k) → p < 10 ^ 64 → q ≢ p → AllByRecursion (NotOf p) (own_drives q own k h)
  not_of p q own k h small apart =
      let large = small_of q own h.is_cell in
      flat.own_each counter program is shapes are few (NotOf p) q own k h (record {
        count = λ c wire. apart (same_wire q p (part_name (instance_name q) kind_counter) large small (inr (kind_counter, refl)) wire);
        literal = λ x w n wire. apart (same_wire q p (part_name (instance_name q) x) large small (inr (x, refl)) wire);
        source = λ x w s given wire. apart (same_wire q p (part_name (instance_name q) x) large small (inr (x, refl)) wire);
        inner = λ d at wire. apart (same_wire q p (part_name (instance_name q) d.target) large small (inr (d.target, refl)) wire);
        output = λ x r lane there home wire. apart (same_wire q p (N.value r) large small (own_wire counter program is shapes are few q r lane there home) wire);
      })

  abbrev cell_instance : ℕ → CellLanes → ℕ → Instance
  cell_instance p own k = instance_by N own_name p k own.first (get_or shapes k []) (lanes_of program own)

  head_drives : (p : ℕ) (own : CellLanes) (k : ℕ) (h : Placed p own k) → instance_drives kinds (cell_instance p own k) ≡ own_drives p own k h
  head_drives p own k h =
      ap (λ (s : List LaneShape). instance_drives kinds (instance_by N own_name p k own.first s (lanes_of program own))) (got shapes k [] h.shape h.is_shape) ∙ flat.same_drives counter program is shapes are few p own k h

  abbrev all_instances : ℕ → List CellLanes → List ℕ → List Instance
  all_instances a cells ks = instances_by counter program shapes a cells ks

  abbrev all_drives : ℕ → List CellLanes → List ℕ → List Drive
  all_drives a cells ks = flat_map (instance_drives kinds) (all_instances a cells ks)

  none_from : (p : ℕ) → p < 10 ^ 64 → (a : ℕ) (cells : List CellLanes) (ks : List ℕ) → p < a → EachCell (flat.IsPlaced counter program is shapes are few) a cells ks → AllByRecursion (λ (i : Instance). AllByRecursion (NotOf p) (instance_drives kinds i)) (all_instances a cells ks)
  none_from p small a [] ks lt each = tt
  none_from p small a (own ∷ cells) [] lt each = tt
  none_from p small a (own ∷ cells) (k ∷ ks) lt each = (
    subst (AllByRecursion (NotOf p)) (sym (head_drives a own k each.0)) (not_of p a own k each.0 small (λ e. omega (arith, e, lt))),
    none_from p small (a + 1) cells ks (omega (arith, lt)) each.1,
  )

  record HasOwn (ds : List Drive) (p : ℕ) (own : CellLanes) (k : ℕ) : Type 0 where
    placed : Placed p own k
    are_own : AreDrivesOf p ds (own_drives p own k placed)

  first_own : (p : ℕ) (own : CellLanes) (k : ℕ) (h : Placed p own k) (cells : List CellLanes) (ks : List ℕ) → EachCell (flat.IsPlaced counter program is shapes are few) (p + 1) cells ks
      → AreDrivesOf p (instance_drives kinds (cell_instance p own k) ++ all_drives (p + 1) cells ks) (own_drives p own k h)
  first_own p own k h cells ks each =
      let small = small_of p own h.is_cell in
      let others = none_own p (all_drives (p + 1) cells ks) (flat_each (NotOf p) (instance_drives kinds) (all_instances (p + 1) cells ks) (none_from p small (p + 1) cells ks (omega arith) each)) in
      let mine : AreDrivesOf p (instance_drives kinds (cell_instance p own k)) (own_drives p own k h) =
      subst (λ (ds : List Drive). AreDrivesOf p ds (own_drives p own k h)) (sym (head_drives p own k h)) (all_own p (own_drives p own k h) (own_of p own k h)) in
      subst (AreDrivesOf p (instance_drives kinds (cell_instance p own k) ++ all_drives (p + 1) cells ks)) (append-nil (own_drives p own k h)) (joined p (all_drives (p + 1) cells ks) [] mine others)

  own_at : (p : ℕ) → p < 10 ^ 64 → (a : ℕ) (cells : List CellLanes) (ks : List ℕ) → EachCell (flat.IsPlaced counter program is shapes are few) a cells ks → (i : ℕ) → a + i ≡ p
      → (own : CellLanes) (k : ℕ) → slice_get cells i ≡ Some own → slice_get ks i ≡ Some k → HasOwn (all_drives a cells ks) p own k
  own_at p small a [] ks each i at own k is_cell is_kind = absurd cc
  own_at p small a (o ∷ cells) [] each i at own k is_cell is_kind = absurd each
  own_at p small a (o ∷ cells) (j ∷ ks) each zero at own k is_cell is_kind =
      let e : a ≡ p = omega (arith, at) in
      let L = all_drives a (o ∷ cells) (j ∷ ks) in
      subst (λ n. HasOwn L n own k) e (subst (λ x. HasOwn L a x k) (some_is o own is_cell) (subst (λ x. HasOwn L a o x) (some_is j k is_kind) (record { placed = each.0; are_own = first_own a o j each.0 cells ks each.1 })))
  own_at p small a (o ∷ cells) (j ∷ ks) each (suc i) at own k is_cell is_kind =
      let rest_own = own_at p small (a + 1) cells ks each.1 i (omega (arith, at)) own k is_cell is_kind in
      let head = none_own p (instance_drives kinds (cell_instance a o j)) (subst (AllByRecursion (NotOf p)) (sym (head_drives a o j each.0)) (not_of p a o j each.0 small (λ e. omega (arith, e, at)))) in
      record { placed = rest_own.placed; are_own = joined p (all_drives (a + 1) cells ks) (own_drives p own k rest_own.placed) head rest_own.are_own }

  top_not : (p : ℕ) → p < 10 ^ 64 → AllByRecursion (NotOf p) (flat.top counter program is shapes are few).drives
  top_not p small = flat.top_each counter program is shapes are few (NotOf p) (λ j q at wire. output_no_wire counter program is shapes are few j q at p small wire)
      (λ counting. each_weaker (λ (d : Drive). IsCounterWire counter d.target) (NotOf p) (λ d own wire. counter_wire_none counter d.target own p small wire) (counter_drives counter) (counter_targets counter))

  has_own : (p : ℕ) (own : CellLanes) (k : ℕ) → slice_get program.cells p ≡ Some own → slice_get program.kinds p ≡ Some k → HasOwn D p own k
  has_own p own k is_cell is_kind =
      let small = small_of p own is_cell in
      let h = own_at p small 0 program.cells program.kinds (cells_placed counter program is shapes are few) p (omega arith) own k is_cell is_kind in
      let ds = own_drives p own k h.placed in
      let tops = (flat.top counter program is shapes are few).drives in
      record { placed = h.placed; are_own = subst (AreDrivesOf p D) (append-nil ds) (joined p tops [] h.are_own (none_own p tops (top_not p small))) }

  -- ---- each is of one sort

  module _ (p : ℕ) (own : CellLanes) (k : ℕ) (h : Placed p own k) (mine : AreDrivesOf p D (own_drives p own k h)) where
    abbrev u : List ℕ
    u = instance_name p

    abbrev inner : List Drive
    inner = lanes_drives (Name kind_counter) no_ports 0 0 h.shape

    abbrev inputs : List Drive
    inputs = input_drives u (kind_inputs h.shape) (cell_operands N own_name h.shape (lanes_of program own))

    abbrev outputs : List Drive
    outputs = flattened.output_drives u (lanes_outputs 0 h.shape) (outputs_from N own.first (length h.shape))

    abbrev count_drive : Drive
    count_drive = record { target = part_name u kind_counter; operation = Plain (Name own_name) }

    in_inputs : (b : Bool) (ports : List Port) (operands : List Operand) → b ≡ true → Contains (input_drives u ((if b then port counter_width kind_counter ∷ [] else []) ++ ports) ((if b then Name own_name ∷ [] else []) ++ operands)) count_drive
    in_inputs true ports operands e = (0, omega arith, refl)
    in_inputs false ports operands e = absurd cc

    is_counted : counts h.shape ≡ true → IsCounted own_name D (Name (part_name u kind_counter))
    is_counted counting =
        let among = Contains-append_left (inputs ++ map (part_drive u) inner) outputs count_drive
        (Contains-append_left inputs (map (part_drive u) inner) count_drive (in_inputs (counts h.shape) (lanes_inputs no_ports h.shape) (lanes_operands N h.shape (lanes_of program own)) counting)) in
        inr (p, (kind_counter, refl), (count_drive, own_among p mine count_drive among, refl, refl))

    inner_among : (d : Drive) → Contains inner d → Contains D (part_drive u d)
    inner_among d at = own_among p mine (part_drive u d)
        (Contains-append_left (inputs ++ map (part_drive u) inner) outputs (part_drive u d) (Contains-append_right inputs (map (part_drive u) inner) (part_drive u d) (mapped_among (part_drive u) inner d at)))

    inner_sorted : AllByRecursion (λ (d : Drive). IsSorted own_name D u d.operation) inner
    inner_sorted = lanes_sorted own_name D u (free p (small_of p own h.is_cell)) (counts h.shape ≡ true) is_counted no_ports 0 0 h.shape (λ e. e) inner_among

    abbrev HasSort : Drive → Type 0
    HasSort d = IsOfSort own_name D d.operation (sort_in d.operation)

    own_sorted : AllByRecursion HasSort (own_drives p own k h)
    own_sorted = flat.own_each counter program is shapes are few HasSort p own k h (record {
      count = λ c. copies;
      literal = λ x w n. copies;
      source = λ x w s given. copies;
      inner = λ d at. subst (IsOfSort own_name D (part_operation u d.operation)) (sym (same_sort u d.operation))
          (is_sort own_name D u d.operation (All-contains (λ (y : Drive). IsSorted own_name D u y.operation) inner d (All-from_recursion (λ (y : Drive). IsSorted own_name D u y.operation) inner inner_sorted) at));
      output = λ x q lane there home. copies;
    })

  -- The cell p has no more drives of a sort than the works of its lanes have operators.
  pub few_operators : AllByRecursion IsOrdered shapes → (m : Module) → m.drives ≡ D → (p : ℕ) (own : CellLanes) → slice_get program.cells p ≡ Some own → HasFewOperators own_name m p (lanes_of program own)
  few_operators ordered m same p own is_cell =
      let kind = there_is program.kinds p (omega (arith, below_length program.cells p own is_cell, is.kinds)) in
      let k = kind.0 in
      let h = has_own p own k is_cell kind.1 in
      let ds = own_drives p own k h.placed in
      record {
        drives = ds;
        are_drives = subst (λ (xs : List Drive). AreDrivesOf p xs ds) (sym same) h.are_own;
        sorts = sorts_in ds;
        are_sorts = subst (λ (xs : List Drive). AreOfSorts own_name xs ds (sorts_in ds)) (sym same) (are_sorts own_name D ds (own_sorted p own k h.placed h.are_own));
        few = λ s not_rest.
            let placed = h.placed in
            omega (
              arith,
              instance_has s not_rest (kind_by k placed.shape) (flat.own_instance counter program is shapes are few p own k placed),
              kind_has (unit s) (Name kind_counter) no_ports 0 0 placed.shape,
              lanes_weigh s placed.shape (lanes_of program own) (each_at IsOrdered shapes k placed.shape ordered placed.is_shape) placed.suits,
            );
      }
