-- The kind of a shape is a sound module.
use Rattle.std.proofs.Common.{◌≡◌, ℕ, zero, suc, ◌+◌, List, [], ◌∷◌, ◌++◌, length, refl, sym, subst, arith, ◌∙◌, ap, inl, inr, Bool, true, false, Some}
use Rattle.std.specs.Prelude.{All, Contains, slice_get}
use Rattle.std.specs.List.{AllByRecursion}
use Rattle.std.proofs.lemmas.List.{map-append, append-nil}
use Rattle.std.proofs.lemmas.List.Elements.{All-from_recursion, All-contains_itself, recursion_from_All, Contains-append_left, Contains-append_right, Contains-append_cases}
use Rattle.av_base.specs.Words.{IsWord}
use Rattle.av_base.proofs.Truths.{by_test}
use Rattle.av_base.proofs.Lists.{each_second, each_weaker, each_append}
use Rattle.av_net.specs.declared.operation.Operand.{Operand}
use Rattle.av_net.specs.declared.operation.Operand.TheVariants.{Name, Literal}
use Rattle.av_net.specs.declared.netlist.Port.{Port}
use Rattle.av_net.specs.declared.netlist.Drive.{Drive}
use Rattle.av_net.specs.declared.netlist.Step.{Step}
use Rattle.av_net.specs.declared.netlist.Module.{Module}
use Rattle.av_net.specs.Meaning.{Widths, operand_width, EachOperand}
use Rattle.av_net.specs.Names.{AreDistinct, names_of, targets_of, registers_of, given_names, wire_names, all_names, IsAmong, width_of}
use Rattle.av_net.specs.Sound.{SuitsWidth, IsFitting, ComparesByOrder, IsSound}
use Rattle.av_net.specs.Designs.{HasBits}
use Rattle.av_net.specs.Flat.{kind_module}
use Rattle.av_kinds.specs.declared.gates.LaneGate.{LaneGate}
use Rattle.av_kinds.specs.Names.{Naming, inner_name, kind_counter}
use Rattle.av_kinds.specs.Counters.{counter_width}
use Rattle.av_kinds.specs.inner.Gates.{drives_from, ports_from}
use Rattle.av_kinds.specs.inner.Shapes.{LaneShape, IsLaneShape, IsKindShape}
use Rattle.av_kinds.specs.inner.Interfaces.{PortCounts, past_modes}
use Rattle.av_kinds.specs.inner.Kinds.{counts, lane_built, output_of, no_ports, lanes_inputs, lanes_outputs, lanes_wires, lanes_drives, kind_inputs, kind_by}
use Rattle.av_kinds.proofs.Uncounted.{wires_same, drives_same}
use Rattle.av_kinds.proofs.Wide.{IsWide}
use Rattle.av_kinds.proofs.ModuleWidths.{AreWide, are_wide}
use Rattle.av_kinds.proofs.FineCells.{FineAt}
use Rattle.av_kinds.proofs.FinePorts.{IsPort}
use Rattle.av_kinds.proofs.KindDrives.{Keeps, AreGood, good_in_order, good_keep, AreLanesFrom, lanes_good}
use Rattle.av_kinds.proofs.KindNames.{names_from, targets_from, targets_named, counter_ports, IsFewKind, kind_distinct}

-- ---- lists of names

all_to : (P : List ℕ → Type 0) (names : List (List ℕ)) → AllByRecursion P names → All P names
all_to P names h = All-from_recursion P names h

-- each name of these is among them, and stays there where more come before or behind
itself : (names : List (List ℕ)) → AllByRecursion (Contains names) names
itself names = recursion_from_All (Contains names) names (All-contains_itself names)

-- the targets of the lanes are among their outputs and wires, and the other way
module _ (c : Operand) where
  abbrev pub outs : ℕ → List LaneShape → List (List ℕ)
  outs k lanes = names_of (lanes_outputs k lanes)

  abbrev pub wires : PortCounts → ℕ → List LaneShape → List (List ℕ)
  wires at n lanes = names_of (lanes_wires c at n lanes)

  abbrev pub targets : PortCounts → ℕ → ℕ → List LaneShape → List (List ℕ)
  targets at n k lanes = targets_of (lanes_drives c at n k lanes)

  split_wires : (at : PortCounts) (n : ℕ) (lane : LaneShape) (lanes : List LaneShape)
      → wires at n (lane ∷ lanes) ≡ names_of (ports_from (inner_name n) 0 (lane_built c at n lane).gates) ++ wires (past_modes at lane.modes) (n + length (lane_built c at n lane).gates) lanes
  split_wires at n lane lanes = map-append (λ (p : Port). p.name) (ports_from (inner_name n) 0 (lane_built c at n lane).gates) (lanes_wires c (past_modes at lane.modes) (n + length (lane_built c at n lane).gates) lanes)

  split_targets : (at : PortCounts) (n k : ℕ) (lane : LaneShape) (lanes : List LaneShape)
      → targets at n k (lane ∷ lanes) ≡ targets_of (drives_from (inner_name n) 0 (lane_built c at n lane).gates) ++ (output_of k lanes ∷ targets (past_modes at lane.modes) (n + length (lane_built c at n lane).gates) (k + 1) lanes)
  split_targets at n k lane lanes =
      let b = lane_built c at n lane in
      let last : Drive = record { target = output_of k lanes; operation = b.root } in
      map-append (λ (d : Drive). d.target) (drives_from (inner_name n) 0 b.gates) (last ∷ lanes_drives c (past_modes at lane.modes) (n + length b.gates) (k + 1) lanes)

  same_names : (name : Naming) (n : ℕ) (gates : List LaneGate) → targets_of (drives_from name n gates) ≡ names_of (ports_from name n gates)
  same_names name n gates = targets_from name n gates ∙ sym (names_from name n gates)

  target_there : (at : PortCounts) (n k : ℕ) (lanes : List LaneShape) (x : List ℕ) → Contains (targets at n k lanes) x → Contains (outs k lanes ++ wires at n lanes) x
  target_there at n k [] x h = h
  target_there at n k (lane ∷ lanes) x h =
      let b = lane_built c at n lane in
      let own = targets_of (drives_from (inner_name n) 0 b.gates) in
      let mid = past_modes at lane.modes in
      let m = n + length b.gates in
      let all : List (List ℕ) = outs k (lane ∷ lanes) ++ wires at n (lane ∷ lanes) in
      let in_wires : (y : List ℕ) → Contains (names_of (ports_from (inner_name n) 0 b.gates) ++ wires mid m lanes) y → Contains all y =
      λ y at_y. Contains-append_right (outs k (lane ∷ lanes)) (wires at n (lane ∷ lanes)) y (subst (λ (ys : List (List ℕ)). Contains ys y) (sym (split_wires at n lane lanes)) at_y) in
      elim (Contains-append_cases own (output_of k lanes ∷ targets mid m (k + 1) lanes) x (subst (λ (ys : List (List ℕ)). Contains ys x) (split_targets at n k lane lanes) h)) [
        | inl here ↦ in_wires x (Contains-append_left (names_of (ports_from (inner_name n) 0 b.gates)) (wires mid m lanes) x (subst (λ (ys : List (List ℕ)). Contains ys x) (same_names (inner_name n) 0 b.gates) here))
        | inr there ↦ elim (Contains-append_cases (output_of k lanes ∷ []) (targets mid m (k + 1) lanes) x there) [
          | inl out ↦ Contains-append_left (outs k (lane ∷ lanes)) (wires at n (lane ∷ lanes)) x (Contains-append_left (output_of k lanes ∷ []) (outs (k + 1) lanes) x out)
          | inr later ↦ elim (Contains-append_cases (outs (k + 1) lanes) (wires mid m lanes) x (target_there mid m (k + 1) lanes x later)) [
            | inl out ↦ Contains-append_left (outs k (lane ∷ lanes)) (wires at n (lane ∷ lanes)) x (Contains-append_right (output_of k lanes ∷ []) (outs (k + 1) lanes) x out)
            | inr wire ↦ in_wires x (Contains-append_right (names_of (ports_from (inner_name n) 0 b.gates)) (wires mid m lanes) x wire)
          ]
        ]
      ]

  in_targets : (at : PortCounts) (n k : ℕ) (lane : LaneShape) (lanes : List LaneShape) (x : List ℕ)
      → Contains (targets_of (drives_from (inner_name n) 0 (lane_built c at n lane).gates) ++ (output_of k lanes ∷ targets (past_modes at lane.modes) (n + length (lane_built c at n lane).gates) (k + 1) lanes)) x → Contains (targets at n k (lane ∷ lanes)) x
  in_targets at n k lane lanes x h = subst (λ (ys : List (List ℕ)). Contains ys x) (sym (split_targets at n k lane lanes)) h

  output_there : (at : PortCounts) (n k : ℕ) (lanes : List LaneShape) (x : List ℕ) → Contains (outs k lanes) x → Contains (targets at n k lanes) x
  output_there at n k [] x h = h
  output_there at n k (lane ∷ lanes) x h =
      let b = lane_built c at n lane in
      let own = targets_of (drives_from (inner_name n) 0 b.gates) in
      let mid = past_modes at lane.modes in
      let m = n + length b.gates in
      in_targets at n k lane lanes x (Contains-append_right own (output_of k lanes ∷ targets mid m (k + 1) lanes) x
      (elim (Contains-append_cases (output_of k lanes ∷ []) (outs (k + 1) lanes) x h) [
        | inl out ↦ Contains-append_left (output_of k lanes ∷ []) (targets mid m (k + 1) lanes) x out
        | inr later ↦ Contains-append_right (output_of k lanes ∷ []) (targets mid m (k + 1) lanes) x (output_there mid m (k + 1) lanes x later)
      ]))

  wire_there : (at : PortCounts) (n k : ℕ) (lanes : List LaneShape) (x : List ℕ) → Contains (wires at n lanes) x → Contains (targets at n k lanes) x
  wire_there at n k [] x h = h
  wire_there at n k (lane ∷ lanes) x h =
      let b = lane_built c at n lane in
      let own = targets_of (drives_from (inner_name n) 0 b.gates) in
      let mid = past_modes at lane.modes in
      let m = n + length b.gates in
      in_targets at n k lane lanes x
      (elim (Contains-append_cases (names_of (ports_from (inner_name n) 0 b.gates)) (wires mid m lanes) x (subst (λ (ys : List (List ℕ)). Contains ys x) (split_wires at n lane lanes) h)) [
        | inl here ↦ Contains-append_left own (output_of k lanes ∷ targets mid m (k + 1) lanes) x (subst (λ (ys : List (List ℕ)). Contains ys x) (sym (same_names (inner_name n) 0 b.gates)) here)
        | inr later ↦ Contains-append_right own (output_of k lanes ∷ targets mid m (k + 1) lanes) x (Contains-append_right (output_of k lanes ∷ []) (targets mid m (k + 1) lanes) x (wire_there mid m (k + 1) lanes x later))
      ])

-- ---- the lanes of a shape

lanes_from : (all : List LaneShape) (k : ℕ) (lanes : List LaneShape) → ((i : ℕ) (lane : LaneShape) → slice_get lanes i ≡ Some lane → slice_get all (k + i) ≡ Some lane) → ((i : ℕ) (lane : LaneShape) → slice_get all i ≡ Some lane → IsLaneShape all i lane) → AreLanesFrom all k lanes
lanes_from all k [] at each = tt
lanes_from all k (lane ∷ lanes) at each =
    let e : k + 0 ≡ k = omega arith in
    let here : slice_get all k ≡ Some lane = subst (λ i. slice_get all i ≡ Some lane) e (at 0 lane refl) in
    (here, each k lane here, lanes_from all (k + 1) lanes (λ i other is. let f : k + suc i ≡ k + 1 + i = omega arith in subst (λ j. slice_get all j ≡ Some other) f (at (suc i) other is)) each)

pub are_lanes : (shape : List LaneShape) → IsKindShape shape → AreLanesFrom shape 0 shape
are_lanes shape is = lanes_from shape 0 shape (λ i lane at. let e : i ≡ 0 + i = omega arith in subst (λ j. slice_get shape j ≡ Some lane) e at) is.lanes

-- ---- the kind

in_if : (test : Bool) → test ≡ true → Contains (names_of (counter_ports test)) kind_counter
in_if true e = (0, omega arith, refl)
in_if false e = absurd cc

wide_if : (widths : Widths) (test : Bool) (ports : List Port) → AllByRecursion (IsWide widths) (counter_ports test ++ ports) → test ≡ true → widths kind_counter ≡ 12
wide_if widths true ports wide e = wide.0
wide_if widths false ports wide e = absurd cc

module _ (number : ℕ) (shape : List LaneShape) (is : IsKindShape shape) (few : IsFewKind shape) where
  abbrev pub m : Module
  m = kind_module (kind_by number shape)

  abbrev pub W : Widths
  W = width_of m

  abbrev pub counter : Operand
  counter = Name kind_counter

  abbrev pub ports : List Port
  ports = lanes_inputs no_ports shape

  wide : AreWide m
  wide = are_wide m (kind_distinct number shape few)

  given_are : given_names m ≡ names_of (kind_inputs shape)
  given_are = append-nil (names_of (kind_inputs shape))

  -- a port of the lanes is known, and has its width
  port_known : (p : Port) → Contains ports p → Contains (given_names m) p.name
  port_known p at = subst (λ (ys : List (List ℕ)). Contains ys p.name) (sym given_are)
      (subst (λ (ys : List (List ℕ)). Contains ys p.name) (sym (map-append (λ (q : Port). q.name) (counter_ports (counts shape)) ports))
      (Contains-append_right (names_of (counter_ports (counts shape))) (names_of ports) p.name (named ports p at)))
    where
      named : (qs : List Port) (p : Port) → Contains qs p → Contains (names_of qs) p.name
      named [] p at = absurd (omega (arith, at.1))
      named (q ∷ qs) p (zero, lt, e) = (0, omega arith, ap (λ (r : Port). r.name) e)
      named (q ∷ qs) p (suc k, lt, e) = let r = named qs p (k, omega (arith, lt), e) in (suc r.0, omega (arith, r.1), r.2)

  both_facts : (qs : List Port) → AllByRecursion (Contains ports) qs → AllByRecursion (IsWide W) qs → AllByRecursion (IsPort (Contains (given_names m)) W) qs
  both_facts [] at h = tt
  both_facts (q ∷ qs) at h = (record { known = port_known q at.0; wide = h.0 }, both_facts qs at.1 h.1)

  ports_are : AllByRecursion (IsPort (Contains (given_names m)) W) ports
  ports_are = both_facts ports (recursion_from_All (Contains ports) ports (All-contains_itself ports)) (each_second (IsWide W) (counter_ports (counts shape)) ports wide.inputs)

  -- over what has the number of the counter
  good_over : (by : Operand) → ((name : Naming) → FineAt (Contains (given_names m)) W name 12 by) → AllByRecursion (IsWide W) (lanes_wires by no_ports 0 shape) → AreGood W (given_names m) (lanes_drives by no_ports 0 0 shape)
  good_over by count wires = lanes_good W by shape no_ports 0 0 shape (given_names m) (are_lanes shape is) count (λ h lane at lt some. absurd (omega (arith, lt))) ports_are wires wide.outputs

  counter_fine : counts shape ≡ true → (name : Naming) → FineAt (Contains (given_names m)) W name 12 counter
  counter_fine counted name = record {
    known = inl (subst (λ (ys : List (List ℕ)). Contains ys kind_counter) (sym given_are) (subst (λ (ys : List (List ℕ)). Contains ys kind_counter) (sym (map-append (λ (q : Port). q.name) (counter_ports (counts shape)) ports))
        (Contains-append_left (names_of (counter_ports (counts shape))) (names_of ports) kind_counter (in_if (counts shape) counted))));
    width = wide_if W (counts shape) ports wide.inputs counted;
    fits = tt;
  }

  literal_fine : (name : Naming) → FineAt (Contains (given_names m)) W name 12 (Literal counter_width 0)
  literal_fine name = record { known = tt; width = refl; fits = omega arith }

  good : AreGood W (given_names m) m.drives
  good = by_test (counts shape)
      (λ counted. good_over counter (counter_fine counted) wide.wires)
      (λ uncounted.
      let literal = Literal counter_width 0 in
      subst (AreGood W (given_names m)) (sym (drives_same counter literal no_ports 0 0 shape uncounted)) (good_over literal literal_fine (subst (AllByRecursion (IsWide W)) (wires_same counter literal no_ports 0 shape uncounted) wide.wires)))

  targets_among : AllByRecursion (Contains (wire_names m)) (targets_of m.drives)
  targets_among = each_weaker (Contains (targets_of m.drives)) (Contains (wire_names m)) (target_there counter no_ports 0 0 shape) (targets_of m.drives) (itself (targets_of m.drives))

  keep : AllByRecursion (Keeps W (all_names m)) m.drives
  keep = good_keep W (given_names m) (all_names m) m.drives (λ x at. Contains-append_left (given_names m) (wire_names m) x at)
      (each_weaker (Contains (wire_names m)) (Contains (all_names m)) (λ x at. Contains-append_right (given_names m) (wire_names m) x at) (targets_of m.drives) targets_among) good

  wires_among : AllByRecursion (Contains (targets_of m.drives)) (wire_names m)
  wires_among = each_append (Contains (targets_of m.drives)) (names_of m.outputs) (names_of m.wires)
      (each_weaker (Contains (names_of m.outputs)) (Contains (targets_of m.drives)) (output_there counter no_ports 0 0 shape) (names_of m.outputs) (itself (names_of m.outputs)))
      (each_weaker (Contains (names_of m.wires)) (Contains (targets_of m.drives)) (wire_there counter no_ports 0 0 shape) (names_of m.wires) (itself (names_of m.wires)))

  each_drive : (P : Drive → Type 0) → ((d : Drive) → Keeps W (all_names m) d → P d) → All P m.drives
  each_drive P f = All-from_recursion P m.drives (each_weaker (Keeps W (all_names m)) P f m.drives keep)

  pub kind_bits : All (λ d. HasBits d.operation) m.drives
  kind_bits = each_drive (λ d. HasBits d.operation) (λ d k. k.bits)

  pub kind_sound : IsSound m
  kind_sound = record {
    declared_once = kind_distinct number shape few;
    driven_once = subst AreDistinct (sym (append-nil (targets_of m.drives))) (targets_named counter no_ports 0 0 shape few.wires (omega (arith, few.outputs))).distinct;
    drives_wires = all_to (Contains (wire_names m)) (targets_of m.drives) targets_among;
    steps_registers = All-from_recursion (Contains (names_of m.registers)) [] tt;
    drives_read = each_drive (λ d. EachOperand (IsAmong (all_names m)) d.operation) (λ d k. k.read);
    steps_read = All-from_recursion (λ (s : Step). IsAmong (all_names m) s.next) [] tt;
    wires_driven = all_to (Contains (targets_of m.drives)) (wire_names m) wires_among;
    registers_stepped = All-from_recursion (Contains (registers_of m.steps)) [] tt;
    in_order = good_in_order W (given_names m) m.drives good;
    drive_widths = each_drive (λ d. SuitsWidth W (W d.target) d.operation) (λ d k. k.suits);
    step_widths = All-from_recursion (λ (s : Step). operand_width W s.next ≡ W s.register) [] tt;
    drives_fit = each_drive (λ d. EachOperand IsFitting d.operation) (λ d k. k.fits);
    steps_fit = All-from_recursion (λ (s : Step). IsFitting s.next) [] tt;
    resets_fit = All-from_recursion (λ (s : Step). IsWord (W s.register) s.reset) [] tt;
    orders = each_drive (λ d. ComparesByOrder d.operation) (λ d k. k.order);
  }
