-- The wires of a cell in the top module are driven by the cell's instance and by nothing else.
use Rattle.std.proofs.Common.{◌≡◌, ℕ, zero, suc, ◌+◌, ◌-◌, ◌^◌, ◌<◌, List, [], ◌∷◌, length, get_or, refl, sym, subst, ap, ◌∙◌, arith, inl, if◌then◌else◌, Some}
use Rattle.std.specs.Prelude.{Contains, slice_get}
use Rattle.std.specs.List.{AllByRecursion}
use Rattle.std.proofs.lemmas.List.Elements.{All-from_recursion, All-contains, All-map}
use Rattle.av_base.proofs.Among.{among_at}
use Rattle.av_base.proofs.Lists.{some_is, there_is, each_append, each_weaker}
use Rattle.av_net.specs.declared.netlist.Port.{Port}
use Rattle.av_net.specs.declared.netlist.Drive.{Drive}
use Rattle.av_net.specs.declared.plan.Instance.{Instance}
use Rattle.av_net.specs.Names.{targets_of}
use Rattle.av_kinds.specs.declared.counter.Counter.{Counter}
use Rattle.av_kinds.specs.declared.planning.Modules.{Modules}
use Rattle.av_kinds.specs.declared.program.CellLanes.{CellLanes}
use Rattle.av_kinds.specs.Programs.{Lane, Program, lanes_of, IsProgram}
use Rattle.av_kinds.specs.Names.{Labels, instance_name, labels}
use Rattle.av_kinds.specs.Counters.{counter_name}
use Rattle.av_kinds.specs.Forms.{IsCellWire, IsWire, IsCounterWire, HaveOwnInstances}
use Rattle.av_kinds.specs.Tops.{lane_wires}
use Rattle.av_kinds.specs.inner.Counts.{counter_wires, counter_drives}
use Rattle.av_kinds.specs.inner.Shapes.{LaneShape}
use Rattle.av_kinds.specs.inner.Instances.{outputs_from, instance_by}
use Rattle.av_kinds.specs.inner.Modules.{AreShapesOf, kinds_by, instances_by, AreModulesOf}
use Rattle.av_kinds.proofs.KindNames.{IsFewKind}
use Rattle.av_kinds.proofs.NameParts.{numbered_injective}
use Rattle.av_kinds.proofs.TopGroups.{lane_at}
use Rattle.av_kinds.proofs.ShapeSuits.{below_length}
use Rattle.av_kinds.proofs.PlanShown.{made_instance}
use Rattle.av_kinds.proofs.TopInstances.{suit_many, lanes_many, cell_within, IsPlacedCell, cells_placed, each_instance, instances_many}
use Rattle.av_kinds.proofs.OwnNames.{value_wire, same_wire, counter_wire_none}
use Rattle.av_kinds.proofs.FlatDrives as flat
use Rattle.av_kinds.proofs.FlatDrives.{lanes_wires_each, if_each, outputs_each}
use Rattle.av_kinds.proofs.FormReads.{counter_targets, counter_wires_are, small_cell, is_small, small_home, output_no_wire}

-- an output of an instance, with the numbers from q on
output_among : (N : Labels) (q n i : ℕ) → i < n → (j : ℕ) → q + i ≡ j → Contains (outputs_from N q n) (N.value j)
output_among N q zero i lt j at = absurd (omega (arith, lt))
output_among N q (suc n) zero lt j at = let e : q ≡ j = omega (arith, at) in (0, omega arith, ap N.value e)
output_among N q (suc n) (suc i) lt j at = let r = output_among N (q + 1) n i (omega (arith, lt)) j (omega (arith, at)) in (suc r.0, omega (arith, r.1), r.2)

module _ (counter : Counter) (program : Program) (is : IsProgram program) (shapes : List (List LaneShape)) (are : AreShapesOf program shapes) (few : AllByRecursion IsFewKind shapes) where
  abbrev N : Labels
  N = labels program

  abbrev instances : List Instance
  instances = flat.instances counter program is shapes are few

  abbrev modules : Modules
  modules = record { kinds = kinds_by 0 shapes; top = flat.top counter program is shapes are few; instances = instances }

  abbrev made : AreModulesOf counter program modules
  made = record { shapes = shapes; are_shapes = are; kinds_are = refl; instances_are = refl; top_is = refl }

  -- ---- each instance has the name of its place

  named_at : (p : ℕ) (cells : List CellLanes) (ks : List ℕ) (i : ℕ) (x : Instance) → slice_get (instances_by counter program shapes p cells ks) i ≡ Some x → (j : ℕ) → p + i ≡ j → x.name ≡ instance_name j
  named_at p [] ks i x there j at = absurd cc
  named_at p (own ∷ cells) [] i x there j at = absurd cc
  named_at p (own ∷ cells) (k ∷ ks) zero x there j at =
      let e : p ≡ j = omega (arith, at) in
      sym (ap (λ (y : Instance). y.name) (some_is (flat_first p own k) x there)) ∙ ap instance_name e
    where
      flat_first : ℕ → CellLanes → ℕ → Instance
      flat_first p own k = instance_by N (counter_name counter) p k own.first (get_or shapes k []) (lanes_of program own)
  named_at p (own ∷ cells) (k ∷ ks) (suc i) x there j at = named_at (p + 1) cells ks i x there j (omega (arith, at))

  small_place : (i : ℕ) (x : Instance) → slice_get instances i ≡ Some x → i < 10 ^ 64
  small_place i x there =
      let many = instances_many counter program is shapes are few 0 program.cells program.kinds (cells_placed counter program is shapes are few) in
      small_cell counter program is shapes are few i (omega (arith, below_length instances i x there, many))

  once : (i j : ℕ) (a b : Instance) → slice_get instances i ≡ Some a → slice_get instances j ≡ Some b → a.name ≡ b.name → i ≡ j
  once i j a b at bt same = numbered_injective 117 i j (small_place i a at) (small_place j b bt)
      (sym (named_at 0 program.cells program.kinds i a at i (omega arith)) ∙ same ∙ named_at 0 program.cells program.kinds j b bt j (omega arith))

  -- ---- what drives a wire of a cell

  record IsOutput (p : ℕ) (name : List ℕ) : Type 0 where
    instance : Instance
    among : Contains instances instance
    own : instance.name ≡ instance_name p
    puts : Contains instance.outputs name

  abbrev IsPut : Port → Type 0
  IsPut w = (p : ℕ) → p < length program.cells → IsCellWire p w.name → IsOutput p w.name

  -- the wire of a lane is an output of the instance of its cell
  lane_put : (q : ℕ) (lane : Lane) → slice_get program.lanes q ≡ Some lane → IsOutput lane.home (N.value q)
  lane_put q lane there =
      let cell = lane_at program is q lane there in
      let p = cell.0 in
      let own = cell.1 in
      let kind = there_is program.kinds p (omega (arith, below_length program.cells p own cell.2, is.kinds)) in
      let shape = there_is shapes kind.0 (are.all p kind.0 kind.1) in
      let room = suit_many shape.0 (lanes_of program own) (are.suit kind.0 shape.0 shape.1 p own cell.2 kind.1) ∙ lanes_many program own (cell_within 0 program.cells (length program.lanes) is.in_turn p own cell.2) in
      let i = instance_by N (counter_name counter) p kind.0 own.first shape.0 (lanes_of program own) in
      record {
        instance = i;
        among = among_at instances p i (made_instance counter program modules made p kind.0 own shape.0 cell.2 kind.1 shape.1);
        own = ap instance_name (sym cell.5.home);
        puts = output_among N own.first (length shape.0) (q - own.first) (omega (arith, room, cell.3, cell.4)) q (omega (arith, cell.3));
      }

  all_put : AllByRecursion IsPut (flat.top counter program is shapes are few).wires
  all_put =
      each_append IsPut (lane_wires N 0 program.lanes) (if flat.counted counter program is shapes are few then counter_wires counter else [])
      (lanes_wires_each IsPut N 0 program.lanes (λ i lane there q at p lt wire.
      let e : i ≡ q = omega (arith, at) in
      let is_lane : slice_get program.lanes q ≡ Some lane = subst (λ n. slice_get program.lanes n ≡ Some lane) e there in
      let same : lane.home ≡ p = same_wire lane.home p (N.value q) (small_home counter program is shapes are few q lane is_lane) (small_cell counter program is shapes are few p lt) (inl (value_wire program q lane is_lane)) (inl wire) in
      subst (λ n. IsOutput n (N.value q)) same (lane_put q lane is_lane)))
      (if_each IsPut (flat.counted counter program is shapes are few) (counter_wires counter)
      (λ counting. each_weaker (λ (x : Port). IsCounterWire counter x.name) IsPut (λ x own p lt wire. absurd (counter_wire_none counter x.name own p (small_cell counter program is shapes are few p lt) (inl wire))) (counter_wires counter) (counter_wires_are counter)))

  driven : (p : ℕ) (w : Port) → p < length program.cells → Contains (flat.top counter program is shapes are few).wires w → IsCellWire p w.name → (i : Instance) × Contains instances i × (i.name ≡ instance_name p) × Contains i.outputs w.name
  driven p w lt at wire =
      let h = All-contains IsPut (flat.top counter program is shapes are few).wires w (All-from_recursion IsPut (flat.top counter program is shapes are few).wires all_put) at p lt wire in
      (h.instance, h.among, h.own, h.puts)

  -- ---- and nothing else does

  module _ (p : ℕ) (name : List ℕ) (lt : p < length program.cells) (wire : IsCellWire p name) where
    no_top : Contains (targets_of (flat.top counter program is shapes are few).drives) name → ⊥
    no_top at = All-contains IsOther (targets_of (flat.top counter program is shapes are few).drives) name
        (All-map IsOther (λ (d : Drive). d.target) (flat.top counter program is shapes are few).drives
        (All-from_recursion (λ (d : Drive). IsOther d.target) (flat.top counter program is shapes are few).drives
        (flat.top_each counter program is shapes are few (λ (d : Drive). IsOther d.target)
        (λ j q at own. output_no_wire counter program is shapes are few j q at p (small_cell counter program is shapes are few p lt) (inl own))
        (λ counting. each_weaker (λ (d : Drive). IsCounterWire counter d.target) (λ (d : Drive). IsOther d.target)
        (λ d of_counter own. counter_wire_none counter d.target of_counter p (small_cell counter program is shapes are few p lt) (inl own)) (counter_drives counter) (counter_targets counter))))) at wire
      where
        IsOther : List ℕ → Type 0
        IsOther x = IsCellWire p x → ⊥

    abbrev PutsOwn : Instance → Type 0
    PutsOwn i = AllByRecursion (λ x. IsCellWire p x → i.name ≡ instance_name p) i.outputs

    each_puts : AllByRecursion PutsOwn instances
    each_puts = each_instance counter program is shapes are few PutsOwn cell 0 program.cells program.kinds (cells_placed counter program is shapes are few)
      where
        cell : (q : ℕ) (own : CellLanes) (k : ℕ) (h : IsPlacedCell counter program is shapes are few q own k) → PutsOwn (instance_by N (counter_name counter) q k own.first h.shape (lanes_of program own))
        cell q own k h =
            let many = suit_many h.shape (lanes_of program own) h.suits in
            let count = lanes_many program own h.within in
            outputs_each (λ x. IsCellWire p x → instance_name q ≡ instance_name p) N own.first (length h.shape) (λ j low high is_wire.
            let lane = flat.lane_of counter program is shapes are few q own k h j low (omega (arith, many, count, high, h.within.low)) in
            let mine : IsWire q (N.value j) = subst (λ n. IsWire n (N.value j)) lane.2 (inl (value_wire program j lane.0 lane.1)) in
            ap instance_name (same_wire q p (N.value j) (is_small counter program is shapes are few q own h.is_cell) (small_cell counter program is shapes are few p lt) mine (inl is_wire)))

    only_own : (i : Instance) → Contains instances i → Contains i.outputs name → i.name ≡ instance_name p
    only_own i at puts =
        let own = All-contains PutsOwn instances i (All-from_recursion PutsOwn instances each_puts) at in
        All-contains (λ x. IsCellWire p x → i.name ≡ instance_name p) i.outputs name (All-from_recursion (λ x. IsCellWire p x → i.name ≡ instance_name p) i.outputs own) puts wire

  pub own_instances : HaveOwnInstances program modules
  own_instances = record { once = once; driven = driven; alone = λ p name lt wire. (no_top p name lt wire, only_own p name lt wire) }
