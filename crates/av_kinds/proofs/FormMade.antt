-- The modules of a program have the form of one.
use Rattle.std.proofs.Common.{◌≡◌, ◌≢◌, ℕ, ◌^◌, ◌<◌, List, [], ◌∷◌, refl, sym, subst, ap, ◌∙◌, arith, inl, inr, ◌⊎◌, Bool, true, false, true≢false, if◌then◌else◌}
use Rattle.std.specs.Prelude.{Contains}
use Rattle.std.specs.List.{AllByRecursion, list_any, flat_map}
use Rattle.std.proofs.lemmas.List.Elements.{All-from_recursion, All-contains, All-map, Contains-append_left, Contains-append_right}
use Rattle.av_net.specs.declared.operation.Operand.TheVariants.{Name}
use Rattle.av_net.specs.declared.netlist.Port.{Port}
use Rattle.av_net.specs.declared.netlist.Drive.{Drive}
use Rattle.av_net.specs.declared.netlist.Module.{Module}
use Rattle.av_net.specs.declared.design.Listing.{Listing}
use Rattle.av_net.specs.Names.{names_of}
use Rattle.av_net.specs.Flat.{flat_module, instance_wires, instance_drives}
use Rattle.av_kinds.specs.declared.counter.Counter.{Counter}
use Rattle.av_kinds.specs.declared.counter.Counter.TheVariants.{Cycles, Phases}
use Rattle.av_kinds.specs.declared.planning.Modules.{Modules}
use Rattle.av_kinds.specs.Programs.{Program, IsProgram}
use Rattle.av_kinds.specs.Names.{Labels, labels}
use Rattle.av_kinds.specs.Counters.{counter_width, counter_name, next_name}
use Rattle.av_kinds.specs.Tops.{port, output_drives, lane_wires, lane_registers, lane_steps}
use Rattle.av_kinds.specs.Netlists.{plan_of}
use Rattle.av_kinds.specs.Forms.{IsWire, IsRegister, IsCounterWire, HasNext, HasCounter, HasNoCounter, IsFormedBy, AreFormedBy}
use Rattle.av_kinds.specs.inner.Counts.{counter_wires, counter_drives, counter_step}
use Rattle.av_kinds.specs.inner.Shapes.{LaneShape}
use Rattle.av_kinds.specs.inner.Kinds.{counts}
use Rattle.av_kinds.specs.inner.Modules.{AreShapesOf, top_by, kinds_by, instances_by, IsSmallKind, AreModulesOf}
use Rattle.av_kinds.proofs.KindNames.{IsFewKind}
use Rattle.av_kinds.proofs.FewKinds.{few_kinds}
use Rattle.av_kinds.proofs.OwnNames.{value_wire, line_register, register_sort, counter_apart, counter_wire_none}
use Rattle.av_kinds.proofs.FlatDrives as flat
use Rattle.av_kinds.proofs.FormReads.{names_read, links_read, wires_owned, registers_owned, steps_take, output_is, small_home, is_small}
use Rattle.av_kinds.proofs.FormSorts.{few_operators}
use Rattle.av_kinds.proofs.OwnInstances.{own_instances}

in_if : {X : Type 0} (b : Bool) (xs : List X) (x : X) → b ≡ true → Contains xs x → Contains (if b then xs else []) x
in_if true xs x e at = at
in_if false xs x e at = absurd cc

-- no port has a name for which this does not hold
not_named : (R : List ℕ → Type 0) (ports : List Port) → AllByRecursion (λ (x : Port). R x.name) ports → (name : List ℕ) → (R name → ⊥) → Contains (names_of ports) name → ⊥
not_named R ports each name none at =
    none (All-contains R (names_of ports) name (All-map R (λ (x : Port). x.name) ports (All-from_recursion (λ (x : Port). R x.name) ports each)) at)

-- ---- the counter's own wires, drives and step

next_wire : (counter : Counter) → Contains (counter_wires counter) (port counter_width (next_name counter))
next_wire Cycles = (0, omega arith, refl)
next_wire (Phases period) = (2, omega arith, refl)

next_step : (counter : Counter) → counter_step counter ≡ record { register = counter_name counter; reset = 0; next = Name (next_name counter) }
next_step Cycles = refl
next_step (Phases period) = refl

next_is : (counter : Counter) → IsCounterWire counter (next_name counter)
next_is Cycles = refl
next_is (Phases period) = inr (inr refl)

has_next : (counter : Counter) (m : Module) → ((d : Drive) → Contains (counter_drives counter) d → Contains m.drives d) → HasNext counter m
has_next Cycles m among = among _ (0, omega arith, refl)
has_next (Phases period) m among = (among _ (0, omega arith, refl), among _ (1, omega arith, refl), among _ (2, omega arith, refl))

-- ---- the flat module

module _ (counter : Counter) (program : Program) (is : IsProgram program) (shapes : List (List LaneShape)) (are : AreShapesOf program shapes) (few : AllByRecursion IsFewKind shapes) where
  abbrev N : Labels
  N = labels program

  abbrev own_name : List ℕ
  own_name = counter_name counter

  abbrev counted : Bool
  counted = list_any counts shapes

  abbrev top : Module
  top = flat.top counter program is shapes are few

  abbrev modules : Modules
  modules = record { kinds = kinds_by 0 shapes; top = top; instances = instances_by counter program shapes 0 program.cells program.kinds }

  abbrev m : Listing → Module
  m l = flat_module (plan_of l modules)

  abbrev parts : List Port
  parts = flat_map (instance_wires (flat.kinds counter program is shapes are few)) (flat.instances counter program is shapes are few)

  abbrev part_drives : List Drive
  part_drives = flat_map (instance_drives (flat.kinds counter program is shapes are few)) (flat.instances counter program is shapes are few)

  has_counter : (l : Listing) → counted ≡ true → HasCounter counter (m l)
  has_counter l counting = record {
    register = Contains-append_right (lane_registers N 0 program.lanes) (if counted then port counter_width own_name ∷ [] else []) (port counter_width own_name)
        (in_if counted (port counter_width own_name ∷ []) (port counter_width own_name) counting (0, omega arith, refl));
    wire = Contains-append_left top.wires parts (port counter_width (next_name counter))
        (Contains-append_right (lane_wires N 0 program.lanes) (if counted then counter_wires counter else []) (port counter_width (next_name counter)) (in_if counted (counter_wires counter) (port counter_width (next_name counter)) counting (next_wire counter)));
    step = subst (Contains top.steps) (next_step counter)
        (Contains-append_right (lane_steps N 0 program.lanes) (if counted then counter_step counter ∷ [] else []) (counter_step counter) (in_if counted (counter_step counter ∷ []) (counter_step counter) counting (0, omega arith, refl)));
    next = has_next counter (m l) (λ d at. Contains-append_right part_drives top.drives d
        (Contains-append_right (output_drives N 0 program.outputs) (if counted then counter_drives counter else []) d (in_if counted (counter_drives counter) d counting at)));
  }

  -- a wire or a register of some cell
  abbrev OfCell : (ℕ → List ℕ → Type 0) → List ℕ → Type 0
  OfCell R x = (p : ℕ) × (p < 10 ^ 64) × R p x

  has_none : (l : Listing) → counted ≡ false → HasNoCounter counter (m l)
  has_none l none = record {
    register = not_named (OfCell IsRegister) top.registers (flat.registers_each counter program is shapes are few (λ (x : Port). OfCell IsRegister x.name)
        (λ q lane there d. (lane.home, small_home counter program is shapes are few q lane there, line_register program q d lane there))
        (λ counting. absurd (true≢false (sym counting ∙ none)))) own_name (λ of_cell. (counter_apart counter).register (register_sort of_cell.0 own_name of_cell.1 of_cell.2));
    wire = not_named (OfCell IsWire) (flat.wires counter program is shapes are few) (flat.wires_each counter program is shapes are few (λ (x : Port). OfCell IsWire x.name)
        (λ q lane there. (lane.home, small_home counter program is shapes are few q lane there, inl (value_wire program q lane there)))
        (λ p own is_cell x. (p, is_small counter program is shapes are few p own is_cell, inr (x.name, refl)))
        (λ counting. absurd (true≢false (sym counting ∙ none)))) (next_name counter) (λ of_cell. counter_wire_none counter (next_name counter) (next_is counter) of_cell.0 of_cell.1 of_cell.2);
  }

  counter_is : (l : Listing) → HasCounter counter (m l) ⊎ HasNoCounter counter (m l)
  counter_is l = by_test counted refl
    where
      by_test : (b : Bool) → counted ≡ b → HasCounter counter (m l) ⊎ HasNoCounter counter (m l)
      by_test true e = inl (has_counter l e)
      by_test false e = inr (has_none l e)

  is_form : (l : Listing) → IsFormedBy counter program (m l)
  is_form l = record {
    wires = wires_owned counter program is shapes are few;
    registers = registers_owned counter program is shapes are few;
    reads = names_read counter program is shapes are few;
    links = links_read counter program is shapes are few;
    takes = steps_take counter program is shapes are few;
    outputs = output_is counter program is shapes are few;
    counter_is = counter_is l;
    operators_are = few_operators counter program is shapes are few are.ordered (m l) refl;
  }

  formed : AreFormedBy counter program modules
  formed = record { form = is_form; instances = own_instances counter program is shapes are few }

-- Modules that are those of a program have its form.
pub made_form : (counter : Counter) (program : Program) → IsProgram program → (m : Modules) → (made : AreModulesOf counter program m) → AllByRecursion IsSmallKind m.kinds → AreFormedBy counter program m
made_form counter program is m made small =
    let few : AllByRecursion IsFewKind made.shapes = few_kinds 0 made.shapes (subst (AllByRecursion IsSmallKind) made.kinds_are small) in
    let same : modules counter program is made.shapes made.are_shapes few ≡ m =
    sym (ap (λ ks. let x : Modules = record { kinds = ks; top = m.top; instances = m.instances } in x) made.kinds_are
    ∙ ap (λ t. let x : Modules = record { kinds = kinds_by 0 made.shapes; top = t; instances = m.instances } in x) made.top_is
    ∙ ap (λ is. let x : Modules = record { kinds = kinds_by 0 made.shapes; top = top_by counter (list_any counts made.shapes) program; instances = is } in x) made.instances_are) in
    subst (AreFormedBy counter program) same (formed counter program is made.shapes made.are_shapes few)
