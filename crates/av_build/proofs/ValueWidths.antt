-- In the flat module of an array's plan each value wire is as wide as the words of its cell's variable.
use Rattle.std.proofs.Common.{◌≡◌, ℕ, sym, ap, ◌∙◌, Some}
use Rattle.std.specs.Prelude.{Contains, slice_get}
use Rattle.std.proofs.lemmas.List.Elements.{All-from_recursion, All-contains, Contains-append_left}
use Rattle.std.specs.List.{flat_map}
use Rattle.av_base.proofs.Lists.{some_is, each_by_place}
use Rattle.av_base.proofs.Among.{among_at}
use Rattle.av_flat.specs.declared.timed.Timed.{Timed}
use Rattle.av_flat.specs.Trees.{Variable, view_system}
use Rattle.av_flat.specs.Nodes.{nodes}
use Rattle.av_net.specs.declared.netlist.Port.{Port}
use Rattle.av_net.specs.Designs.{IsSoundPlan}
use Rattle.av_net.specs.Flat.{flat_module, flat_of, instance_wires}
use Rattle.av_net.specs.Names.{width_of}
use Rattle.av_net.proofs.FlatSound.{flat_is_sound}
use Rattle.av_space.specs.declared.cells.Cell.{Cell}
use Rattle.av_space.specs.declared.cells.Cells.{Cells}
use Rattle.av_space.proofs.Elements.{in_range}
use Rattle.av_kinds.specs.declared.counter.Counter.{Counter}
use Rattle.av_kinds.specs.declared.planning.Modules.{Modules}
use Rattle.av_kinds.specs.Counters.{count_in}
use Rattle.av_kinds.specs.Names.{value_name, labels}
use Rattle.av_kinds.specs.Programs.{Program}
use Rattle.av_kinds.specs.Tops.{port}
use Rattle.av_kinds.specs.Netlists.{plan_of, AreNetlistsOf}
use Rattle.av_kinds.proofs.Wide.{IsWide}
use Rattle.av_kinds.proofs.ModuleWidths.{are_wide}
use Rattle.av_build.specs.ArrayPlans.{HasValueWidths}
use Rattle.av_build.specs.inner.Built.{array_of, IsProgrammed}
use Rattle.av_build.proofs.CellValues.{value_of, value_labelled}

module _ (t : Timed) (a : Cells) (counter : Counter) (program : Program) (g : IsProgrammed t a counter program) (m : Modules) (netlists : AreNetlistsOf counter program m) (sound : IsSoundPlan (plan_of a.listing m)) where
  -- a wire is as wide as its name is declared
  wide : (x : Port) → Contains (flat_module (plan_of a.listing m)).wires x → width_of (flat_module (plan_of a.listing m)) x.name ≡ x.width.bits
  wide x among =
      let flat = flat_module (plan_of a.listing m) in
      All-contains (IsWide (width_of flat)) flat.wires x (All-from_recursion (IsWide (width_of flat)) flat.wires (are_wide flat (flat_is_sound (plan_of a.listing m) sound.modules).declared_once).wires) among

  value_width : (x : Port) → Contains (flat_module (plan_of a.listing m)).wires x → (p : ℕ) (cell : Cell) (v : Variable) → slice_get a.cells p ≡ Some cell → slice_get (nodes (view_system t.flat)) cell.node ≡ Some v → x.name ≡ value_name p → x.width.bits ≡ v.width
  value_width x among p cell v is_cell is_variable named =
      let flat = flat_module (plan_of a.listing m) in
      let own = array_of t a g.whole.list.placings in
      let low = in_range a.cells p cell is_cell in
      let h = value_of own (count_in counter) g.lanes program g.is_program_for g.whole.list.cells p low in
      let wire = port h.lane.width ((labels program).value (g.lanes.of_value p)) in
      let there = Contains-append_left m.top.wires (flat_map (instance_wires m.kinds) m.instances) wire (netlists.wires (g.lanes.of_value p) h.lane h.is_lane) in
      let label = value_labelled own (count_in counter) g.lanes program g.is_program_for g.whole.list.cells p low in
      let cells : h.computes.cell ≡ cell = some_is h.computes.cell cell (sym h.computes.is_cell ∙ is_cell) in
      let node : h.node ≡ cell.node = sym h.computes.stands.node ∙ ap (λ (c : Cell). c.node) cells in
      let one : h.variable ≡ v = some_is h.variable v (sym h.is_variable ∙ ap (slice_get (nodes (view_system t.flat))) node ∙ is_variable) in
      sym (wide x among) ∙ ap (width_of flat) (named ∙ sym label) ∙ wide wire there ∙ h.is_value.width_is ∙ ap (λ (u : Variable). u.width) one

  pub value_widths : HasValueWidths t a (flat_of (plan_of a.listing m))
  value_widths =
      let wires = (flat_module (plan_of a.listing m)).wires in
      let P : Port → Type 0 = λ x. (p : ℕ) (cell : Cell) (v : Variable) → slice_get a.cells p ≡ Some cell → slice_get (nodes (view_system t.flat)) cell.node ≡ Some v → x.name ≡ value_name p → x.width.bits ≡ v.width in
      All-from_recursion P wires (each_by_place P wires (λ i x at. value_width x (among_at wires i x at)))
