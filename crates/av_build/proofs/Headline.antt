-- The plan of an array: its listing on its ports, one solution for every input, which can be presented, and which the plan shows.
use Rattle.std.proofs.Common.{◌≡◌, ℕ, zero, suc, ◌+◌, ◌*◌, ◌^◌, ◌<◌, List, [], ◌∷◌, length, map, refl, sym, ap, subst, ◌∙◌, arith, All, Option, Some}
use Rattle.std.specs.Prelude.{None, slice_get}
use Rattle.std.specs.List.{range_with_len}
use Rattle.std.proofs.lemmas.List.{length-map}
use Rattle.std.proofs.lemmas.List.Elements.{recursion_from_All}
use Rattle.av_base.specs.declared.width.Width.{Width}
use Rattle.av_base.proofs.Lists.{some_is}
use Rattle.av_tree.specs.Values.{Assignment}
use Rattle.av_flat.specs.declared.timed.Timed.{Timed}
use Rattle.av_flat.specs.Trees.{Variable, FlatSystem, view_system}
use Rattle.av_flat.specs.Nodes.{nodes}
use Rattle.av_flat.specs.Solutions.{IsSolution}
use Rattle.av_flat.specs.OneSolution.{AreInputs, HasOneSolution}
use Rattle.av_flat.specs.Legal.{IsMoving, IsLegal}
use Rattle.av_flat.proofs.Cycles.{scheduled_once}
use Rattle.av_flat.proofs.Unhelped.{helped}
use Rattle.av_pipe.proofs.Piped.{with_helpers}
use Rattle.av_net.specs.declared.netlist.Port.{Port}
use Rattle.av_net.specs.declared.plan.Plan.{Plan}
use Rattle.av_net.specs.Flat.{flat_of}
use Rattle.av_net.specs.Shown.{Shows}
use Rattle.av_space.specs.declared.cells.Cell.{Cell}
use Rattle.av_space.specs.declared.cells.Cells.{Cells}
use Rattle.av_space.specs.Listings.{input_name, output_name}
use Rattle.av_space.specs.Whole.{HasInputWidth, HasOutputWidth, ArePortsOf, HasWholeListing}
use Rattle.av_space.proofs.ByPlace.{from_map, all_by_place}
use Rattle.av_space.proofs.Elements.{in_range}
use Rattle.av_space.proofs.Streams.{presentable}
use Rattle.av_space.proofs.WholeListing.{input_once, output_once}
use Rattle.av_kinds.specs.declared.counter.Counter.{Counter}
use Rattle.av_kinds.specs.declared.counter.Counter.TheVariants.{Cycles}
use Rattle.av_kinds.specs.declared.planning.Modules.{Modules}
use Rattle.av_kinds.specs.Counters.{count_in, number_count}
use Rattle.av_kinds.specs.Programs.{Lane, Program}
use Rattle.av_kinds.specs.Tops.{port, numbered_ports, width_in, output_widths}
use Rattle.av_kinds.specs.Netlists.{plan_of, AreNetlistsOf}
use Rattle.av_history.specs.Widths.{width_of}
use Rattle.av_build.specs.Later.{later}
use Rattle.av_build.specs.ArrayPlans.{ShowsSolution, IsPlanOf, IsCountingPlan, HasOnePoint}
use Rattle.av_build.specs.inner.Built.{array_of, IsProgrammed}
use Rattle.av_build.proofs.CellValues.{value_of}
use Rattle.av_build.proofs.Connected.{arranged_array, one_computation}
use Rattle.av_build.proofs.NotLater.{not_later}
use Rattle.av_build.proofs.PlanShows.{Given, shows}

-- ---- ports

names_of : (name : ℕ → List ℕ) (k : ℕ) (ws : List Width) → map (λ (p : Port). p.name) (numbered_ports name k ws) ≡ map name (range_with_len k (length ws))
names_of name k [] = refl
names_of name k (w ∷ ws) = ap (λ l. name k ∷ l) (names_of name (k + 1) ws)

port_at : (name : ℕ → List ℕ) (b : ℕ) (ws : List Width) (k : ℕ) (p : Port) → slice_get (numbered_ports name b ws) k ≡ Some p → (w : Width) × (slice_get ws k ≡ Some w) × (p ≡ port w (name (b + k)))
port_at name b [] k p e = absurd cc
port_at name b (w ∷ ws) zero p e =
    let n : b ≡ b + 0 = omega arith in
    (w, refl, sym (some_is (port w (name b)) p e) ∙ ap (λ (i : ℕ). port w (name i)) n)
port_at name b (w ∷ ws) (suc k) p e =
    let r = port_at name (b + 1) ws k p e in
    let n : b + 1 + k ≡ b + suc k = omega arith in
    (r.0, r.1, r.2 ∙ ap (λ (i : ℕ). port r.0 (name i)) n)

-- ports of these widths
pub ports_are : (name : ℕ → List ℕ) (number : ℕ) (HasWidth : ℕ → ℕ → Type 0) (ws : List Width) (ports : List Port) → ports ≡ numbered_ports name 0 ws → length ws ≡ number
    → ((i k : ℕ) (w : Width) → slice_get ws i ≡ Some w → name k ≡ name i → HasWidth k w.bits) → ArePortsOf name number HasWidth ports
ports_are name number HasWidth ws ports are size each = record {
  names = ap (λ (l : List Port). map (λ (p : Port). p.name) l) are ∙ names_of name 0 ws ∙ ap (λ n. map name (range_with_len 0 n)) size;
  widths = subst (λ (l : List Port). All (λ (p : Port). (k : ℕ) → p.name ≡ name k → HasWidth k p.width.bits) l) (sym are)
      (all_by_place (λ (p : Port). (k : ℕ) → p.name ≡ name k → HasWidth k p.width.bits) (numbered_ports name 0 ws) (λ i p there. of_port i p (port_at name 0 ws i p there)));
}
  where
    of_port : (i : ℕ) (p : Port) → (w : Width) × (slice_get ws i ≡ Some w) × (p ≡ port w (name (0 + i))) → (k : ℕ) → p.name ≡ name k → HasWidth k p.width.bits
    of_port i p (w, there, same) k named =
        let plain : 0 + i ≡ i = omega arith in
        let one : name k ≡ name i = sym named ∙ ap (λ (q : Port). q.name) same ∙ ap name plain in
        subst (λ (q : Port). HasWidth k q.width.bits) (sym same) (each i k w there one)

module _ (t : Timed) (a : Cells) (legal : IsLegal t) (counter : Counter) (program : Program) (g : IsProgrammed t a counter program) (m : Modules) (netlists : AreNetlistsOf counter program m) where
  abbrev plan : Plan
  plan = plan_of a.listing m

  abbrev own : FlatSystem
  own = view_system t.flat

  -- an input port is as wide as the input that is read there
  pub input_width : (i k : ℕ) (w : Width) → slice_get program.inputs i ≡ Some w → input_name k ≡ input_name i → HasInputWidth own t.helpers g.whole.list.placings a k w.bits
  input_width i k w there named = λ at_port c z input m is_port fed.
      let size = g.ports.one_each in
      let few = g.is_program.inputs_few in
      let within = in_range a.inputs k at_port is_port in
      let low = in_range program.inputs i w there in
      let same : k ≡ i = input_once k i (omega (arith, within, size, few)) (omega (arith, low, few)) named in
      let bits = g.ports.each k at_port w is_port (ap (slice_get program.inputs) same ∙ there) c fed.node z fed.variable fed.piece (record { place = fed.place; map = m }) fed.computes fed.is_variable fed.is_piece fed.is_reference in
      bits ∙ ap (λ o. width_of o) fed.is_variable_read

  given : Given (array_of t a g.whole.list.placings) counter g.lanes a.outputs a.listing program m
  given = record {
    arranged = arranged_array t a legal g.whole.list;
    is_program = g.is_program_for;
    netlists = netlists;
    inputs_many = g.ports.one_each;
    outputs_are = g.outputs_are;
    are_ins = g.whole.list.ins;
    are_ats = g.whole.list.ats;
  }

  pub shown : (k : ℕ) (x u : Assignment) → IsSolution (view_system t.flat) x u → Shows (later (k * number_count counter) (flat_of plan)) x u
  shown k x u solves =
      let hs = recursion_from_All (IsMoving (view_system t.flat) t.times) t.helpers legal.helpers in
      let plain = helped (view_system t.flat) x u (λ j z. None) solves in
      shows (array_of t a g.whole.list.placings) counter g.lanes a.outputs a.listing program m given k x u _ (with_helpers (view_system t.flat) t.times legal.chained legal.schedule x u (λ j z. None) plain t.helpers hs)

  pub outputs_many : length (output_widths program) ≡ length a.outputs
  outputs_many = length-map program.outputs (λ q. width_in (slice_get program.lanes q)) ∙ ap (λ (l : List ℕ). length l) g.outputs_are ∙ length-map a.outputs g.lanes.of_value

  few_outputs : length a.outputs < 2 ^ 32
  few_outputs = (let few = g.is_program.outputs_few in let size = ap (λ (l : List ℕ). length l) g.outputs_are ∙ length-map a.outputs g.lanes.of_value in omega (arith, few, size))

  -- and an output port as the variable of its cell
  pub output_width : (i k : ℕ) (w : Width) → slice_get (output_widths program) i ≡ Some w → output_name k ≡ output_name i → HasOutputWidth own a k w.bits
  output_width i k w there named = λ p cell v is_output is_cell is_variable.
      let size = outputs_many in
      let few = few_outputs in
      let within = in_range a.outputs k p is_output in
      let low = in_range (output_widths program) i w there in
      let same : k ≡ i = output_once k i (omega (arith, within, few)) (omega (arith, low, size, few)) named in
      let x = from_map (λ (q : ℕ). width_in (slice_get program.lanes q)) program.outputs i w there in
      let y = from_map g.lanes.of_value a.outputs i x.0 (sym (ap (λ (qs : List ℕ). slice_get qs i) g.outputs_are) ∙ x.1) in
      let number : y.0 ≡ p = some_is y.0 p (sym y.1 ∙ ap (slice_get a.outputs) (sym same) ∙ is_output) in
      let h = value_of (array_of t a g.whole.list.placings) (count_in counter) g.lanes program g.is_program_for g.whole.list.cells p (in_range a.cells p cell is_cell) in
      let cells : h.computes.cell ≡ cell = some_is h.computes.cell cell (sym h.computes.is_cell ∙ is_cell) in
      let node : h.node ≡ cell.node = sym h.computes.stands.node ∙ ap (λ (c : Cell). c.node) cells in
      let one : h.variable ≡ v = some_is h.variable v (sym h.is_variable ∙ ap (slice_get (nodes own)) node ∙ is_variable) in
      let of_lane : (width_in (slice_get program.lanes (g.lanes.of_value p))).bits ≡ v.width = ap (λ (o : Option Lane). (width_in o).bits) h.is_lane ∙ h.is_value.width_is ∙ ap (λ (u : Variable). u.width) one in
      ap (λ (z : Width). z.bits) (sym x.2) ∙ ap (λ (q : ℕ). (width_in (slice_get program.lanes q)).bits) (sym y.2 ∙ ap g.lanes.of_value number) ∙ of_lane

  -- the listing, on its ports
  abbrev pub carries : HasWholeListing t a (flat_of plan)
  carries = record {
    whole = g.whole;
    listing = refl;
    name = netlists.name;
    inputs = ports_are input_name (length a.inputs) (HasInputWidth own t.helpers g.whole.list.placings a) program.inputs m.top.inputs netlists.inputs g.ports.one_each input_width;
    outputs = ports_are output_name (length a.outputs) (HasOutputWidth own a) (output_widths program) m.top.outputs netlists.outputs outputs_many output_width;
  }

  pub one_point : HasOnePoint t a (flat_of plan) carries
  one_point = one_computation t a legal g.whole.list

-- ---- from a counting plan to one problem

pub plan_of_one : (t : Timed) (a : Cells) → IsLegal t → (plan : Plan) → IsCountingPlan t a Cycles plan → IsPlanOf t a plan
plan_of_one t a legal plan h = record { is_plan = h.is_plan; shows = λ x inputs. solved x inputs }
  where
    solved : (x : Assignment) → AreInputs (view_system t.flat) x → ShowsSolution t (flat_of plan) x
    solved x inputs =
        let o : HasOneSolution (view_system t.flat) x = scheduled_once (view_system t.flat) 4 t.times legal.chained legal.proper legal.schedule x inputs in
        record {
          one = o;
          presentable = presentable t a (flat_of plan) h.is_plan.carries x inputs;
          shows = subst (λ d. Shows d x o.solution) (not_later (flat_of plan)) (h.shows 0 x o.solution o.solves);
        }
