-- The lines of an array's listing may be listed at the ports and wires of its program's modules.
use Rattle.std.proofs.Common.{◌≡◌, ℕ, ◌+◌, ◌≤◌, ◌<◌, Bool, true, false, not, IsTrue, List, length, Some, refl, sym, subst, arith, ap, ◌∙◌, inl, inr}
use Rattle.std.specs.Prelude.{All, Contains, slice_get, nat_abs}
use Rattle.std.proofs.lemmas.List.{length-map}
use Rattle.std.proofs.lemmas.List.Elements.{Contains-append_left, Contains-append_right}
use Rattle.av_base.specs.declared.token_kind.TokenKind.TheVariants as token
use Rattle.av_base.specs.declared.width.Width.{Width}
use Rattle.av_base.specs.Tokens.{IsSpelled}
use Rattle.av_base.proofs.Among.{among_map}
use Rattle.av_base.proofs.Lists.{all_at, some_is}
use Rattle.av_tree.specs.Trees.{Text}
use Rattle.av_tree.specs.Points.{Point}
use Rattle.av_flat.specs.declared.flat.Kind.{Kind}
use Rattle.av_flat.specs.declared.flat.Kind.TheVariants as kind
use Rattle.av_flat.specs.declared.timed.Timed.{Timed}
use Rattle.av_flat.specs.Trees.{Variable, FlatSystem, view_system}
use Rattle.av_flat.specs.Legal.{IsLegal}
use Rattle.av_flat.specs.Points.{has}
use Rattle.av_flat.specs.Signatures.{is_kind, is_input, is_shown}
use Rattle.av_flat.specs.Chained.{IsChainedVariable}
use Rattle.av_flat.specs.Nodes.{is_node, nodes}
use Rattle.av_flat.proofs.Solving.{declared_from}
use Rattle.av_net.specs.declared.netlist.Port.{Port}
use Rattle.av_net.specs.declared.design.Entry.{Entry}
use Rattle.av_net.specs.Listed.{MayBeListed}
use Rattle.av_net.specs.Names.{names_of, wire_names}
use Rattle.av_space.specs.declared.cells.Cells.{Cells}
use Rattle.av_space.specs.Listings.{InLine, IsInLine, AtLine, IsAtLine, IsWireOf, output, value}
use Rattle.av_space.specs.Occupancy.{Computes}
use Rattle.av_space.specs.Whole.{IsPresented}
use Rattle.av_space.proofs.ByPlace.{from_map, all_by_place}
use Rattle.av_space.proofs.Elements.{in_range}
use Rattle.av_flat.proofs.NodeNumbers.{passing}
use Rattle.av_space.proofs.Nodes.{chained_variable, small_of}
use Rattle.av_kinds.specs.declared.counter.Counter.{Counter}
use Rattle.av_kinds.specs.declared.planning.Modules.{Modules}
use Rattle.av_kinds.specs.Names.{Naming, input_name, output_name, value_name, labels}
use Rattle.av_kinds.specs.Programs.{Lane, Program}
use Rattle.av_kinds.specs.Tops.{port, numbered_ports, output_widths, width_in}
use Rattle.av_kinds.specs.Netlists.{AreNetlistsOf}
use Rattle.av_build.specs.inner.Built.{IsProgrammed}
use Rattle.av_build.proofs.CellValues.{value_label}
use Rattle.av_build.proofs.Connected.{few_cycles}
use Rattle.av_build.proofs.PlanShows.{port_there}

-- ---- points of variables that are shown

record IsListable (name : Text) (z : Point) : Type 0 where
  spelled : IsSpelled token.Name name
  indices : length z ≤ 4
  index : All (λ i. nat_abs i ≤ 4095) z

not_both : (b : Bool) → IsTrue b → IsTrue (not b) → ⊥
not_both true p q = absurd (let k : false ≡ true = q in cc)
not_both false p q = absurd (let k : false ≡ true = p in cc)

listable : (s : FlatSystem) (v : Variable) (z : Point) → IsChainedVariable s v → IsTrue (is_shown v.kind) → IsTrue (has v.domain z) → IsListable v.name z
listable s v z h shown within =
    let point = small_of s v z h within in
    record {
      spelled = elim h.named [
        | inl p ↦ p.1
        | inr p ↦ absurd (not_both (is_kind v.kind kind.Partial) p.0 shown)
      ];
      indices = point.few;
      index = λ k d lt. point.small k d lt;
    }

input_shown : (k : Kind) → IsTrue (is_input k) → IsTrue (is_shown k)
input_shown kind.Input h = refl
input_shown kind.Output h = refl
input_shown kind.Local h = refl
input_shown kind.Partial h = absurd (let k : false ≡ true = h in cc)

-- ---- names of ports

named_there : (name : Naming) (widths : List Width) (ports : List Port) → ports ≡ numbered_ports name 0 widths → (k : ℕ) → k < length widths → Contains (names_of ports) (name k)
named_there name widths ports are k lt =
    let there = port_there name 0 widths k lt in
    let e : 0 + k ≡ k = omega arith in
    let among = among_map (λ (p : Port). p.name) (numbered_ports name 0 widths) (port there.0 (name (0 + k))) there.1 in
    subst (λ (ps : List Port). Contains (names_of ps) (name k)) (sym are) (subst (λ (i : ℕ). Contains (names_of (numbered_ports name 0 widths)) (name i)) e among)

-- ---- the listing

module _ (t : Timed) (a : Cells) (legal : IsLegal t) (counter : Counter) (program : Program) (g : IsProgrammed t a counter program) (m : Modules) (netlists : AreNetlistsOf counter program m) (few : a.cycles ≤ 4096) where
  abbrev own : FlatSystem
  own = view_system t.flat

  in_time : (p c n : ℕ) (z : Point) → Computes own g.whole.list.placings a.cells p c n z → c ≤ 4095
  in_time p c n z h = let k = few_cycles t a legal g.whole.list few p c n z h in omega (arith, k)

  in_listed : (i : ℕ) (line : Entry) → slice_get a.listing.ins i ≡ Some line → MayBeListed (names_of m.top.inputs) line
  in_listed i line e =
      let array = g.whole.list in
      let b = from_map (λ (l : InLine). l.entry) array.ins.lines i line (sym (ap (λ (es : List Entry). slice_get es i) array.ins.entries) ∙ e) in
      let l = all_at (IsInLine own t.helpers array.placings a.cells a.inputs) array.ins.lines i b.0 array.ins.each b.1 in
      let p = all_at (IsPresented own a) a.listing.ins i line g.whole.presented e in
      let d = declared_from own.variables is_input line.variable line.point p.0 in
      let listed = listable own d.variable line.point (chained_variable own d.place d.variable legal.chained d.at) (input_shown d.variable.kind d.kind) d.within in
      let low : p.1.0 < length program.inputs = (let many = g.ports.one_each in let lt = p.1.1 in omega (arith, many, lt)) in
      record {
        variable = subst (IsSpelled token.Name) d.named listed.spelled;
        indices = listed.indices;
        index = listed.index;
        wire = subst (λ (x : List ℕ). Contains (names_of m.top.inputs) x) (sym p.1.2) (named_there input_name program.inputs m.top.inputs netlists.inputs p.1.0 low);
        cycle = subst (λ (x : Entry). x.cycle ≤ 4095) b.2 (in_time l.port.cell b.0.entry.cycle l.fed.node l.point l.fed.computes);
      }

  output_there : (k p : ℕ) → slice_get a.outputs k ≡ Some p → Contains (wire_names m.top) (output_name k)
  output_there k p e =
      let within = in_range a.outputs k p e in
      let many : length (output_widths program) ≡ length a.outputs = length-map program.outputs (λ q. width_in (slice_get program.lanes q)) ∙ ap (λ (l : List ℕ). length l) g.outputs_are ∙ length-map a.outputs g.lanes.of_value in
      Contains-append_left (names_of m.top.outputs) (names_of m.top.wires) (output_name k) (named_there output_name (output_widths program) m.top.outputs netlists.outputs k (omega (arith, within, many)))

  value_there : (q p : ℕ) (lane : Lane) → slice_get program.lanes q ≡ Some lane → lane.home ≡ p → lane.rank ≡ 0 → Contains (wire_names m.top) (value_name p)
  value_there q p lane is home rank =
      let there = among_map (λ (w : Port). w.name) m.top.wires (port lane.width ((labels program).value q)) (netlists.wires q lane is) in
      subst (λ (x : List ℕ). Contains (wire_names m.top) x) (value_label program q p lane is home rank) (Contains-append_right (names_of m.top.outputs) (names_of m.top.wires) ((labels program).value q) there)

  wire_there : (p c n : ℕ) (z : Point) (v : Variable) → Computes own g.whole.list.placings a.cells p c n z → slice_get (nodes own) n ≡ Some v → (x : List ℕ) → IsWireOf a.outputs p x → Contains (wire_names m.top) x
  wire_there p c n z v computes is_variable x (output k at) = output_there k p at
  wire_there p c n z v computes is_variable x (value none) =
      let lane = g.is_program_for.values p c n z v computes is_variable in
      value_there (g.lanes.of_value p) p lane.2.0 lane.2.1 lane.2.2.home_is lane.2.2.rank_is

  at_listed : (i : ℕ) (line : Entry) → slice_get a.listing.ats i ≡ Some line → MayBeListed (wire_names m.top) line
  at_listed i line e =
      let array = g.whole.list in
      let b = from_map (λ (l : AtLine). l.entry) array.ats.lines i line (sym (ap (λ (es : List Entry). slice_get es i) array.ats.entries) ∙ e) in
      let l = all_at (IsAtLine own array.placings a.cells a.outputs) array.ats.lines i b.0 array.ats.each b.1 in
      let computation = l.computes.stands.computation in
      let one : computation.variable ≡ l.variable = some_is computation.variable l.variable (sym computation.is ∙ l.is_variable) in
      let within : IsTrue (has l.variable.domain b.0.entry.point) = subst (λ (v : Variable). IsTrue (has v.domain b.0.entry.point)) one computation.declared in
      let at = passing is_node own.variables b.0.node l.variable l.is_variable in
      let listed = listable own l.variable b.0.entry.point (chained_variable own at.place l.variable legal.chained at.is) l.shown within in
      subst (MayBeListed (wire_names m.top)) b.2
      (record {
        variable = subst (IsSpelled token.Name) (sym l.variable_is) listed.spelled;
        indices = listed.indices;
        index = listed.index;
        wire = wire_there l.cell b.0.entry.cycle b.0.node b.0.entry.point l.variable l.computes l.is_variable b.0.entry.wire l.wire_is;
        cycle = in_time l.cell b.0.entry.cycle b.0.node b.0.entry.point l.computes;
      })

  pub ins_listed : All (MayBeListed (names_of m.top.inputs)) a.listing.ins
  ins_listed = all_by_place (MayBeListed (names_of m.top.inputs)) a.listing.ins in_listed

  pub ats_listed : All (MayBeListed (wire_names m.top)) a.listing.ats
  ats_listed = all_by_place (MayBeListed (wire_names m.top)) a.listing.ats at_listed
