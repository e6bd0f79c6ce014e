-- The names and numbers of the modules of a program are those of the grammar, so its plan is sound with each listing.
use Rattle.std.proofs.Common.{◌≡◌, ℕ, suc, ◌+◌, ◌^◌, ◌<◌, ◌≤◌, List, [], ◌∷◌, ◌++◌, map, length, refl, sym, subst, ap, arith, Bool, true, false, if◌then◌else◌, Some, inl, inr}
use Rattle.std.specs.Prelude.{All, slice_get, nat_eq, codes, decimal}
use Rattle.std.specs.List.{AllByRecursion, range_with_len, list_any}
use Rattle.std.proofs.lemmas.List.{map-append}
use Rattle.std.proofs.lemmas.List.Elements.{All-from_recursion}
use Rattle.av_base.proofs.Lists.{each_at, each_weaker, each_append}
use Rattle.av_net.specs.declared.operation.Operand.{Operand}
use Rattle.av_net.specs.declared.operation.Operand.TheVariants.{Name, Literal}
use Rattle.av_net.specs.declared.operation.Operation.{Operation}
use Rattle.av_net.specs.declared.operation.Operation.TheVariants.{Plain, Binary, Signed, Choose, Part, Widen}
use Rattle.av_net.specs.declared.netlist.Port.{Port}
use Rattle.av_net.specs.declared.netlist.Drive.{Drive}
use Rattle.av_net.specs.declared.netlist.Step.{Step}
use Rattle.av_net.specs.declared.netlist.Module.{Module}
use Rattle.av_net.specs.declared.design.Listing.{Listing}
use Rattle.av_net.specs.declared.plan.CellKind.{CellKind}
use Rattle.av_net.specs.declared.plan.Instance.{Instance}
use Rattle.av_net.specs.Meaning.{EachOperand}
use Rattle.av_net.specs.Names.{AreDistinct, names_of, given_names, wire_names, all_names, declarations}
use Rattle.av_net.specs.Sound.{IsSound}
use Rattle.av_net.specs.Flat.{kind_module}
use Rattle.av_net.specs.Plans.{instance_names, HasSoundModules}
use Rattle.av_net.specs.Lexemes.{IsName, begins_name}
use Rattle.av_net.specs.Listed.{MayBeListed}
use Rattle.av_net.specs.Designs.{HasWidth, HasSpelling, IsSoundPlan}
use Rattle.av_kinds.specs.declared.counter.Counter.{Counter}
use Rattle.av_kinds.specs.declared.counter.Counter.TheVariants.{Cycles}
use Rattle.av_kinds.specs.Programs.{Lane, Program, IsProgram}
use Rattle.av_kinds.specs.Names.{value_name, wire_name, number_in, lane_value, lane_register, labels, kind_name, kind_counter}
use Rattle.av_kinds.specs.Counters.{IsCounter}
use Rattle.av_kinds.specs.inner.Shapes.{LaneShape, IsKindShape}
use Rattle.av_kinds.specs.inner.Interfaces.{PortCounts}
use Rattle.av_kinds.specs.inner.Kinds.{counts, no_ports, lanes_inputs, lanes_outputs, kind_inputs, kind_by}
use Rattle.av_kinds.specs.inner.Modules.{AreShapesOf, top_by, kinds_by, instances_by}
use Rattle.av_kinds.proofs.NameParts.{joined_distinct, one_distinct, each_of_range}
use Rattle.av_kinds.proofs.PortNames.{IsIn, IsOf, IsSmall, past_lanes, lanes_named}
use Rattle.av_kinds.proofs.KindNames.{IsOut, outs_named, wires_named, wires_end, counter_ports, IsFewKind}
use Rattle.av_kinds.proofs.KindSound.{kind_sound, kind_bits}
use Rattle.av_kinds.proofs.SpelledNames.{one_numbered, twice_numbered, value_spelled, array_name, counter_spelled, counter_wires_spelled}
use Rattle.av_kinds.proofs.TopNames.{of_lanes, wires_of, registers_in, own_registers, below_line, IsSmallLane, AreSmall, moved, same_value, same_registers, group, apart_by}
use Rattle.av_kinds.proofs.TopGroups.{small_program, number_group, counter_register, counter_wire_names}
use Rattle.av_kinds.proofs.PartNames.{names_of_instances}
use Rattle.av_kinds.proofs.ShapeSuits.{below_length}
use Rattle.av_kinds.proofs.TopInstances.{cells_placed, named, instances_many}
use Rattle.av_kinds.proofs.TopSound.{I, R, O, V, all_are, top_sound, top_bits}

-- ---- numbers

has_width : (a : Operand) → HasWidth a
has_width (Name x) = tt
has_width (Literal w value) = (w.least, w.most)

each_width : (operation : Operation) → EachOperand HasWidth operation
each_width (Plain a) = has_width a
each_width (Binary a symbol b) = (has_width a, has_width b)
each_width (Signed a symbol b) = (has_width a, has_width b)
each_width (Choose a b c) = (has_width a, has_width b, has_width c)
each_width (Part name high low) = tt
each_width (Widen name by) = tt

for_all : {X : Type 0} (P : X → Type 0) → ((x : X) → P x) → (xs : List X) → All P xs
for_all {X = X} P f xs = All-from_recursion P xs (each xs)
  where
    each : (ys : List X) → AllByRecursion P ys
    each [] = tt
    each (y ∷ ys) = (f y, each ys)

-- ---- names of a kind

named_in : (a low high : ℕ) → begins_name a ≡ true → high ≤ 10 ^ 64 → (x : List ℕ) → IsIn a low high x → IsName x
named_in a low high letter few x p = subst IsName (sym p.3) (one_numbered a p.0 letter (omega (arith, p.2, few)))

port_named : (lo hi : PortCounts) → IsSmall hi → (x : List ℕ) → IsOf lo hi x → IsName x
port_named lo hi small x (inl p) = named_in 105 lo.inputs hi.inputs refl small.inputs x p
port_named lo hi small x (inr (inl p)) = named_in 116 lo.taps hi.taps refl small.taps x p
port_named lo hi small x (inr (inr p)) = named_in 98 lo.bounds hi.bounds refl small.bounds x p

out_named : (low high : ℕ) → high ≤ 10 ^ 64 → (x : List ℕ) → IsOut low high x → IsName x
out_named low high few x (inl p) = named_in 112 low high refl few x p
out_named low high few x (inr e) = subst IsName (sym e) value_spelled

counter_named : (b : Bool) → AllByRecursion IsName (names_of (counter_ports b))
counter_named true = (counter_spelled Cycles, tt)
counter_named false = tt

pub kind_spelled : (number : ℕ) (shape : List LaneShape) → IsKindShape shape → IsFewKind shape → number < 10 ^ 64 → HasSpelling (kind_module (kind_by number shape))
kind_spelled number shape is few small =
    let m = kind_module (kind_by number shape) in
    let ports = lanes_named no_ports shape few.ports in
    let outs = outs_named 0 shape (omega (arith, few.outputs)) in
    let wires = wires_named (Name kind_counter) no_ports 0 shape few.wires in
    let inputs : AllByRecursion IsName (names_of (kind_inputs shape)) =
    subst (AllByRecursion IsName) (sym (map-append (λ (p : Port). p.name) (counter_ports (counts shape)) (lanes_inputs no_ports shape)))
    (each_append IsName (names_of (counter_ports (counts shape))) (names_of (lanes_inputs no_ports shape)) (counter_named (counts shape))
    (each_weaker (IsOf no_ports (past_lanes no_ports shape)) IsName (port_named no_ports (past_lanes no_ports shape) few.ports) (names_of (lanes_inputs no_ports shape)) ports.each)) in
    record {
      module_name = one_numbered 107 number refl small;
      names = All-from_recursion IsName (all_names m) (each_append IsName (given_names m) (wire_names m)
          (each_append IsName (names_of (kind_inputs shape)) [] inputs tt)
          (each_append IsName (names_of m.outputs) (names_of m.wires)
          (each_weaker (IsOut 0 (0 + length shape)) IsName (out_named 0 (0 + length shape) (omega (arith, few.outputs))) (names_of m.outputs) outs.each)
          (each_weaker (IsIn 119 0 (wires_end (Name kind_counter) no_ports 0 shape)) IsName (named_in 119 0 (wires_end (Name kind_counter) no_ports 0 shape) refl few.wires) (names_of m.wires) wires.each)));
      widths = for_all (λ (p : Port). (1 ≤ p.width.bits) × (p.width.bits ≤ 64)) (λ p. (p.width.least, p.width.most)) (declarations m);
      drive_literals = for_all (λ (d : Drive). EachOperand HasWidth d.operation) (λ d. each_width d.operation) m.drives;
      step_literals = for_all (λ (s : Step). HasWidth s.next) (λ s. has_width s.next) m.steps;
      widenings = kind_bits number shape is few;
    }

-- ---- names of the top module

each_of_lanes : (P : List ℕ → Type 0) (f : ℕ → Lane → List (List ℕ)) (q : ℕ) (lanes : List Lane) → ((k : ℕ) (lane : Lane) → slice_get lanes k ≡ Some lane → (j : ℕ) → q + k ≡ j → AllByRecursion P (f j lane)) → AllByRecursion P (of_lanes f q lanes)
each_of_lanes P f q [] each = tt
each_of_lanes P f q (lane ∷ lanes) each = each_append P (f q lane) (of_lanes f (q + 1) lanes) (each 0 lane refl q (omega arith)) (each_of_lanes P f (q + 1) lanes (λ k l there j at. each (suc k) l there j (omega (arith, at))))

lane_named : (stride : ℕ) (lane : Lane) → IsSmallLane stride lane → IsName (lane_value stride lane)
lane_named stride lane h = by_rank (nat_eq lane.rank 0)
  where
    by_rank : (b : Bool) → IsName (if b then value_name lane.home else wire_name lane.home (number_in stride lane 0))
    by_rank true = one_numbered 99 lane.home refl h.home
    by_rank false = twice_numbered 99 lane.home (number_in stride lane 0) refl h.home h.first

registers_named : (stride : ℕ) (lane : Lane) → IsSmallLane stride lane → AllByRecursion IsName (own_registers stride lane)
registers_named stride lane h = each_of_range IsName (λ k. lane_register stride k lane) 0 lane.length (λ k le lt. twice_numbered 114 lane.home (number_in stride lane k) refl h.home (below_line stride lane h k (omega (arith, lt))))

module _ (counter : Counter) (program : Program) (is : IsProgram program) (ok : IsCounter counter) (shapes : List (List LaneShape)) (are : AreShapesOf program shapes) (few : AllByRecursion IsFewKind shapes) (many : length shapes ≤ 10 ^ 64) where
  abbrev pub counted : Bool
  counted = list_any counts shapes

  abbrev pub top : Module
  top = top_by counter counted program

  abbrev pub kinds : List CellKind
  kinds = kinds_by 0 shapes

  abbrev pub instances : List Instance
  instances = instances_by counter program shapes 0 program.cells program.kinds

  small : AreSmall program
  small = small_program program is

  values_named : AllByRecursion IsName (of_lanes (wires_of (labels program)) 0 program.lanes)
  values_named = each_of_lanes IsName (wires_of (labels program)) 0 program.lanes (λ k lane there j at.
      let here = moved program k j lane there at in
      (subst IsName (sym (same_value program j lane here)) (lane_named program.stride lane (small.lanes j lane here)), tt))

  lines_named : AllByRecursion IsName (of_lanes (registers_in (labels program)) 0 program.lanes)
  lines_named = each_of_lanes IsName (registers_in (labels program)) 0 program.lanes (λ k lane there j at.
      let here = moved program k j lane there at in
      subst (AllByRecursion IsName) (sym (same_registers program j lane here)) (registers_named program.stride lane (small.lanes j lane here)))

  register_named : (b : Bool) → AllByRecursion IsName (counter_register counter b)
  register_named true = (counter_spelled counter, tt)
  register_named false = tt

  wires_named_if : (b : Bool) → AllByRecursion IsName (counter_wire_names counter b)
  wires_named_if true = counter_wires_spelled counter
  wires_named_if false = tt

  numbered_names : (a n : ℕ) → begins_name a ≡ true → n ≤ 10 ^ 64 → AllByRecursion IsName (map (λ k. a ∷ decimal k) (range_with_len 0 n))
  numbered_names a n letter le = each_of_range IsName (λ k. a ∷ decimal k) 0 n (λ k low lt. one_numbered a k letter (omega (arith, lt, le)))

  names_spelled : AllByRecursion IsName (all_names top)
  names_spelled =
      let i = I counter program is ok shapes are few in
      let r = R counter program is ok shapes are few in
      let o = O counter program is ok shapes are few in
      let v = V counter program is ok shapes are few in
      let c = counter_register counter counted in
      let n = counter_wire_names counter counted in
      subst (AllByRecursion IsName) (sym (all_are counter program is ok shapes are few))
      (each_append IsName (i ++ (r ++ c)) (o ++ (v ++ n))
      (each_append IsName i (r ++ c) (numbered_names 105 (length program.inputs) refl (omega (arith, is.inputs_few))) (each_append IsName r c lines_named (register_named counted)))
      (each_append IsName o (v ++ n) (numbered_names 111 (length program.outputs) refl (omega (arith, is.outputs_few))) (each_append IsName v n values_named (wires_named_if counted))))

  top_spelled : HasSpelling top
  top_spelled = record {
    module_name = array_name;
    names = All-from_recursion IsName (all_names top) names_spelled;
    widths = for_all (λ (p : Port). (1 ≤ p.width.bits) × (p.width.bits ≤ 64)) (λ p. (p.width.least, p.width.most)) (declarations top);
    drive_literals = for_all (λ (d : Drive). EachOperand HasWidth d.operation) (λ d. each_width d.operation) top.drives;
    step_literals = for_all (λ (s : Step). HasWidth s.next) (λ s. has_width s.next) top.steps;
    widenings = top_bits counter program is ok shapes are few;
  }

  -- ---- the kinds

  each_kind : (P : CellKind → Type 0) (n : ℕ) (ss : List (List LaneShape)) → ((i : ℕ) (s : List LaneShape) → slice_get ss i ≡ Some s → (j : ℕ) → n + i ≡ j → P (kind_by j s)) → AllByRecursion P (kinds_by n ss)
  each_kind P n [] each = tt
  each_kind P n (s ∷ ss) each = (each 0 s refl n (omega arith), each_kind P (n + 1) ss (λ i t there j at. each (suc i) t there j (omega (arith, at))))

  kinds_have : (P : CellKind → Type 0) → ((j : ℕ) (s : List LaneShape) → IsKindShape s → IsFewKind s → j < 10 ^ 64 → P (kind_by j s)) → All P kinds
  kinds_have P f = All-from_recursion P kinds (each_kind P 0 shapes (λ i s there j at.
      let below = below_length shapes i s there in
      f j s (each_at IsKindShape shapes i s are.each there) (each_at IsFewKind shapes i s few there) (omega (arith, below, many, at))))

  outputs_many : (k : ℕ) (s : List LaneShape) → length (lanes_outputs k s) ≡ length s
  outputs_many k [] = refl
  outputs_many k (lane ∷ s) = ap suc (outputs_many (k + 1) s)

  names_of_kinds : (n : ℕ) (ss : List (List LaneShape)) → map (λ (k : CellKind). k.name) (kinds_by n ss) ≡ map (λ k. 107 ∷ decimal k) (range_with_len n (length ss))
  names_of_kinds n [] = refl
  names_of_kinds n (s ∷ ss) = ap (λ (ys : List (List ℕ)). kind_name n ∷ ys) (names_of_kinds (n + 1) ss)

  modules_named : AreDistinct (map (λ (k : CellKind). k.name) kinds ++ codes "array" ∷ [])
  modules_named =
      let groups = group 107 (map (λ k. 107 ∷ decimal k) (range_with_len 0 (length shapes))) ∷ group 1543 (codes "array" ∷ []) ∷ [] in
      subst (λ (ys : List (List ℕ)). AreDistinct (ys ++ codes "array" ∷ [])) (sym (names_of_kinds 0 shapes))
      (joined_distinct groups (apart_by groups refl) (number_group 107 (length shapes) many, (record { distinct = one_distinct (codes "array"); sorts = (refl, tt) }, tt)))

  pub sound_modules : (l : Listing) → HasSoundModules (record { listing = l; kinds = kinds; top = top; instances = instances })
  sound_modules l = record {
    named_once = modules_named;
    kinds = kinds_have (λ k. IsSound (kind_module k)) (λ j s is_kind is_few small. kind_sound j s is_kind is_few);
    top = top_sound counter program is ok shapes are few;
  }

  instances_spelled : AllByRecursion IsName (instance_names instances)
  instances_spelled =
      let placed = cells_placed counter program is shapes are few in
      let total = instances_many counter program is shapes are few 0 program.cells program.kinds placed in
      subst (AllByRecursion IsName) (sym (names_of_instances kinds 0 instances (named counter program is shapes are few 0 program.cells program.kinds placed)))
      (numbered_names 117 (length instances) refl (omega (arith, total, is.cells_few)))

  -- The plan of a program is sound with each listing of its ports and wires.
  pub plan_sound : (l : Listing) → All (MayBeListed (names_of top.inputs)) l.ins → All (MayBeListed (wire_names top)) l.ats → IsSoundPlan (record { listing = l; kinds = kinds; top = top; instances = instances })
  plan_sound l ins ats = record {
    modules = sound_modules l;
    kinds_spelled = kinds_have (λ k. HasSpelling (kind_module k)) (λ j s is_kind is_few small. kind_spelled j s is_kind is_few small);
    kinds_put = kinds_have (λ k. 1 ≤ length k.outputs) (λ j s is_kind is_few small. let e = outputs_many 0 s in omega (arith, e, is_kind.some));
    top_spelled = top_spelled;
    instance_names = All-from_recursion IsName (instance_names instances) instances_spelled;
    instance_literals = for_all (λ (i : Instance). All HasWidth i.inputs) (λ i. for_all HasWidth has_width i.inputs) instances;
    ins = ins;
    ats = ats;
  }
