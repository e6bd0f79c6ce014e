-- Sort by sort a kind has just as many operators as its works.
use Rattle.std.proofs.Common.{◌≡◌, ℕ, ◌+◌, ◌-◌, List, [], ◌∷◌, ◌++◌, length, refl, arith, Bool, true, false, if◌then◌else◌}
use Rattle.std.specs.Prelude.{nat_lt, nat_eq}
use Rattle.av_base.specs.declared.width.Width.{Width}
use Rattle.av_tree.specs.declared.relation.Relation.{Relation}
use Rattle.av_tree.specs.declared.relation.Relation.TheVariants as relation
use Rattle.av_tree.specs.declared.sign.Sign.{Sign}
use Rattle.av_tree.specs.declared.sign.Sign.TheVariants as sign
use Rattle.av_net.specs.declared.operation.Symbol.TheVariants.{Less}
use Rattle.av_net.specs.declared.operation.Operand.{Operand}
use Rattle.av_net.specs.declared.operation.Operand.TheVariants.{Name, Literal}
use Rattle.av_net.specs.declared.netlist.Drive.{Drive}
use Rattle.av_net.specs.declared.operation.Operation.{Operation}
use Rattle.av_net.specs.declared.operation.Operation.TheVariants.{Plain, Binary, Signed, Choose, Part, Widen}
use Rattle.av_flat.specs.Trees.{Tree, reference, constant, binary, choice, pick}
use Rattle.av_kinds.specs.declared.gates.LaneGate.{LaneGate}
use Rattle.av_kinds.specs.Names.{inner_name, Naming}
use Rattle.av_kinds.specs.inner.Gates.{gate, Built, built, Named, named, named_by, drives_from}
use Rattle.av_kinds.specs.Programs.{site_count}
use Rattle.av_kinds.specs.Tops.{one_bit}
use Rattle.av_kinds.specs.inner.Trees.{joined, comparison, tree_built}
use Rattle.av_kinds.specs.declared.choice.Guard.{Guard}
use Rattle.av_kinds.specs.declared.choice.Guard.TheVariants.{UpTo, Within}
use Rattle.av_kinds.specs.declared.choice.Arm.{Arm}
use Rattle.av_kinds.specs.declared.choice.Tap.{Tap}
use Rattle.av_kinds.specs.inner.Choices.{guard_built, either_built, options_built, tap_built, fitting, fit_built}
use Rattle.av_kinds.specs.inner.Cells as cells
use Rattle.av_kinds.specs.inner.Cells.{Datapath, GuardedDatapath, taps_built, operand_at, over_taps, place_built, piece_built, datapath_built, mode_built, modes_built}
use Rattle.av_kinds.specs.inner.Shapes.{ModeShape, LaneShape}
use Rattle.av_kinds.specs.inner.Interfaces.{PortCounts, past_tested, past_modes, tested_of, last_of}
use Rattle.av_kinds.specs.inner.Kinds.{lane_built, output_of, lanes_drives}
use Rattle.av_kinds.specs.inner.Weights as weights
use Rattle.av_kinds.specs.inner.Weights.{Weights, of_operation, of_gates, of_sign, of_tree, of_lanes, of_drives}

gates_of : (k : Weights) (xs ys : List LaneGate) → of_gates k (xs ++ ys) ≡ of_gates k xs + of_gates k ys
gates_of k [] ys = omega arith
gates_of k (x ∷ xs) ys = omega (arith, gates_of k xs ys)

-- what is built: its wires and its root
abbrev pub of_built : Weights → Built → ℕ
of_built k b = of_gates k b.gates + of_operation k b.root

named_of : (k : Weights) (name : Naming) (n : ℕ) (w : Width) (gates : List LaneGate) (root : Operation) → of_gates k (named_by name n w gates root).gates ≡ of_gates k gates + of_operation k root
named_of k name n w gates (Plain a) = omega arith
named_of k name n w gates (Binary a s b) = omega (arith, gates_of k gates (gate w (Binary a s b) ∷ []))
named_of k name n w gates (Signed a s b) = omega (arith, gates_of k gates (gate w (Signed a s b) ∷ []))
named_of k name n w gates (Choose c a b) = omega (arith, gates_of k gates (gate w (Choose c a b) ∷ []))
named_of k name n w gates (Part a high low) = omega (arith, gates_of k gates (gate w (Part a high low) ∷ []))
named_of k name n w gates (Widen a by) = omega (arith, gates_of k gates (gate w (Widen a by) ∷ []))

joined_of : (k : Weights) (name : Naming) (n : ℕ) (g : Sign) (gates : List LaneGate) (a b : Operand) → of_built k (joined name n g gates a b) ≡ of_gates k gates + of_sign k g
joined_of k name n sign.Add gates a b = omega arith
joined_of k name n sign.Sub gates a b = omega arith
joined_of k name n sign.Mul gates a b = omega arith
joined_of k name n sign.Min gates a b = omega (arith, gates_of k gates (gate one_bit (Signed b Less a) ∷ []))
joined_of k name n sign.Max gates a b = omega (arith, gates_of k gates (gate one_bit (Signed a Less b) ∷ []))

comparison_of : (k : Weights) (c : Relation) (a b : Operand) → of_operation k (comparison c a b) ≡ k.tests
comparison_of k relation.Less a b = refl
comparison_of k relation.LessEqual a b = refl
comparison_of k relation.Greater a b = refl
comparison_of k relation.GreaterEqual a b = refl
comparison_of k relation.Equal a b = refl
comparison_of k relation.Unequal a b = refl

pub tree_of : (k : Weights) (name : Naming) (w : Width) (taps : ℕ → Operand) (n s : ℕ) (t : Tree) → of_built k (tree_built name w taps n s t) ≡ of_tree k t
tree_of k name w taps n s (reference place m) = omega arith
tree_of k name w taps n s (constant x) = omega arith
tree_of k name w taps n s (binary g l r) =
    let ta = tree_built name w taps n s l in
    let a = named name n w ta in
    let m = n + length a.gates in
    let tb = tree_built name w taps m (s + site_count l) r in
    let b = named name m w tb in
    omega (
      arith,
      tree_of k name w taps n s l,
      tree_of k name w taps m (s + site_count l) r,
      named_of k name n w ta.gates ta.root,
      named_of k name m w tb.gates tb.root,
      gates_of k a.gates b.gates,
      joined_of k name n g (a.gates ++ b.gates) a.operand b.operand,
    )
tree_of k name w taps n s (choice l c r x y) =
    let ta = tree_built name w taps n s l in
    let a = named name n w ta in
    let nb = n + length a.gates in
    let sb = s + site_count l in
    let tb = tree_built name w taps nb sb r in
    let b = named name nb w tb in
    let nx = nb + length b.gates in
    let sx = sb + site_count r in
    let td = tree_built name w taps nx sx x in
    let d = named name nx w td in
    let ny = nx + length d.gates in
    let sy = sx + site_count x in
    let te = tree_built name w taps ny sy y in
    let e = named name ny w te in
    let all = a.gates ++ (b.gates ++ (d.gates ++ e.gates)) in
    omega (
      arith,
      tree_of k name w taps n s l,
      tree_of k name w taps nb sb r,
      tree_of k name w taps nx sx x,
      tree_of k name w taps ny sy y,
      named_of k name n w ta.gates ta.root,
      named_of k name nb w tb.gates tb.root,
      named_of k name nx w td.gates td.root,
      named_of k name ny w te.gates te.root,
      gates_of k a.gates (b.gates ++ (d.gates ++ e.gates)),
      gates_of k b.gates (d.gates ++ e.gates),
      gates_of k d.gates e.gates,
      gates_of k all (gate one_bit (comparison c a.operand b.operand) ∷ []),
      comparison_of k c a.operand b.operand,
    )
tree_of k name w taps n s (pick place choices x) = omega arith
tree_of k name w taps n s _ = omega arith

-- choices have none
guard_of : (k : Weights) (name : Naming) (n : ℕ) (counter : Operand) (guard : Guard) → of_built k (guard_built name n counter guard) ≡ 0
guard_of k name n counter (UpTo last) = omega arith
guard_of k name n counter (Within first last) = omega arith

either_of : (k : Weights) (name : Naming) (n : ℕ) (counter : Operand) (guard : Guard) (first second : Named) → of_built k (either_built name n counter guard first second) ≡ of_gates k second.gates + of_gates k first.gates
either_of k name n counter guard first second =
    let m = n + length second.gates + length first.gates in
    let test = guard_built name m counter guard in
    let t = named name m one_bit test in
    omega (arith, guard_of k name m counter guard, named_of k name m one_bit test.gates test.root, gates_of k second.gates (first.gates ++ t.gates), gates_of k first.gates t.gates)

options_of : (k : Weights) (name : Naming) (w : Width) (counter : Operand) (n : ℕ) (otherwise : Operand) (options : List Arm) → of_built k (options_built name w counter n otherwise options) ≡ 0
options_of k name w counter n otherwise [] = omega arith
options_of k name w counter n otherwise (o ∷ options) =
    let rest = options_built name w counter n otherwise options in
    let second = named name n w rest in
    omega (arith, options_of k name w counter n otherwise options, named_of k name n w rest.gates rest.root, either_of k name n counter o.guard (record { gates = []; operand = o.operand }) second)

-- nor have words of another width
fitting_of : (k : Weights) (from to : ℕ) (a : Operand) → of_operation k (fitting from to a) ≡ 0
fitting_of k from to (Name name) = by_case (nat_lt from to)
  where
    by_case : (test : Bool) → of_operation k (if test then Widen name (to - from) else Part name (to - 1) 0) ≡ 0
    by_case true = refl
    by_case false = refl
fitting_of k from to (Literal width value) = refl

fit_of : (k : Weights) (name : Naming) (w : Width) (counter : Operand) (n : ℕ) (tap : Tap) → of_built k (fit_built name w counter n tap) ≡ 0
fit_of k name w counter n tap = by_case (nat_eq tap.width.bits w.bits)
  where
    b : Built
    b = tap_built name counter n tap

    a : Named
    a = named name n tap.width b

    by_case : (same : Bool) → of_built k (if same then b else built a.gates (fitting tap.width.bits w.bits a.operand)) ≡ 0
    by_case true = options_of k name tap.width counter n tap.otherwise tap.arms
    by_case false = omega (arith, options_of k name tap.width counter n tap.otherwise tap.arms, named_of k name n tap.width b.gates b.root, fitting_of k tap.width.bits w.bits a.operand)

taps_of : (k : Weights) (name : Naming) (w : Width) (counter : Operand) (n : ℕ) (taps : List Tap) → of_gates k (taps_built name w counter n taps).gates ≡ 0
taps_of k name w counter n [] = omega arith
taps_of k name w counter n (tap ∷ taps) =
    let b = fit_built name w counter n tap in
    let t = named name n w b in
    let rest = taps_built name w counter (n + length t.gates) taps in
    omega (arith, fit_of k name w counter n tap, named_of k name n w b.gates b.root, taps_of k name w counter (n + length t.gates) taps, gates_of k t.gates rest.gates)

over_taps_have : (k : Weights) (name : Naming) (w : Width) (counter : Operand) (n : ℕ) (taps : List Tap) (t : Tree) → of_built k (over_taps name w n (taps_built name w counter n taps) t) ≡ of_tree k t
over_taps_have k name w counter n taps t =
    let taken = taps_built name w counter n taps in
    let m = n + length taken.gates in
    let root = tree_built name w (operand_at w taken.operands) m 0 t in
    omega (arith, taps_of k name w counter n taps, tree_of k name w (operand_at w taken.operands) m 0 t, gates_of k taken.gates root.gates)

place_has : (k : Weights) (name : Naming) (w : Width) (counter : Operand) (n : ℕ) (taps : List Tap) → of_built k (place_built name w counter n taps) ≡ 0
place_has k name w counter n [] = omega arith
place_has k name w counter n (tap ∷ taps) = fit_of k name w counter n tap

piece_has : (k : Weights) (name : Naming) (w : Width) (counter : Operand) (n : ℕ) (taps : List Tap) (t : Tree) → of_built k (piece_built name w counter n taps t) ≡ of_tree k t
piece_has k name w counter n taps (reference place m) = place_has k name w counter n taps
piece_has k name w counter n taps (pick place choices x) = place_has k name w counter n taps
piece_has k name w counter n taps t = over_taps_have k name w counter n taps t

datapath_has : (k : Weights) (name : Naming) (w : Width) (counter : Operand) (n : ℕ) (datapath : Datapath) → of_built k (datapath_built name w counter n datapath) ≡ of_tree k datapath.tree
datapath_has k name w counter n datapath = piece_has k name w counter n datapath.taps datapath.tree

abbrev of_datapaths : Weights → List GuardedDatapath → ℕ
of_datapaths k [] = 0
of_datapaths k (t ∷ modes) = of_tree k t.datapath.tree + of_datapaths k modes

mode_has : (k : Weights) (name : Naming) (w : Width) (counter : Operand) (n : ℕ) (guards : List Guard) (first second : Named) → of_built k (mode_built name w counter n guards first second) ≡ of_gates k second.gates + of_gates k first.gates
mode_has k name w counter n guards first second =
    let options = cells.options_of first.operand guards in
    let root = options_built name w counter (n + length second.gates + length first.gates) second.operand options in
    omega (arith, options_of k name w counter (n + length second.gates + length first.gates) second.operand options, gates_of k second.gates (first.gates ++ root.gates), gates_of k first.gates root.gates)

modes_have : (k : Weights) (name : Naming) (w : Width) (counter : Operand) (n : ℕ) (otherwise : Datapath) (modes : List GuardedDatapath) → of_built k (modes_built name w counter n otherwise modes) ≡ of_tree k otherwise.tree + of_datapaths k modes
modes_have k name w counter n otherwise [] = omega (arith, datapath_has k name w counter n otherwise)
modes_have k name w counter n otherwise (t ∷ modes) =
    let rest = modes_built name w counter n otherwise modes in
    let second = named name n w rest in
    let m = n + length second.gates in
    let own = datapath_built name w counter m t.datapath in
    let first = named name m w own in
    omega (arith, modes_have k name w counter n otherwise modes, datapath_has k name w counter m t.datapath, named_of k name n w rest.gates rest.root, named_of k name m w own.gates own.root, mode_has k name w counter n t.guards first second)

shapes_have : (k : Weights) (at : PortCounts) (shapes : List ModeShape) → of_tree k (last_of at shapes).tree + of_datapaths k (tested_of at shapes) ≡ weights.of_modes k shapes
shapes_have k at [] = omega arith
shapes_have k at (f ∷ []) = omega arith
shapes_have k at (f ∷ g ∷ shapes) = omega (arith, shapes_have k (past_tested at f) (g ∷ shapes))

lane_has : (k : Weights) (counter : Operand) (at : PortCounts) (n : ℕ) (lane : LaneShape) → of_built k (lane_built counter at n lane) ≡ weights.of_modes k lane.modes
lane_has k counter at n lane = omega (arith, modes_have k (inner_name n) lane.width counter 0 (last_of at lane.modes) (tested_of at lane.modes), shapes_have k at lane.modes)

drives_of : (k : Weights) (name : Naming) (n : ℕ) (gates : List LaneGate) → of_drives k (drives_from name n gates) ≡ of_gates k gates
drives_of k name n [] = refl
drives_of k name n (g ∷ gates) = omega (arith, drives_of k name (n + 1) gates)

joined_drives : (k : Weights) (xs ys : List Drive) → of_drives k (xs ++ ys) ≡ of_drives k xs + of_drives k ys
joined_drives k [] ys = omega arith
joined_drives k (x ∷ xs) ys = omega (arith, joined_drives k xs ys)

-- The drives of a kind have, sort by sort, just as many operators as its works: selections, tests of the counter and words of another width have none.
pub kind_has : (k : Weights) (counter : Operand) (at : PortCounts) (n i : ℕ) (shapes : List LaneShape) → of_drives k (lanes_drives counter at n i shapes) ≡ of_lanes k shapes
kind_has k counter at n i [] = refl
kind_has k counter at n i (lane ∷ lanes) =
    let b = lane_built counter at n lane in
    let own = drives_from (inner_name n) 0 b.gates in
    let last : Drive = record { target = output_of i lanes; operation = b.root } in
    let more = lanes_drives counter (past_modes at lane.modes) (n + length b.gates) (i + 1) lanes in
    omega (arith, joined_drives k own (last ∷ more), drives_of k (inner_name n) 0 b.gates, lane_has k counter at n lane, kind_has k counter (past_modes at lane.modes) (n + length b.gates) (i + 1) lanes)
