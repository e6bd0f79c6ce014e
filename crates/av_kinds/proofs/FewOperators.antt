-- Sort by sort the drives of an instance are no more than the operators in the works of its cell's lanes.
use Rattle.std.proofs.Common.{◌≡◌, ◌≢◌, ℕ, zero, suc, ◌+◌, ◌≤◌, List, [], ◌∷◌, ◌++◌, drop, map, refl, arith, ◌∙◌, ap}
use Rattle.std.specs.Prelude.{sum}
use Rattle.std.proofs.lemmas.List.Sums.{sum_by-cons}
use Rattle.av_tree.specs.declared.sign.Sign.{Sign}
use Rattle.av_tree.specs.declared.sign.Sign.TheVariants as sign
use Rattle.av_flat.specs.Trees.{Tree, binary, choice}
use Rattle.av_net.specs.declared.operation.Symbol.{Symbol}
use Rattle.av_net.specs.declared.operation.Symbol.TheVariants.{Add, Sub, Mul, And, Or, Equal, Unequal, Less, LessEqual, Greater, GreaterEqual}
use Rattle.av_net.specs.declared.operation.Operand.{Operand}
use Rattle.av_net.specs.declared.operation.Operation.{Operation}
use Rattle.av_net.specs.declared.operation.Operation.TheVariants.{Plain, Binary, Signed, Choose, Part, Widen}
use Rattle.av_net.specs.declared.netlist.Port.{Port}
use Rattle.av_net.specs.declared.netlist.Drive.{Drive}
use Rattle.av_net.specs.declared.plan.CellKind.{CellKind}
use Rattle.av_net.specs.declared.plan.Instance.{Instance}
use Rattle.av_net.specs.Flat.{part_drive, input_drives, output_drives, part_drives}
use Rattle.av_kinds.specs.Programs.{Mode, mode_at, Lane}
use Rattle.av_kinds.specs.Sorts.{Sort, plus, minus, times, test, rest, is_same, how_many, sort_of, operators, lanes_operators}
use Rattle.av_kinds.specs.inner.Shapes.{ModeShape, LaneShape, SuitModes, SuitLanes}
use Rattle.av_kinds.specs.inner.Ordered.{AreAscending, IsOrdered}
use Rattle.av_kinds.specs.inner.Weights as weights
use Rattle.av_kinds.specs.inner.Weights.{Weights, of_symbol, of_operation, of_sign, of_tree, of_lanes, of_drives}
use Rattle.av_kinds.proofs.SortedGates.{symbol_sort, sort_in, same_sort}

-- ---- one sort weighs 1, and the others nothing

abbrev pub unit : Sort → Weights
unit plus = record { adds = 1; subs = 0; muls = 0; tests = 0 }
unit minus = record { adds = 0; subs = 1; muls = 0; tests = 0 }
unit times = record { adds = 0; subs = 0; muls = 1; tests = 0 }
unit test = record { adds = 0; subs = 0; muls = 0; tests = 1 }
unit rest = record { adds = 0; subs = 0; muls = 0; tests = 0 }

adds_of : (k : Sort) → is_same k plus ≡ (unit k).adds
adds_of plus = refl
adds_of minus = refl
adds_of times = refl
adds_of test = refl
adds_of rest = refl

subs_of : (k : Sort) → is_same k minus ≡ (unit k).subs
subs_of plus = refl
subs_of minus = refl
subs_of times = refl
subs_of test = refl
subs_of rest = refl

muls_of : (k : Sort) → is_same k times ≡ (unit k).muls
muls_of plus = refl
muls_of minus = refl
muls_of times = refl
muls_of test = refl
muls_of rest = refl

tests_of : (k : Sort) → is_same k test ≡ (unit k).tests
tests_of plus = refl
tests_of minus = refl
tests_of times = refl
tests_of test = refl
tests_of rest = refl

none_of : (k : Sort) → k ≢ rest → is_same k rest ≡ 0
none_of plus h = refl
none_of minus h = refl
none_of times h = refl
none_of test h = refl
none_of rest h = absurd (h refl)

symbol_has : (k : Sort) → k ≢ rest → (s : Symbol) → is_same k (symbol_sort s) ≡ of_symbol (unit k) s
symbol_has k h Add = adds_of k
symbol_has k h Sub = subs_of k
symbol_has k h Mul = muls_of k
symbol_has k h And = none_of k h
symbol_has k h Or = none_of k h
symbol_has k h Equal = tests_of k
symbol_has k h Unequal = tests_of k
symbol_has k h Less = none_of k h
symbol_has k h LessEqual = none_of k h
symbol_has k h Greater = none_of k h
symbol_has k h GreaterEqual = none_of k h

operation_has : (k : Sort) → k ≢ rest → (o : Operation) → is_same k (sort_in o) ≡ of_operation (unit k) o
operation_has k h (Plain a) = none_of k h
operation_has k h (Binary a s b) = symbol_has k h s
operation_has k h (Signed a s b) = tests_of k
operation_has k h (Choose c a b) = none_of k h
operation_has k h (Part x high low) = none_of k h
operation_has k h (Widen x by) = none_of k h

sign_has : (k : Sort) (g : Sign) → is_same k (sort_of g) ≡ of_sign (unit k) g
sign_has k sign.Add = adds_of k
sign_has k sign.Sub = subs_of k
sign_has k sign.Mul = muls_of k
sign_has k sign.Min = tests_of k
sign_has k sign.Max = tests_of k

tree_has : (k : Sort) (t : Tree) → operators k t ≡ of_tree (unit k) t
tree_has k (binary g l r) = omega (arith, sign_has k g, tree_has k l, tree_has k r)
tree_has k (choice l c r x y) = omega (arith, tests_of k, tree_has k l, tree_has k r, tree_has k x, tree_has k y)
tree_has k _ = refl

-- ---- the drives of an instance

sum_more : {X : Type 0} (f : X → ℕ) (x : X) (xs : List X) → sum (map f (x ∷ xs)) ≡ f x + sum (map f xs)
sum_more f x xs = sum_by-cons (λ n. n) (f x) (map f xs)

abbrev pub sorts_in : List Drive → List Sort
sorts_in ds = map (λ (d : Drive). sort_in d.operation) ds

sorts_join : (k : Sort) (xs ys : List Drive) → how_many k (sorts_in (xs ++ ys)) ≡ how_many k (sorts_in xs) + how_many k (sorts_in ys)
sorts_join k [] ys = omega arith
sorts_join k (x ∷ xs) ys = omega (arith, sum_more (is_same k) (sort_in x.operation) (sorts_in (xs ++ ys)), sum_more (is_same k) (sort_in x.operation) (sorts_in xs), sorts_join k xs ys)

inputs_none : (k : Sort) → k ≢ rest → (u : List ℕ) (ports : List Port) (operands : List Operand) → how_many k (sorts_in (input_drives u ports operands)) ≡ 0
inputs_none k h u [] operands = refl
inputs_none k h u (p ∷ ports) [] = refl
inputs_none k h u (p ∷ ports) (a ∷ operands) = omega (arith, sum_more (is_same k) rest (sorts_in (input_drives u ports operands)), none_of k h, inputs_none k h u ports operands)

outputs_none : (k : Sort) → k ≢ rest → (u : List ℕ) (ports : List Port) (names : List (List ℕ)) → how_many k (sorts_in (output_drives u ports names)) ≡ 0
outputs_none k h u [] names = refl
outputs_none k h u (p ∷ ports) [] = refl
outputs_none k h u (p ∷ ports) (x ∷ names) = omega (arith, sum_more (is_same k) rest (sorts_in (output_drives u ports names)), none_of k h, outputs_none k h u ports names)

inner_has : (k : Sort) → k ≢ rest → (u : List ℕ) (ds : List Drive) → how_many k (sorts_in (map (part_drive u) ds)) ≡ of_drives (unit k) ds
inner_has k h u [] = refl
inner_has k h u (d ∷ ds) =
    omega (arith, sum_more (is_same k) (sort_in (part_drive u d).operation) (sorts_in (map (part_drive u) ds)), ap (is_same k) (same_sort u d.operation), operation_has k h d.operation, inner_has k h u ds)

pub instance_has : (k : Sort) → k ≢ rest → (kind : CellKind) (i : Instance) → how_many k (sorts_in (part_drives kind i)) ≡ of_drives (unit k) kind.drives
instance_has k h kind i =
    let first = input_drives i.name kind.inputs i.inputs in
    let inner = map (part_drive i.name) kind.drives in
    let last = output_drives i.name kind.outputs i.outputs in
    omega (arith, sorts_join k (first ++ inner) last, sorts_join k first inner, inputs_none k h i.name kind.inputs i.inputs, inner_has k h i.name kind.drives, outputs_none k h i.name kind.outputs i.outputs)

-- ---- the modes of a shape stand among those of the lane, each once

abbrev works : Sort → List Mode → ℕ
works k modes = sum (map (λ (m : Mode). operators k m.work.tree) modes)

works_more : (k : Sort) (m : Mode) (modes : List Mode) → works k (m ∷ modes) ≡ operators k m.work.tree + works k modes
works_more k m modes = sum_more (λ (n : Mode). operators k n.work.tree) m modes

at_number : (k : Sort) (modes : List Mode) (n : ℕ) → operators k (mode_at modes n).work.tree + works k (drop (suc n) modes) ≤ works k (drop n modes)
at_number k [] zero = omega arith
at_number k [] (suc n) = omega arith
at_number k (m ∷ modes) zero = omega (arith, works_more k m modes)
at_number k (m ∷ modes) (suc n) = at_number k modes n

from_number : (k : Sort) (modes : List Mode) (a n : ℕ) → a ≤ n → works k (drop n modes) ≤ works k (drop a modes)
from_number k [] zero zero le = omega arith
from_number k [] zero (suc n) le = omega arith
from_number k [] (suc a) zero le = absurd (omega (arith, le))
from_number k [] (suc a) (suc n) le = omega arith
from_number k (m ∷ modes) zero zero le = omega arith
from_number k (m ∷ modes) zero (suc n) le = omega (arith, works_more k m modes, from_number k modes zero n (omega arith))
from_number k (m ∷ modes) (suc a) zero le = absurd (omega (arith, le))
from_number k (m ∷ modes) (suc a) (suc n) le = from_number k modes a n (omega (arith, le))

modes_weigh : (k : Sort) (a : ℕ) (shapes : List ModeShape) (modes : List Mode) → AreAscending a shapes → SuitModes shapes modes → weights.of_modes (unit k) shapes ≤ works k (drop a modes)
modes_weigh k a [] modes ordered suit = omega arith
modes_weigh k a (f ∷ shapes) modes ordered suit =
    let tree = ap (operators k) suit.0.tree ∙ tree_has k f.tree in
    omega (arith, tree, modes_weigh k (suc f.number) shapes modes ordered.1 suit.1, at_number k modes f.number, from_number k modes a f.number ordered.0)

pub lanes_weigh : (k : Sort) (shapes : List LaneShape) (lanes : List Lane) → IsOrdered shapes → SuitLanes shapes lanes → of_lanes (unit k) shapes ≤ lanes_operators k lanes
lanes_weigh k [] [] ordered suit = omega arith
lanes_weigh k (s ∷ shapes) (lane ∷ lanes) ordered suit =
    omega (arith, sum_more (λ (l : Lane). works k l.modes) lane lanes, modes_weigh k 0 s.modes lane.modes ordered.0 suit.0.modes, lanes_weigh k shapes lanes ordered.1 suit.1)
lanes_weigh k [] (lane ∷ lanes) ordered suit = absurd suit
lanes_weigh k (s ∷ shapes) [] ordered suit = absurd suit
