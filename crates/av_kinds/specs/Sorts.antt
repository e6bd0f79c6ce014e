-- Sorts of drives in the flat module of an array: an operator, a comparison, or what chooses by the counter; and how many operators of a sort a
-- tree has (own form, after the usual picture of a systolic array: H. T. Kung 1982). The counter is given by its name.
use Rattle.std.specs.Prelude.{◌≡◌, ℕ, ◌+◌, ◌⊎◌, List, [], ◌∷◌, Contains, map, sum}
use Rattle.av_tree.specs.declared.sign.Sign.{Sign}
use Rattle.av_tree.specs.declared.sign.Sign.TheVariants as sign
use Rattle.av_net.specs.declared.operation.Symbol.{Symbol}
use Rattle.av_net.specs.declared.operation.Symbol.TheVariants.{Add, Sub, Mul, And, Or, Equal, Unequal, Less, LessEqual, Greater, GreaterEqual}
use Rattle.av_net.specs.declared.operation.Operand.{Operand}
use Rattle.av_net.specs.declared.operation.Operand.TheVariants.{Name, Literal}
use Rattle.av_net.specs.declared.operation.Operation.{Operation}
use Rattle.av_net.specs.declared.operation.Operation.TheVariants.{Plain, Binary, Signed, Choose, Part, Widen}
use Rattle.av_net.specs.declared.netlist.Drive.{Drive}
use Rattle.av_net.specs.Flat.{part_name}
use Rattle.av_flat.specs.Trees.{Tree, binary, choice}
use Rattle.av_kinds.specs.Names.{instance_name}
use Rattle.av_kinds.specs.Programs.{Mode, Lane}

pub data Sort : Type 0 where
  plus : Sort
  minus : Sort
  times : Sort
  test : Sort
  rest : Sort

-- ---- the counter

-- a wire that the instance of the cell p brings, as `u0_v`
abbrev pub IsInstanceWire : ℕ → List ℕ → Type 0
IsInstanceWire p name = (own : List ℕ) × (name ≡ part_name (instance_name p) own)

-- the operand is the counter, or an input of an instance that the counter drives
abbrev pub IsCounted : List ℕ → List Drive → Operand → Type 0
IsCounted counter drives (Literal width value) = ⊥
IsCounted counter drives (Name name) =
    (name ≡ counter) ⊎ ((p : ℕ) × IsInstanceWire p name × ((d : Drive) × Contains drives d × (d.target ≡ name) × (d.operation ≡ Plain (Name counter))))

-- the counter stands among both
abbrev pub NamesCounter : List ℕ → List Drive → Operand → Operand → Type 0
NamesCounter counter drives a b = IsCounted counter drives a ⊎ IsCounted counter drives b

-- ---- the sort of a drive

pub data IsComparison : Symbol → Type 0 where
  equal : IsComparison Equal
  unequal : IsComparison Unequal
  less : IsComparison Less
  less_equal : IsComparison LessEqual
  greater : IsComparison Greater
  greater_equal : IsComparison GreaterEqual

pub data IsJoin : Symbol → Type 0 where
  both : IsJoin And
  either : IsJoin Or

-- the name is driven by a selection, a comparison of the counter, a join of two such names, or a copy of one
pub data IsControl (counter : List ℕ) (drives : List Drive) : List ℕ → Type 0 where
  selected : (d : Drive) (c a b : Operand) → Contains drives d → d.operation ≡ Choose c a b → IsControl counter drives d.target
  compared : (d : Drive) (a : Operand) (s : Symbol) (b : Operand) → Contains drives d → IsComparison s → NamesCounter counter drives a b → d.operation ≡ Binary a s b → IsControl counter drives d.target
  joined : (d : Drive) (a b : List ℕ) (s : Symbol) → Contains drives d → IsJoin s → d.operation ≡ Binary (Name a) s (Name b) → IsControl counter drives a → IsControl counter drives b → IsControl counter drives d.target
  copied : (d : Drive) (a : List ℕ) → Contains drives d → d.operation ≡ Plain (Name a) → IsControl counter drives a → IsControl counter drives d.target

-- an operator; a comparison without the counter; or one of the others: comparisons of the counter, selections, copies, part selects, widenings,
-- and joins of names that are driven by comparisons of the counter and selections
pub data IsOfSort (counter : List ℕ) (drives : List Drive) : Operation → Sort → Type 0 where
  adds : {a b : Operand} → IsOfSort counter drives (Binary a Add b) plus
  subtracts : {a b : Operand} → IsOfSort counter drives (Binary a Sub b) minus
  multiplies : {a b : Operand} → IsOfSort counter drives (Binary a Mul b) times
  compares : {a b : Operand} {s : Symbol} → IsComparison s → (NamesCounter counter drives a b → ⊥) → IsOfSort counter drives (Binary a s b) test
  compares_signed : {a b : Operand} {s : Symbol} → (NamesCounter counter drives a b → ⊥) → IsOfSort counter drives (Signed a s b) test
  counts : {a b : Operand} {s : Symbol} → IsComparison s → NamesCounter counter drives a b → IsOfSort counter drives (Binary a s b) rest
  counts_signed : {a b : Operand} {s : Symbol} → NamesCounter counter drives a b → IsOfSort counter drives (Signed a s b) rest
  joins : {a b : List ℕ} {s : Symbol} → IsJoin s → IsControl counter drives a → IsControl counter drives b → IsOfSort counter drives (Binary (Name a) s (Name b)) rest
  chooses : {c a b : Operand} → IsOfSort counter drives (Choose c a b) rest
  copies : {a : Operand} → IsOfSort counter drives (Plain a) rest
  selects_bits : {a : List ℕ} {high low : ℕ} → IsOfSort counter drives (Part a high low) rest
  widens : {a : List ℕ} {by : ℕ} → IsOfSort counter drives (Widen a by) rest

-- a sort for each of these drives of a module
pub data AreOfSorts (counter : List ℕ) (drives : List Drive) : List Drive → List Sort → Type 0 where
  ended : AreOfSorts counter drives [] []
  sorted : {d : Drive} {k : Sort} {ds : List Drive} {ks : List Sort} → IsOfSort counter drives d.operation k → AreOfSorts counter drives ds ks → AreOfSorts counter drives (d ∷ ds) (k ∷ ks)

-- ---- how many there are

abbrev pub is_same : Sort → Sort → ℕ
is_same plus plus = 1
is_same minus minus = 1
is_same times times = 1
is_same test test = 1
is_same rest rest = 1
is_same _ _ = 0

-- how often a sort stands among sorts
abbrev pub how_many : Sort → List Sort → ℕ
how_many k ks = sum (map (is_same k) ks)

-- a `min` or a `max` is one comparison
abbrev pub sort_of : Sign → Sort
sort_of sign.Add = plus
sort_of sign.Sub = minus
sort_of sign.Mul = times
sort_of sign.Min = test
sort_of sign.Max = test

-- and so is an `if`
abbrev pub operators : Sort → Tree → ℕ
operators k (binary g l r) = is_same k (sort_of g) + operators k l + operators k r
operators k (choice l c r x y) = is_same k test + operators k l + operators k r + operators k x + operators k y
operators k _ = 0

-- in the works of all modes of these lanes
abbrev pub lanes_operators : Sort → List Lane → ℕ
lanes_operators k lanes = sum (map (λ (lane : Lane). sum (map (λ (m : Mode). operators k m.work.tree) lane.modes)) lanes)
