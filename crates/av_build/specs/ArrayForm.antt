-- Flat modules in array form: wires and registers belong to cells by their names, a wire reads its own cell, ports of its cell, the counter
-- and registers, and a cell has no more operators than its pieces (own form, after the usual picture of a systolic array: H. T. Kung 1982).
use Rattle.std.specs.Prelude.{◌≡◌, ◌≢◌, ℕ, ◌<◌, ◌≤◌, ◌⊎◌, List, All, AllPairs, Contains, Some, slice_get, length, map, sum}
use Rattle.av_net.specs.declared.operation.Operand.{Operand}
use Rattle.av_net.specs.declared.operation.Operand.TheVariants.{Name, Literal}
use Rattle.av_net.specs.declared.operation.Operation.TheVariants.{Plain}
use Rattle.av_net.specs.declared.netlist.Port.{Port}
use Rattle.av_net.specs.declared.netlist.Drive.{Drive}
use Rattle.av_net.specs.declared.netlist.Step.{Step}
use Rattle.av_net.specs.declared.netlist.Module.{Module}
use Rattle.av_net.specs.Rows.{operands_of}
use Rattle.av_flat.specs.Trees.{Piece, FlatSystem}
use Rattle.av_space.specs.declared.cells.Cell.{Cell}
use Rattle.av_space.specs.declared.cells.InPort.{InPort}
use Rattle.av_space.specs.declared.cells.Link.{Link}
use Rattle.av_space.specs.Coordinates.{Placing}
use Rattle.av_space.specs.Ports.{output_cells}
use Rattle.av_space.specs.Quantities.{IsUse}
use Rattle.av_kinds.specs.declared.counter.Counter.{Counter}
use Rattle.av_kinds.specs.Counters.{counter_name}
use Rattle.av_kinds.specs.Names.{input_name, output_name, value_name}
use Rattle.av_kinds.specs.Sorts.{Sort, rest, AreOfSorts, how_many, operators}
use Rattle.av_kinds.specs.Forms.{IsWire, IsRegister, MayTake, IsCounterWire, HasCounter, HasNoCounter, AreDrivesOf}

-- ---- what is read

-- an input port of cell p
abbrev pub IsPortOf : List InPort → ℕ → List ℕ → Type 0
IsPortOf ports p name = (k : ℕ) × (port : InPort) × (slice_get ports k ≡ Some port) × (port.cell ≡ p) × (name ≡ input_name k)

-- what a wire of cell p may name: wires and ports of the cell, the counter, and registers
abbrev pub MayName : Counter → List InPort → ℕ → Operand → Type 0
MayName counter ports p (Literal width value) = Unit {0}
MayName counter ports p (Name name) = IsWire p name ⊎ IsPortOf ports p name ⊎ (name ≡ counter_name counter) ⊎ ((q : ℕ) × IsRegister q name)

-- of registers of other cells, those alone from which it has a link
abbrev pub MayLink : List Cell → List Link → ℕ → Operand → Type 0
MayLink cells links p (Literal width value) = Unit {0}
MayLink cells links p (Name name) = (q : ℕ) → q < length cells → IsRegister q name → q ≢ p → (l : Link) × Contains links l × (l.consumer ≡ p) × (l.producer ≡ q)

-- ---- operators: `min`, `max` and `if` are comparisons; the fold of a chain is an operator of its piece

-- the pieces with a computation on the cell p, by their numbers, each once
pub record ArePiecesOn (s : FlatSystem) (placings : List Placing) (cells : List Cell) (p : ℕ) (pieces : List Piece) : Type 0 where
  pub numbers : List ℕ
  pub paired : length numbers ≡ length pieces
  pub each : (i k : ℕ) (piece : Piece) → slice_get numbers i ≡ Some k → slice_get pieces i ≡ Some piece → IsUse s placings cells (record { cell = p; piece = k }) piece
  pub all : (k : ℕ) (piece : Piece) → IsUse s placings cells (record { cell = p; piece = k }) piece → Contains numbers k
  pub once : AllPairs (λ a b. a ≢ b) numbers

-- sort by sort the cell p has no more drives than its pieces have operators
pub record HasFewOperators (counter : Counter) (s : FlatSystem) (placings : List Placing) (cells : List Cell) (m : Module) (p : ℕ) : Type 0 where
  pub pieces : List Piece
  pub are_pieces : ArePiecesOn s placings cells p pieces
  pub drives : List Drive
  pub are_drives : AreDrivesOf p m.drives drives
  pub sorts : List Sort
  pub are_sorts : AreOfSorts (counter_name counter) m.drives drives sorts
  pub few : (k : Sort) → k ≢ rest → how_many k sorts ≤ sum (map (λ (q : Piece). operators k q.tree) pieces)

-- ---- the whole

pub record IsArrayForm (counter : Counter) (s : FlatSystem) (placings : List Placing) (cells : List Cell) (ports : List InPort) (m : Module) : Type 0 where
  pub wires : All (λ (w : Port). ((p : ℕ) × (p < length cells) × IsWire p w.name) ⊎ IsCounterWire counter w.name) m.wires
  pub registers : All (λ (r : Port). ((p : ℕ) × (p < length cells) × IsRegister p r.name) ⊎ (r.name ≡ counter_name counter)) m.registers
  pub reads : All (λ (d : Drive). (p : ℕ) → p < length cells → IsWire p d.target → All (MayName counter ports p) (operands_of d.operation)) m.drives
  pub takes : All (λ (t : Step). (p : ℕ) → p < length cells → IsRegister p t.register → MayTake p t.next) m.steps
  pub outputs : (k p : ℕ) (d : Drive) → slice_get (output_cells s cells) k ≡ Some p → Contains m.drives d → d.target ≡ output_name k → d.operation ≡ Plain (Name (value_name p))
  pub counter_is : HasCounter counter m ⊎ HasNoCounter counter m
  pub operators_are : (p : ℕ) → p < length cells → HasFewOperators counter s placings cells m p

-- each register of another cell that a wire names has a link
abbrev pub IsLinked : List Cell → List Link → Module → Type 0
IsLinked cells links m = All (λ (d : Drive). (p : ℕ) → p < length cells → IsWire p d.target → All (MayLink cells links p) (operands_of d.operation)) m.drives
