-- The form of the flat module of a program: wires and registers belong to cells by their names; a wire reads its own cell, what brings words to
-- places of its cell's lanes, and the counter; and a cell has no more operators than the works of its lanes (own form, after the usual picture of
-- a systolic array: H. T. Kung 1982).
use Rattle.std.specs.Prelude.{◌≡◌, ◌≢◌, ℕ, ◌-◌, ◌<◌, ◌≤◌, ◌⊎◌, List, [], ◌∷◌, All, Contains, Some, slice_get, codes, length}
use Rattle.av_net.specs.declared.operation.Symbol.TheVariants.{Add, Equal}
use Rattle.av_net.specs.declared.operation.Operand.{Operand}
use Rattle.av_net.specs.declared.operation.Operand.TheVariants.{Name, Literal}
use Rattle.av_net.specs.declared.operation.Operation.{Operation}
use Rattle.av_net.specs.declared.operation.Operation.TheVariants.{Plain, Binary, Choose}
use Rattle.av_net.specs.declared.netlist.Port.{Port}
use Rattle.av_net.specs.declared.netlist.Drive.{Drive}
use Rattle.av_net.specs.declared.netlist.Step.{Step}
use Rattle.av_net.specs.declared.netlist.Module.{Module}
use Rattle.av_net.specs.declared.design.Listing.{Listing}
use Rattle.av_net.specs.declared.plan.Instance.{Instance}
use Rattle.av_net.specs.Names.{names_of, targets_of}
use Rattle.av_net.specs.Rows.{operands_of}
use Rattle.av_net.specs.Flat.{flat_module}
use Rattle.av_kinds.specs.declared.counter.Counter.{Counter}
use Rattle.av_kinds.specs.declared.counter.Counter.TheVariants.{Cycles, Phases}
use Rattle.av_kinds.specs.declared.planning.Modules.{Modules}
use Rattle.av_kinds.specs.declared.program.WordSource.{WordSource}
use Rattle.av_kinds.specs.declared.program.WordSource.TheVariants.{Input, Line}
use Rattle.av_kinds.specs.declared.program.Selection.{Selection}
use Rattle.av_kinds.specs.declared.program.ProgramSite.{ProgramSite}
use Rattle.av_kinds.specs.declared.program.CellLanes.{CellLanes}
use Rattle.av_kinds.specs.Programs.{Mode, Lane, Program, lanes_of}
use Rattle.av_kinds.specs.Names.{input_name, output_name, value_name, wire_name, register_name, instance_name, labels}
use Rattle.av_kinds.specs.Counters.{counter_width, counter_name, next_name, last_name, sum_name}
use Rattle.av_kinds.specs.Tops.{port}
use Rattle.av_kinds.specs.Netlists.{plan_of}
use Rattle.av_kinds.specs.Sorts.{Sort, rest, IsInstanceWire, AreOfSorts, how_many, lanes_operators}

-- ---- names of a cell

-- in the top module, as `c0` or `c0_1`
abbrev pub IsCellWire : ℕ → List ℕ → Type 0
IsCellWire p name = (name ≡ value_name p) ⊎ ((n : ℕ) × (name ≡ wire_name p n))

-- or one that its instance brings
abbrev pub IsWire : ℕ → List ℕ → Type 0
IsWire p name = IsCellWire p name ⊎ IsInstanceWire p name

abbrev pub IsRegister : ℕ → List ℕ → Type 0
IsRegister p name = (n : ℕ) × (name ≡ register_name p n)

-- ---- what is read

-- the place takes its word from this source at some number
abbrev pub IsSourceOf : ProgramSite → WordSource → Type 0
IsSourceOf site source = (source ≡ site.otherwise) ⊎ ((i : ℕ) × (l : Selection) × (slice_get site.selections i ≡ Some l) × (source ≡ l.source))

-- a place of a lane of the cell p does
pub record Takes (program : Program) (p : ℕ) (source : WordSource) : Type 0 where
  pub lane_number : ℕ
  pub lane : Lane
  pub is_lane : slice_get program.lanes lane_number ≡ Some lane
  pub home : lane.home ≡ p
  pub mode_number : ℕ
  pub mode : Mode
  pub is_mode : slice_get lane.modes mode_number ≡ Some mode
  pub site_number : ℕ
  pub site : ProgramSite
  pub is_site : slice_get mode.work.sites site_number ≡ Some site
  pub is_source : IsSourceOf site source

-- what a wire of cell p may name: wires of the cell, input ports that its places take words from, the counter, and registers
abbrev pub MayName : List ℕ → Program → ℕ → Operand → Type 0
MayName counter program p (Literal width value) = Unit {0}
MayName counter program p (Name name) = IsWire p name ⊎ ((k : ℕ) × (name ≡ input_name k) × Takes program p (Input k)) ⊎ (name ≡ counter) ⊎ ((q : ℕ) × IsRegister q name)

-- a place of cell p takes words of earlier cycles from a lane of cell q
pub record TakesFrom (program : Program) (p q : ℕ) : Type 0 where
  pub lane_number : ℕ
  pub lane : Lane
  pub is_lane : slice_get program.lanes lane_number ≡ Some lane
  pub home : lane.home ≡ q
  pub delay : ℕ
  pub later : 0 < delay
  pub takes : Takes program p (Line lane_number delay)

-- of registers of other cells, those alone from which a place of the cell takes words
abbrev pub MayLink : Program → ℕ → Operand → Type 0
MayLink program p (Literal width value) = Unit {0}
MayLink program p (Name name) = (q : ℕ) → q < length program.cells → IsRegister q name → q ≢ p → TakesFrom program p q

-- a register of cell p takes a wire or register of it
abbrev pub MayTake : ℕ → Operand → Type 0
MayTake p (Literal width value) = ⊥
MayTake p (Name name) = IsWire p name ⊎ IsRegister p name

-- ---- the counter

abbrev pub IsCounterWire : Counter → List ℕ → Type 0
IsCounterWire Cycles name = name ≡ next_name Cycles
IsCounterWire (Phases period) name = (name ≡ last_name) ⊎ (name ≡ sum_name) ⊎ (name ≡ next_name (Phases period))

-- the module drives the name by this
abbrev pub IsDriven : Module → List ℕ → Operation → Type 0
IsDriven m name operation = Contains m.drives (record { target = name; operation = operation })

-- the number of the counter plus 1; a phase is 0 again where it is the last one of the period
abbrev pub HasNext : Counter → Module → Type 0
HasNext Cycles m = IsDriven m (next_name Cycles) (Binary (Name (counter_name Cycles)) Add (Literal counter_width 1))
HasNext (Phases period) m =
    IsDriven m last_name (Binary (Name (counter_name (Phases period))) Equal (Literal counter_width (period - 1)))
    × IsDriven m sum_name (Binary (Name (counter_name (Phases period))) Add (Literal counter_width 1))
    × IsDriven m (next_name (Phases period)) (Choose (Name last_name) (Literal counter_width 0) (Name sum_name))

-- a register of 12 bits that is 0 after reset and takes the next number
pub record HasCounter (counter : Counter) (m : Module) : Type 0 where
  pub register : Contains m.registers (port counter_width (counter_name counter))
  pub wire : Contains m.wires (port counter_width (next_name counter))
  pub step : Contains m.steps (record { register = counter_name counter; reset = 0; next = Name (next_name counter) })
  pub next : HasNext counter m

-- neither of the two names is there
pub record HasNoCounter (counter : Counter) (m : Module) : Type 0 where
  pub register : Contains (names_of m.registers) (counter_name counter) → ⊥
  pub wire : Contains (names_of m.wires) (next_name counter) → ⊥

-- ---- operators

-- the drives of the wires of cell p, in their order
pub data AreDrivesOf (p : ℕ) : List Drive → List Drive → Type 0 where
  ended : AreDrivesOf p [] []
  of_cell : {d : Drive} {ds own : List Drive} → IsWire p d.target → AreDrivesOf p ds own → AreDrivesOf p (d ∷ ds) (d ∷ own)
  other : {d : Drive} {ds own : List Drive} → (IsWire p d.target → ⊥) → AreDrivesOf p ds own → AreDrivesOf p (d ∷ ds) own

-- sort by sort the cell p has no more drives than the works of these lanes have operators
pub record HasFewOperators (counter : List ℕ) (m : Module) (p : ℕ) (lanes : List Lane) : Type 0 where
  pub drives : List Drive
  pub are_drives : AreDrivesOf p m.drives drives
  pub sorts : List Sort
  pub are_sorts : AreOfSorts counter m.drives drives sorts
  pub few : (k : Sort) → k ≢ rest → how_many k sorts ≤ lanes_operators k lanes

-- ---- the whole

pub record IsFormedBy (counter : Counter) (program : Program) (m : Module) : Type 0 where
  pub wires : All (λ (w : Port). ((p : ℕ) × (p < length program.cells) × IsWire p w.name) ⊎ IsCounterWire counter w.name) m.wires
  pub registers : All (λ (r : Port). ((p : ℕ) × (p < length program.cells) × IsRegister p r.name) ⊎ (r.name ≡ counter_name counter)) m.registers
  pub reads : All (λ (d : Drive). (p : ℕ) → p < length program.cells → IsWire p d.target → All (MayName (counter_name counter) program p) (operands_of d.operation)) m.drives
  pub links : All (λ (d : Drive). (p : ℕ) → p < length program.cells → IsWire p d.target → All (MayLink program p) (operands_of d.operation)) m.drives
  pub takes : All (λ (t : Step). (p : ℕ) → p < length program.cells → IsRegister p t.register → MayTake p t.next) m.steps
  pub outputs : (k q : ℕ) (d : Drive) → slice_get program.outputs k ≡ Some q → Contains m.drives d → d.target ≡ output_name k → d.operation ≡ Plain (Name ((labels program).value q))
  pub counter_is : HasCounter counter m ⊎ HasNoCounter counter m
  pub operators_are : (p : ℕ) (own : CellLanes) → slice_get program.cells p ≡ Some own → HasFewOperators (counter_name counter) m p (lanes_of program own)

-- each cell's wires in the top module are driven by its own instance and by nothing else
pub record HaveOwnInstances (program : Program) (m : Modules) : Type 0 where
  pub once : (i j : ℕ) (a b : Instance) → slice_get m.instances i ≡ Some a → slice_get m.instances j ≡ Some b → a.name ≡ b.name → i ≡ j
  pub driven : (p : ℕ) (w : Port) → p < length program.cells → Contains m.top.wires w → IsCellWire p w.name → (i : Instance) × Contains m.instances i × (i.name ≡ instance_name p) × Contains i.outputs w.name
  pub alone : (p : ℕ) (name : List ℕ) → p < length program.cells → IsCellWire p name
      → (Contains (targets_of m.top.drives) name → ⊥) × ((i : Instance) → Contains m.instances i → Contains i.outputs name → i.name ≡ instance_name p)

-- what is promised of the modules of a program, beside that they are its netlists
pub record AreFormedBy (counter : Counter) (program : Program) (m : Modules) : Type 0 where
  pub form : (l : Listing) → IsFormedBy counter program (flat_module (plan_of l m))
  pub instances : HaveOwnInstances program m
