-- The instance of a cell shows what the cell's program says.
use Rattle.std.proofs.Common.{◌≡◌, ℕ, zero, suc, ◌+◌, ◌<◌, List, [], ◌∷◌, ◌++◌, length, sym, subst, ap, ◌∙◌, arith, Bool, true, false, if◌then◌else◌}
use Rattle.std.specs.List.{AllByRecursion}
use Rattle.std.proofs.lemmas.List.Elements.{recursion_from_All}
use Rattle.av_base.proofs.Lists.{each_weaker}
use Rattle.av_net.specs.declared.operation.Operand.{Operand}
use Rattle.av_net.specs.declared.operation.Operand.TheVariants.{Name}
use Rattle.av_net.specs.declared.netlist.Port.{Port}
use Rattle.av_net.specs.Meaning.{Words, Widths, word_of}
use Rattle.av_net.specs.Names.{width_of}
use Rattle.av_net.specs.Settled.{Holds}
use Rattle.av_net.specs.Flat.{kind_module}
use Rattle.av_net.specs.Instances.{words_in, AreFed, AreTaken, IsSettledIn}
use Rattle.av_kinds.specs.declared.program.WordSource.{WordSource}
use Rattle.av_kinds.specs.declared.program.Inlet.{Inlet}
use Rattle.av_kinds.specs.declared.program.ProgramSite.{ProgramSite}
use Rattle.av_kinds.specs.declared.program.WordSource.TheVariants.{Line}
use Rattle.av_kinds.specs.declared.program.Inlet.TheVariants.{Inputs, Taps, Pipe}
use Rattle.av_kinds.specs.Programs.{source_in, Mode, mode_at, Lane}
use Rattle.av_kinds.specs.Names.{Labels, pipe_name, kind_counter}
use Rattle.av_kinds.specs.Counters.{counter_width}
use Rattle.av_kinds.specs.inner.Shapes.{ModeShape, LaneShape, SuitLanes}
use Rattle.av_kinds.specs.Tops.{port}
use Rattle.av_kinds.specs.inner.Kinds.{counts, no_ports, lanes_inputs, lanes_outputs, lanes_wires, kind_inputs, kind_by}
use Rattle.av_kinds.specs.inner.Instances.{operand_of, lanes_operands, outputs_from, instance_by}
use Rattle.av_kinds.proofs.Taken.{PipedBy, IsPiped, ArePiped}
use Rattle.av_kinds.proofs.Wide.{IsWide}
use Rattle.av_kinds.proofs.Shown.{LanesShow, LanesPiped, LanesPipesWide, kind_shows}

-- ---- pipelines of the kind

-- the wire of a lane that is not the last has the word of its output
pub pipe_taken : (names : Labels) (inner v : Words) (k q h : ℕ) (shapes : List LaneShape) → suc h < length shapes → AreTaken inner v (lanes_outputs k shapes) (outputs_from names q (length shapes)) → v (names.value (q + h)) ≡ inner (pipe_name (k + h))
pipe_taken names inner v k q h [] lt taken = absurd (omega (arith, lt))
pipe_taken names inner v k q h (shape ∷ []) lt taken = absurd (omega (arith, lt))
pipe_taken names inner v k q zero (shape ∷ g ∷ shapes) lt taken =
    let e : q + 0 ≡ q = omega arith in
    let f : k + 0 ≡ k = omega arith in
    rw (e, f) taken.0
pipe_taken names inner v k q (suc h) (shape ∷ g ∷ shapes) lt taken =
    let e : q + suc h ≡ q + 1 + h = omega arith in
    let f : k + suc h ≡ k + 1 + h = omega arith in
    rw (e, f) (pipe_taken names inner v (k + 1) (q + 1) h (g ∷ shapes) (omega (arith, lt)) taken.1)

-- of a cell whose lanes have numbers from q on: a place that a pipeline brings reads the lane of that pipeline in its own cycle
abbrev pub OfPipe : ℕ → ℕ → ℕ → Inlet → ProgramSite → Type 0
OfPipe q count c Inputs site = Unit {0}
OfPipe q count c Taps site = Unit {0}
OfPipe q count c (Pipe h) site = (suc h < count) × (source_in c site ≡ Line (q + h) 0)

abbrev pub IsOfPipe : ℕ → ℕ → ℕ → ProgramSite → Type 0
IsOfPipe q count c site = OfPipe q count c site.inlet site

abbrev pub AreOfPipes : ℕ → ℕ → ℕ → List ModeShape → List Mode → Type 0
AreOfPipes q count c [] modes = Unit {0}
AreOfPipes q count c (shape ∷ shapes) modes = AllByRecursion (IsOfPipe q count c) (mode_at modes shape.number).work.sites × AreOfPipes q count c shapes modes

abbrev pub LanesOfPipes : ℕ → ℕ → ℕ → List LaneShape → List Lane → Type 0
LanesOfPipes q count c (shape ∷ shapes) (lane ∷ lanes) = AreOfPipes q count c shape.modes lane.modes × LanesOfPipes q count c shapes lanes
LanesOfPipes q count c [] lanes = Unit {0}
LanesOfPipes q count c (shape ∷ shapes) [] = Unit {0}

site_piped : (names : Labels) (inner v : Words) (q c : ℕ) (all : List LaneShape) → AreTaken inner v (lanes_outputs 0 all) (outputs_from names q (length all)) → (site : ProgramSite) → IsOfPipe q (length all) c site → IsPiped names inner v c site
site_piped names inner v q c all taken site = by_inlet site.inlet
  where
    by_inlet : (i : Inlet) → OfPipe q (length all) c i site → PipedBy names inner v c i site
    by_inlet Inputs h = tt
    by_inlet Taps h = tt
    by_inlet (Pipe k) h =
        let e : 0 + k ≡ k = omega arith in
        let own : v (names.value (q + k)) ≡ inner (pipe_name k) = subst (λ n. v (names.value (q + k)) ≡ inner (pipe_name n)) e (pipe_taken names inner v 0 q k all h.0 taken) in
        sym own ∙ ap (λ (s : WordSource). word_of v (operand_of names site.width s)) (sym h.1)

modes_piped : (names : Labels) (inner v : Words) (q c : ℕ) (all : List LaneShape) → AreTaken inner v (lanes_outputs 0 all) (outputs_from names q (length all)) → (shapes : List ModeShape) (modes : List Mode) → AreOfPipes q (length all) c shapes modes → ArePiped names inner v c shapes modes
modes_piped names inner v q c all taken [] modes h = tt
modes_piped names inner v q c all taken (shape ∷ shapes) modes h =
    (each_weaker (IsOfPipe q (length all) c) (IsPiped names inner v c) (site_piped names inner v q c all taken) (mode_at modes shape.number).work.sites h.0, modes_piped names inner v q c all taken shapes modes h.1)

lanes_piped : (names : Labels) (inner v : Words) (q c : ℕ) (all : List LaneShape) → AreTaken inner v (lanes_outputs 0 all) (outputs_from names q (length all)) → (shapes : List LaneShape) (lanes : List Lane) → LanesOfPipes q (length all) c shapes lanes → LanesPiped names inner v c shapes lanes
lanes_piped names inner v q c all taken [] lanes h = tt
lanes_piped names inner v q c all taken (shape ∷ shapes) [] h = tt
lanes_piped names inner v q c all taken (shape ∷ shapes) (lane ∷ lanes) h = (modes_piped names inner v q c all taken shape.modes lane.modes h.0, lanes_piped names inner v q c all taken shapes lanes h.1)

-- ---- the instance

-- what stands at the counter's port, and at the others
counter_fed : (inner v : Words) (counter : List ℕ) (test : Bool) (ports : List Port) (operands : List Operand)
    → AreFed inner v ((if test then port counter_width kind_counter ∷ [] else []) ++ ports) ((if test then Name counter ∷ [] else []) ++ operands)
    → (test ≡ true → inner kind_counter ≡ v counter) × AreFed inner v ports operands
counter_fed inner v counter true ports operands fed = (λ e. fed.0, fed.1)
counter_fed inner v counter false ports operands fed = (λ e. absurd cc, fed)

counter_wide : (widths : Widths) (test : Bool) (ports : List Port) → AllByRecursion (IsWide widths) ((if test then port counter_width kind_counter ∷ [] else []) ++ ports) → (test ≡ true → widths kind_counter ≡ 12) × AllByRecursion (IsWide widths) ports
counter_wide widths true ports wide = (λ e. wide.0, wide.1)
counter_wide widths false ports wide = (λ e. absurd cc, wide)

-- In settled words the wires of a cell's lanes have the words of their works, by what the counter has and by the words of their sources, for whatever its selections and
-- windows are, as long as the kind has room for them.
pub instance_shows : (names : Labels) (counter : List ℕ) (number p q c : ℕ) (shape : List LaneShape) (lanes : List Lane) (v : Words)
    → IsSettledIn (kind_by number shape) (instance_by names counter p number q shape lanes) v
    → AllByRecursion (IsWide (width_of (kind_module (kind_by number shape)))) (kind_inputs shape)
    → AllByRecursion (IsWide (width_of (kind_module (kind_by number shape)))) (lanes_wires (Name kind_counter) no_ports 0 shape)
    → LanesPipesWide (width_of (kind_module (kind_by number shape))) shape
    → SuitLanes shape lanes → LanesOfPipes q (length shape) c shape lanes → (counts shape ≡ true → v counter ≡ c) → LanesShow names v c q shape lanes
instance_shows names counter number p q c shape lanes v settled ports wires pipes suit of_pipes count =
    let kind = kind_by number shape in
    let instance = instance_by names counter p number q shape lanes in
    let inner = words_in instance.name v in
    let widths = width_of (kind_module kind) in
    let fed = counter_fed inner v counter (counts shape) (lanes_inputs no_ports shape) (lanes_operands names shape lanes) settled.fed in
    let wide = counter_wide widths (counts shape) (lanes_inputs no_ports shape) ports in
    kind_shows names widths inner v kind_counter c q shape lanes no_ports
    (λ counted. record { word = fed.0 counted ∙ count counted; width = wide.0 counted })
    suit (lanes_piped names inner v q c shape settled.taken shape lanes of_pipes) pipes
    (recursion_from_All (Holds widths inner) kind.drives settled.inside) wide.1 wires fed.1 settled.taken
