-- In settled words of a plan each cell shows what its program says.
use Rattle.std.proofs.Common.{◌≡◌, ℕ, zero, suc, ◌+◌, List, [], ◌∷◌, length, get_or, Some, subst, ap, ◌∙◌, arith, true}
use Rattle.std.specs.Prelude.{slice_get, All}
use Rattle.std.specs.List.{AllByRecursion}
use Rattle.std.proofs.lemmas.List.Elements.{recursion_from_All}
use Rattle.av_base.proofs.Lists.{each_at, some_is}
use Rattle.av_net.specs.declared.operation.Operand.TheVariants.{Name}
use Rattle.av_kinds.specs.declared.planning.Modules.{Modules}
use Rattle.av_net.specs.declared.plan.CellKind.{CellKind}
use Rattle.av_net.specs.declared.plan.Instance.{Instance}
use Rattle.av_net.specs.Meaning.{Words}
use Rattle.av_net.specs.Names.{width_of}
use Rattle.av_net.specs.Flat.{kind_module, kind_of, no_kind}
use Rattle.av_net.specs.Instances.{IsSettledIn}
use Rattle.av_kinds.specs.declared.counter.Counter.{Counter}
use Rattle.av_kinds.specs.declared.program.CellLanes.{CellLanes}
use Rattle.av_kinds.specs.Programs.{Program, lanes_of}
use Rattle.av_kinds.specs.Names.{kind_counter, labels}
use Rattle.av_kinds.specs.Counters.{counter_name}
use Rattle.av_kinds.specs.inner.Shapes.{LaneShape}
use Rattle.av_kinds.specs.inner.Kinds.{counts, no_ports, lanes_wires, kind_inputs, kind_by}
use Rattle.av_kinds.specs.inner.Instances.{instance_by}
use Rattle.av_kinds.specs.inner.Modules.{kinds_by, instances_by, AreModulesOf}
use Rattle.av_kinds.proofs.Wide.{IsWide}
use Rattle.av_kinds.proofs.Shown.{LanesShow, LanesPipesWide}
use Rattle.av_kinds.proofs.OneCell.{LanesOfPipes, instance_shows}

pub got : {X : Type 0} (xs : List X) (k : ℕ) (d x : X) → slice_get xs k ≡ Some x → get_or xs k d ≡ x
got [] k d x is = absurd cc
got (y ∷ xs) zero d x is = some_is y x is
got (y ∷ xs) (suc k) d x is = got xs k d x is

-- the ports and wires of a kind have their widths, as those of a sound module have
pub record IsWideKind (number : ℕ) (shape : List LaneShape) : Type 0 where
  pub ports : AllByRecursion (IsWide (width_of (kind_module (kind_by number shape)))) (kind_inputs shape)
  pub wires : AllByRecursion (IsWide (width_of (kind_module (kind_by number shape)))) (lanes_wires (Name kind_counter) no_ports 0 shape)
  pub pipes : LanesPipesWide (width_of (kind_module (kind_by number shape))) shape

-- the kind of a shape is that of its number
pub kind_there : (n : ℕ) (shapes : List (List LaneShape)) (k : ℕ) (shape : List LaneShape) → slice_get shapes k ≡ Some shape → (j : ℕ) → n + k ≡ j → slice_get (kinds_by n shapes) k ≡ Some (kind_by j shape)
kind_there n [] k shape is j at = absurd cc
kind_there n (first ∷ shapes) zero shape is j at =
    let e : n ≡ j = omega arith in
    ap (λ (s : List LaneShape). Some (kind_by n s)) (some_is first shape is) ∙ ap (λ i. Some (kind_by i shape)) e
kind_there n (first ∷ shapes) (suc k) shape is j at = kind_there (n + 1) shapes k shape is j (omega arith)

-- and so is the instance of a cell
instance_there : (counter : Counter) (program : Program) (shapes : List (List LaneShape)) (p : ℕ) (cells : List CellLanes) (kinds : List ℕ) (j k : ℕ) (own : CellLanes) (shape : List LaneShape)
    → slice_get cells j ≡ Some own → slice_get kinds j ≡ Some k → slice_get shapes k ≡ Some shape → (i : ℕ) → p + j ≡ i
    → slice_get (instances_by counter program shapes p cells kinds) j ≡ Some (instance_by (labels program) (counter_name counter) i k own.first shape (lanes_of program own))
instance_there counter program shapes p [] kinds j k own shape is_cell is_kind is_shape i at = absurd cc
instance_there counter program shapes p (o ∷ cells) [] j k own shape is_cell is_kind is_shape i at = absurd cc
instance_there counter program shapes p (o ∷ cells) (l ∷ kinds) zero k own shape is_cell is_kind is_shape i at =
    let e : p ≡ i = omega arith in
    let f : l ≡ k = some_is l k is_kind in
    let g : get_or shapes l [] ≡ shape = ap (λ n. get_or shapes n []) f ∙ got shapes k [] shape is_shape in
    let I : ℕ → ℕ → CellLanes → List LaneShape → Instance = λ n m x s. instance_by (labels program) (counter_name counter) n m x.first s (lanes_of program x) in
    ap Some (ap (λ n. I n l o (get_or shapes l [])) e ∙ ap (λ m. I i m o (get_or shapes l [])) f ∙ ap (λ x. I i k x (get_or shapes l [])) (some_is o own is_cell) ∙ ap (I i k own) g)
instance_there counter program shapes p (o ∷ cells) (l ∷ kinds) (suc j) k own shape is_cell is_kind is_shape i at =
    instance_there counter program shapes (p + 1) cells kinds j k own shape is_cell is_kind is_shape i (omega arith)

pub made_instance : (counter : Counter) (program : Program) (m : Modules) (made : AreModulesOf counter program m) (p k : ℕ) (own : CellLanes) (shape : List LaneShape)
    → slice_get program.cells p ≡ Some own → slice_get program.kinds p ≡ Some k → slice_get made.shapes k ≡ Some shape
    → slice_get m.instances p ≡ Some (instance_by (labels program) (counter_name counter) p k own.first shape (lanes_of program own))
made_instance counter program m made p k own shape is_cell is_kind is_shape =
    ap (λ (is : List Instance). slice_get is p) made.instances_are ∙ instance_there counter program made.shapes 0 program.cells program.kinds p k own shape is_cell is_kind is_shape p (omega arith)

pub made_kind : (counter : Counter) (program : Program) (m : Modules) (made : AreModulesOf counter program m) (k : ℕ) (shape : List LaneShape) → slice_get made.shapes k ≡ Some shape → slice_get m.kinds k ≡ Some (kind_by k shape)
made_kind counter program m made k shape is = ap (λ (ks : List CellKind). slice_get ks k) made.kinds_are ∙ kind_there 0 made.shapes k shape is k (omega arith)

-- The wires of a cell's lanes have the words of their works.
pub cell_shows : (counter : Counter) (program : Program) (m : Modules) (made : AreModulesOf counter program m) (v : Words) (c : ℕ)
    → All (λ instance. IsSettledIn (kind_of m.kinds instance) instance v) m.instances
    → (p k : ℕ) (own : CellLanes) (shape : List LaneShape) → slice_get program.cells p ≡ Some own → slice_get program.kinds p ≡ Some k → slice_get made.shapes k ≡ Some shape
    → (counts shape ≡ true → v (counter_name counter) ≡ c)
    → IsWideKind k shape → LanesOfPipes own.first (length shape) c shape (lanes_of program own)
    → LanesShow (labels program) v c own.first shape (lanes_of program own)
cell_shows counter program m made v c settled p k own shape is_cell is_kind is_shape count wide pipes =
    let i = instance_by (labels program) (counter_name counter) p k own.first shape (lanes_of program own) in
    let P : Instance → Type 0 = λ instance. IsSettledIn (kind_of m.kinds instance) instance v in
    let here : IsSettledIn (kind_of m.kinds i) i v = each_at P m.instances p i (recursion_from_All P m.instances settled) (made_instance counter program m made p k own shape is_cell is_kind is_shape) in
    let kind : kind_of m.kinds i ≡ kind_by k shape = got m.kinds k no_kind (kind_by k shape) (made_kind counter program m made k shape is_shape) in
    let inside : IsSettledIn (kind_by k shape) i v = subst (λ (x : CellKind). IsSettledIn x i v) kind here in
    instance_shows (labels program) (counter_name counter) k p own.first c shape (lanes_of program own) v inside wide.ports wide.wires wide.pipes
    (made.are_shapes.suit k shape is_shape p own is_cell is_kind) pipes count
