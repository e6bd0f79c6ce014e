-- The kinds and instances of a plan, one after another.
use Rattle.std.proofs.Common.{◌≡◌, ℕ, zero, suc, ◌+◌, ◌<◌, ◌≤◌, ◌⊎◌, inl, inr, List, [], ◌∷◌, ◌++◌, map, length, take, drop, get_or, max, refl, sym, subst, ap, ◌∙◌, arith, Some}
use Rattle.std.specs.Prelude.{slice_get, Bool}
use Rattle.std.specs.List.{list_any}
use Rattle.av_base.proofs.Lists.{some_is, there_is, each_at, get_first, get_second, get_cases, next_item, next_taken, same_default}
use Rattle.av_net.specs.declared.plan.CellKind.{CellKind}
use Rattle.av_net.specs.declared.plan.Instance.{Instance}
use Rattle.av_net.specs.declared.netlist.Module.{Module}
use Rattle.av_kinds.specs.declared.counter.Counter.{Counter}
use Rattle.av_kinds.specs.declared.planning.Modules.{Modules}
use Rattle.av_kinds.specs.declared.program.CellLanes.{CellLanes}
use Rattle.av_kinds.specs.Programs.{Program, lanes_of, IsProgram}
use Rattle.av_kinds.specs.Names.{labels}
use Rattle.av_kinds.specs.Counters.{counter_name}
use Rattle.av_kinds.specs.inner.Shapes.{LaneShape, LaneShapeMade, lane_shape_of, IsKindShape, SuitLanes}
use Rattle.av_kinds.specs.inner.Kinds.{counts, kind_by}
use Rattle.av_kinds.specs.inner.Instances.{instance_by}
use Rattle.av_kinds.specs.inner.Modules.{AreModulesOf, top_by, AreKindShapes, AreShapesOf, IsKindCount, kinds_by, instances_by}
use Rattle.std.proofs.lemmas.List.{length-map}
use Rattle.std.proofs.lemmas.Option.{slice_get-get_or}
use Rattle.av_kinds.proofs.Placing.{one_less, read_mapped, from_place}
use Rattle.av_kinds.proofs.ShapeSuits.{below_length}

-- ---- how many kinds there are

more_kinds : (front : List ℕ) (count kind : ℕ) → IsKindCount front count → count ≤ kind → IsKindCount (front ++ kind ∷ []) (kind + 1)
more_kinds front count kind h most = record { below = below; reached = λ lt. (length front + 0, kind, get_second front (kind ∷ []) 0, omega arith) }
  where
    below : (p k : ℕ) → slice_get (front ++ kind ∷ []) p ≡ Some k → k < kind + 1
    below p k there = elim (get_cases front (kind ∷ []) p k there) [
      | inl e ↦ (let lt = h.below p k e in omega (arith, lt, most))
      | inr e ↦ at_end e.0 e.2
    ]
      where
        at_end : (j : ℕ) → slice_get (kind ∷ []) j ≡ Some k → k < kind + 1
        at_end zero e = let same = some_is kind k e in omega (arith, same)
        at_end (suc j) e = absurd cc

no_more_kinds : (front : List ℕ) (count kind : ℕ) → IsKindCount front count → kind < count → IsKindCount (front ++ kind ∷ []) count
no_more_kinds front count kind h lt = record { below = below; reached = λ some. let r = h.reached some in (r.0, r.1, get_first front (kind ∷ []) r.0 r.1 r.2, r.3) }
  where
    below : (p k : ℕ) → slice_get (front ++ kind ∷ []) p ≡ Some k → k < count
    below p k there = elim (get_cases front (kind ∷ []) p k there) [
      | inl e ↦ h.below p k e
      | inr e ↦ at_end e.0 e.2
    ]
      where
        at_end : (j : ℕ) → slice_get (kind ∷ []) j ≡ Some k → k < count
        at_end zero e = let same = some_is kind k e in omega (arith, same, lt)
        at_end (suc j) e = absurd cc

pub kind_counted : (kinds : List ℕ) (k count next : ℕ) → k < length kinds → IsKindCount (take k kinds) count → next ≡ max count (get_or kinds k 0 + 1) → IsKindCount (take (k + 1) kinds) next
kind_counted kinds k count next lt h is =
    let kind = get_or kinds k 0 in
    let more : take (k + 1) kinds ≡ take k kinds ++ kind ∷ [] = next_taken kinds k kind lt (same_default kinds k 0 kind lt) in
    let by_size : IsKindCount (take k kinds ++ kind ∷ []) next = elim (le_or_lt count kind) [
      | inl most ↦ (let e : kind + 1 ≡ next = omega (arith, is, most) in subst (IsKindCount (take k kinds ++ kind ∷ [])) e (more_kinds (take k kinds) count kind h most))
      | inr less ↦ (let e : count ≡ next = omega (arith, is, less) in subst (IsKindCount (take k kinds ++ kind ∷ [])) e (no_more_kinds (take k kinds) count kind h less))
    ] in
    subst (λ xs. IsKindCount xs next) (sym more) by_size
  where
    le_or_lt : (a b : ℕ) → (a ≤ b) ⊎ (b < a)
    le_or_lt a b = grind arith

-- ---- numbers from 0 on that all stand in a list are fewer than its elements

record IsWithout (v : ℕ) (xs : List ℕ) : Type 0 where
  rest : List ℕ
  many : length xs ≡ suc (length rest)
  others : (j p : ℕ) → (j ≡ v → ⊥) → slice_get xs p ≡ Some j → (q : ℕ) × (slice_get rest q ≡ Some j)

first_without : (v : ℕ) (xs : List ℕ) → IsWithout v (v ∷ xs)
first_without v xs = record { rest = xs; many = refl; others = others }
  where
    others : (j p : ℕ) → (j ≡ v → ⊥) → slice_get (v ∷ xs) p ≡ Some j → (q : ℕ) × (slice_get xs q ≡ Some j)
    others j zero differs e = absurd (differs (sym (some_is v j e)))
    others j (suc p) differs e = (p, e)

later_without : (v x : ℕ) (xs : List ℕ) → IsWithout v xs → IsWithout v (x ∷ xs)
later_without v x xs h = record { rest = x ∷ h.rest; many = ap suc h.many; others = others }
  where
    others : (j p : ℕ) → (j ≡ v → ⊥) → slice_get (x ∷ xs) p ≡ Some j → (q : ℕ) × (slice_get (x ∷ h.rest) q ≡ Some j)
    others j zero differs e = (0, e)
    others j (suc p) differs e = let r = h.others j p differs e in (suc r.0, r.1)

without : (v : ℕ) (xs : List ℕ) (i : ℕ) → slice_get xs i ≡ Some v → IsWithout v xs
without v [] i is = absurd cc
without v (x ∷ xs) zero is = subst (λ y. IsWithout v (y ∷ xs)) (sym (some_is x v is)) (first_without v xs)
without v (x ∷ xs) (suc i) is = later_without v x xs (without v xs i is)

fewer : (k : ℕ) (xs : List ℕ) → ((j : ℕ) → j ≤ k → (i : ℕ) × (slice_get xs i ≡ Some j)) → k < length xs
fewer zero xs each = let at = each 0 (omega arith) in let b = below_length xs at.0 0 at.1 in omega (arith, b)
fewer (suc k) xs each =
    let at = each (suc k) (omega arith) in
    let r = without (suc k) xs at.0 at.1 in
    let h = fewer k r.rest (λ j le. let e = each j (omega (arith, le)) in r.others j e.0 (λ same. omega (arith, same, le)) e.1) in
    omega (arith, h, r.many)

pub kind_small : (program : Program) → IsProgram program → (k : ℕ) → k < length program.kinds → get_or program.kinds k 0 < length program.kinds
kind_small program is k lt =
    let kind = get_or program.kinds k 0 in
    fewer kind program.kinds (λ j le. is.numbered k kind j (slice_get-get_or program.kinds k 0 lt) le)

-- ---- kinds

abbrev pub shapes_seen : List (List LaneShapeMade) → List (List LaneShape)
shapes_seen shapes = map (map lane_shape_of) shapes

pub kind_put : (shapes : List (List LaneShapeMade)) (k : ℕ) (shape : List LaneShapeMade) (kinds next whole : List CellKind) (kind : CellKind) → k < length shapes → shape ≡ get_or shapes k shape → kinds ++ kinds_by k (shapes_seen (drop k shapes)) ≡ whole
    → kind ≡ kind_by k (map lane_shape_of shape) → next ≡ kinds ++ kind ∷ [] → next ++ kinds_by (k + 1) (shapes_seen (drop (k + 1) shapes)) ≡ whole
kind_put shapes k shape kinds next whole kind lt is h here put =
    let rest = shapes_seen (drop (k + 1) shapes) in
    one_less whole kinds next kind (kinds_by k (shapes_seen (drop k shapes))) (kinds_by (k + 1) rest) h put
    (ap (λ xs. kinds_by k (shapes_seen xs)) (next_item shapes k shape lt is) ∙ ap (λ x. x ∷ kinds_by (k + 1) rest) (sym here))

-- ---- instances

shape_seen : (shapes : List (List LaneShapeMade)) (k : ℕ) (shape : List LaneShapeMade) → k < length shapes → shape ≡ get_or shapes k shape → get_or (shapes_seen shapes) k [] ≡ map lane_shape_of shape
shape_seen [] k shape lt is = absurd (omega arith)
shape_seen (s ∷ shapes) zero shape lt is = ap (map lane_shape_of) (sym is)
shape_seen (s ∷ shapes) (suc k) shape lt is = shape_seen shapes k shape (omega arith) is

pub instance_put : (counter : Counter) (program : Program) (shapes : List (List LaneShapeMade)) (p k : ℕ) (shape : List LaneShapeMade) (instances next whole : List Instance) (instance : Instance)
    → p < length program.cells → p < length program.kinds → k ≡ get_or program.kinds p 0 → k < length shapes → shape ≡ get_or shapes k shape
    → instances ++ instances_by counter program (shapes_seen shapes) p (drop p program.cells) (drop p program.kinds) ≡ whole
    → ((own : CellLanes) → slice_get program.cells p ≡ Some own → instance ≡ instance_by (labels program) (counter_name counter) p k own.first (map lane_shape_of shape) (lanes_of program own)) → next ≡ instances ++ instance ∷ []
    → next ++ instances_by counter program (shapes_seen shapes) (p + 1) (drop (p + 1) program.cells) (drop (p + 1) program.kinds) ≡ whole
instance_put counter program shapes p k shape instances next whole instance lp lk ik ls is h here put =
    let S = shapes_seen shapes in
    let own = there_is program.cells p lp in
    let cells = drop (p + 1) program.cells in
    let kinds = drop (p + 1) program.kinds in
    let rest = instances_by counter program S (p + 1) cells kinds in
    let one : suc p ≡ p + 1 = omega arith in
    one_less whole instances next instance (instances_by counter program S p (drop p program.cells) (drop p program.kinds)) rest h put
    (ap (λ cs. instances_by counter program S p cs (drop p program.kinds)) (from_place program.cells p own.0 own.1 ∙ ap (λ i. own.0 ∷ drop i program.cells) one)
    ∙ ap (λ ks. instances_by counter program S p (own.0 ∷ cells) ks) (next_item program.kinds p k lk (ik ∙ same_default program.kinds p 0 k lk))
    ∙ ap (λ s. instance_by (labels program) (counter_name counter) p k own.0.first s (lanes_of program own.0) ∷ rest) (shape_seen shapes k shape ls is) ∙ ap (λ x. x ∷ rest) (sym (here own.0 own.1)))

pub kind_there : (shapes : List (List LaneShapeMade)) → AreKindShapes (shapes_seen shapes) → (k : ℕ) (shape : List LaneShapeMade) → k < length shapes → shape ≡ get_or shapes k shape → IsKindShape (map lane_shape_of shape)
kind_there shapes each k shape lt is = each_at IsKindShape (shapes_seen shapes) k (map lane_shape_of shape) each (read_mapped (map lane_shape_of) shapes k shape shape lt is)

-- what holds of the cell with its kind
pub cell_suits : (program : Program) (shapes : List (List LaneShapeMade)) → AreShapesOf program (shapes_seen shapes) → (p k : ℕ) (own : CellLanes) (shape : List LaneShapeMade) → slice_get program.cells p ≡ Some own → slice_get program.kinds p ≡ Some k
    → k < length shapes → shape ≡ get_or shapes k shape → SuitLanes (map lane_shape_of shape) (lanes_of program own)
cell_suits program shapes are p k own shape is_cell is_kind lt is = are.suit k (map lane_shape_of shape) (read_mapped (map lane_shape_of) shapes k shape shape lt is) p own is_cell is_kind

pub kind_within : (program : Program) (shapes : List (List LaneShapeMade)) → AreShapesOf program (shapes_seen shapes) → (p : ℕ) → p < length program.kinds → get_or program.kinds p 0 < length shapes
kind_within program shapes are p lt =
    let h = are.all p (get_or program.kinds p 0) (slice_get-get_or program.kinds p 0 lt) in
    omega (arith, h, length-map shapes (map lane_shape_of))

-- ---- the whole

abbrev pub modules_with : List CellKind → Module → List Instance → Modules
modules_with kinds top instances = record { kinds = kinds; top = top; instances = instances }

pub modules_made : (counter : Counter) (program : Program) (shapes first second : List (List LaneShapeMade)) (kinds : List CellKind) (top : Module) (instances : List Instance) (counting : Bool) → first ≡ shapes → second ≡ shapes
    → AreShapesOf program (shapes_seen shapes) → counting ≡ list_any counts (shapes_seen first) → kinds ≡ kinds_by 0 (shapes_seen second) → top ≡ top_by counter counting program
    → instances ≡ instances_by counter program (shapes_seen shapes) 0 program.cells program.kinds → AreModulesOf counter program (modules_with kinds top instances)
modules_made counter program shapes first second kinds top instances counting e f are counted is_kinds is_top is_instances = record {
  shapes = shapes_seen shapes;
  are_shapes = are;
  kinds_are = is_kinds ∙ ap (λ (xs : List (List LaneShapeMade)). kinds_by 0 (shapes_seen xs)) f;
  instances_are = is_instances;
  top_is = is_top ∙ ap (λ b. top_by counter b program) (counted ∙ ap (λ (xs : List (List LaneShapeMade)). list_any counts (shapes_seen xs)) e);
}
