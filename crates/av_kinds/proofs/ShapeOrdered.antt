-- The modes in the shape of a kind stand in the order of their numbers.
use Rattle.std.proofs.Common.{◌≡◌, ℕ, zero, suc, ◌+◌, ◌≤◌, List, [], ◌∷◌, map, filter, subst, arith, Bool, true, false, if◌then◌else◌}
use Rattle.std.specs.Prelude.{nat_eq}
use Rattle.std.specs.List.{AllByRecursion, range_with_len}
use Rattle.av_kinds.specs.declared.program.CellLanes.{CellLanes}
use Rattle.av_kinds.specs.Programs.{Mode, Lane, Program, lanes_of}
use Rattle.av_kinds.specs.inner.Shapes.{ModeShape, LaneShape}
use Rattle.av_kinds.specs.inner.Shaped.{mode_shapes, lane_shapes, shapes_by, is_used, used, kind_shape}
use Rattle.av_kinds.specs.inner.Ordered.{AreAscending, IsOrdered}

from_less : (a b : ℕ) (modes : List ModeShape) → a ≤ b → AreAscending b modes → AreAscending a modes
from_less a b [] le ordered = tt
from_less a b (f ∷ modes) le ordered = (omega (arith, le, ordered.0), ordered.1)

numbered : (before : List ModeShape) (k : ℕ) (modes : List Mode) → AreAscending k (mode_shapes before k modes)
numbered before k [] = tt
numbered [] k (m ∷ modes) = let e : k + 1 ≡ suc k = omega arith in (omega arith, subst (λ n. AreAscending n (mode_shapes [] (k + 1) modes)) e (numbered [] (k + 1) modes))
numbered (f ∷ before) k (m ∷ modes) = let e : k + 1 ≡ suc k = omega arith in (omega arith, subst (λ n. AreAscending n (mode_shapes before (k + 1) modes)) e (numbered before (k + 1) modes))

kept : (a : ℕ) (modes : List ModeShape) → AreAscending a modes → AreAscending a (filter is_used modes)
kept a [] ordered = tt
kept a (f ∷ modes) ordered = by_use (is_used f) (kept (suc f.number) modes ordered.1)
  where
    by_use : (b : Bool) → AreAscending (suc f.number) (filter is_used modes) → AreAscending a (if b then f ∷ filter is_used modes else filter is_used modes)
    by_use true later = (ordered.0, later)
    by_use false later = from_less a (suc f.number) (filter is_used modes) (omega (arith, ordered.0)) later

lanes_ordered : (before : List LaneShape) (lanes : List Lane) → IsOrdered (lane_shapes before lanes)
lanes_ordered before [] = tt
lanes_ordered [] (lane ∷ lanes) = (numbered [] 0 lane.modes, lanes_ordered [] lanes)
lanes_ordered (f ∷ before) (lane ∷ lanes) = (numbered f.modes 0 lane.modes, lanes_ordered before lanes)

shapes_ordered : (program : Program) (kind : ℕ) (before : List LaneShape) (cells : List CellLanes) (kinds : List ℕ) → IsOrdered before → IsOrdered (shapes_by program kind before cells kinds)
shapes_ordered program kind before [] kinds ordered = ordered
shapes_ordered program kind before (own ∷ cells) [] ordered = ordered
shapes_ordered program kind before (own ∷ cells) (k ∷ kinds) ordered =
    by_kind (nat_eq k kind) (shapes_ordered program kind (lane_shapes before (lanes_of program own)) cells kinds (lanes_ordered before (lanes_of program own))) (shapes_ordered program kind before cells kinds ordered)
  where
    by_kind : (b : Bool) → IsOrdered (shapes_by program kind (lane_shapes before (lanes_of program own)) cells kinds) → IsOrdered (shapes_by program kind before cells kinds)
        → IsOrdered (if b then shapes_by program kind (lane_shapes before (lanes_of program own)) cells kinds else shapes_by program kind before cells kinds)
    by_kind true taken passed = taken
    by_kind false taken passed = passed

used_ordered : (shapes : List LaneShape) → IsOrdered shapes → IsOrdered (map used shapes)
used_ordered [] ordered = tt
used_ordered (s ∷ shapes) ordered = (kept 0 s.modes ordered.0, used_ordered shapes ordered.1)

kind_ordered : (program : Program) (kind : ℕ) → IsOrdered (kind_shape program kind)
kind_ordered program kind = used_ordered (shapes_by program kind [] program.cells program.kinds) (shapes_ordered program kind [] program.cells program.kinds tt)

-- and so they do in the shapes of all kinds
pub kinds_ordered : (program : Program) (k n : ℕ) → AllByRecursion IsOrdered (map (kind_shape program) (range_with_len k n))
kinds_ordered program k zero = tt
kinds_ordered program k (suc n) = (kind_ordered program k, kinds_ordered program (k + 1) n)
