-- The ports, wires and pipelines of a kind have their widths.
use Rattle.std.proofs.Common.{◌≡◌, ℕ, zero, suc, ◌+◌, ◌<◌, List, [], ◌∷◌, length, subst, ◌∙◌, ap, arith, Some}
use Rattle.std.specs.Prelude.{slice_get}
use Rattle.std.specs.List.{AllByRecursion}
use Rattle.av_base.specs.declared.width.Width.{Width}
use Rattle.av_base.proofs.Lists.{some_is}
use Rattle.av_net.specs.Meaning.{Widths}
use Rattle.av_net.specs.Names.{width_of}
use Rattle.av_net.specs.Flat.{kind_module}
use Rattle.av_kinds.specs.declared.program.Inlet.{Inlet}
use Rattle.av_kinds.specs.declared.program.Inlet.TheVariants.{Inputs, Taps, Pipe}
use Rattle.av_kinds.specs.declared.shape.SiteShape.{SiteShape}
use Rattle.av_kinds.specs.Names.{pipe_name}
use Rattle.av_kinds.specs.inner.Shapes.{ModeShape, LaneShape, IsInletShape, IsSiteShape, IsModeShape, IsKindShape}
use Rattle.av_kinds.specs.inner.Kinds.{lanes_outputs, kind_by}
use Rattle.av_kinds.proofs.Wide.{IsWide, PipeWide, IsPipeWide, ArePipesWide}
use Rattle.av_kinds.proofs.Shown.{LanesPipesWide}
use Rattle.av_kinds.proofs.ModuleWidths.{are_wide}
use Rattle.av_kinds.proofs.KindNames.{IsFewKind, kind_distinct}
use Rattle.av_kinds.proofs.KindDrives.{AreLanesFrom}
use Rattle.av_kinds.proofs.KindSound.{are_lanes}
use Rattle.av_kinds.proofs.PlanShown.{IsWideKind}

-- the output of a lane before the last one is that of its pipeline
pipe_wide : (widths : Widths) (k : ℕ) (lanes : List LaneShape) → AllByRecursion (IsWide widths) (lanes_outputs k lanes) → (h : ℕ) (lane : LaneShape) → slice_get lanes h ≡ Some lane → suc h < length lanes → (j : ℕ) → k + h ≡ j → widths (pipe_name j) ≡ lane.width.bits
pipe_wide widths k [] wide h lane is lt j at = absurd cc
pipe_wide widths k (first ∷ []) wide h lane is lt j at = absurd (omega (arith, lt))
pipe_wide widths k (first ∷ g ∷ lanes) wide zero lane is lt j at =
    let e : k ≡ j = omega (arith, at) in
    subst (λ i. widths (pipe_name i) ≡ lane.width.bits) e (wide.0 ∙ ap (λ (l : LaneShape). l.width.bits) (some_is first lane is))
pipe_wide widths k (first ∷ g ∷ lanes) wide (suc h) lane is lt j at = pipe_wide widths (k + 1) (g ∷ lanes) wide.1 h lane is (omega (arith, lt)) j (omega (arith, at))

module _ (widths : Widths) (all : List LaneShape) (outputs : AllByRecursion (IsWide widths) (lanes_outputs 0 all)) where
  site_pipes : (k : ℕ) → k < length all → (site : SiteShape) → IsSiteShape all k site → IsPipeWide widths site
  site_pipes k lt site = by_inlet site.inlet
    where
      by_inlet : (i : Inlet) → IsInletShape all k site.width i → PipeWide widths site.width i
      by_inlet Inputs h = tt
      by_inlet Taps h = tt
      by_inlet (Pipe h) is = pipe_wide widths 0 all outputs h is.0 is.1 (omega (arith, is.3, lt)) h (omega arith) ∙ ap (λ (w : Width). w.bits) is.2

  sites_pipes : (k : ℕ) → k < length all → (sites : List SiteShape) → AllByRecursion (IsSiteShape all k) sites → AllByRecursion (IsPipeWide widths) sites
  sites_pipes k lt [] are = tt
  sites_pipes k lt (site ∷ sites) are = (site_pipes k lt site are.0, sites_pipes k lt sites are.1)

  modes_pipes : (k w : ℕ) → k < length all → (modes : List ModeShape) → AllByRecursion (IsModeShape all k w) modes → ArePipesWide widths modes
  modes_pipes k w lt [] are = tt
  modes_pipes k w lt (m ∷ modes) are = (sites_pipes k lt m.sites are.0.sites, modes_pipes k w lt modes are.1)

  lanes_pipes : (k : ℕ) (lanes : List LaneShape) → AreLanesFrom all k lanes → LanesPipesWide widths lanes
  lanes_pipes k [] are = tt
  lanes_pipes k (lane ∷ lanes) are = (modes_pipes k lane.width.bits (there all k lane are.0) lane.modes are.1.modes, lanes_pipes (k + 1) lanes are.2)
    where
      there : (xs : List LaneShape) (i : ℕ) (x : LaneShape) → slice_get xs i ≡ Some x → i < length xs
      there [] i x is = absurd cc
      there (y ∷ xs) zero x is = omega arith
      there (y ∷ xs) (suc i) x is = let h = there xs i x is in omega (arith, h)

pub wide_kind : (number : ℕ) (shape : List LaneShape) → IsKindShape shape → IsFewKind shape → IsWideKind number shape
wide_kind number shape is few =
    let wide = are_wide (kind_module (kind_by number shape)) (kind_distinct number shape few) in
    record {
      ports = wide.inputs;
      wires = wide.wires;
      pipes = lanes_pipes (width_of (kind_module (kind_by number shape))) shape wide.outputs 0 shape (are_lanes shape is);
    }
