-- Plans of arrays that take problem after problem: what is promised of the plan that is built of a timed system and its array (own form, after the
-- usual picture of a systolic array that is kept busy: H. T. Kung 1982).
use Rattle.std.specs.Prelude.{◌≡◌, ℕ, List, length, All, Some, slice_get}
use Rattle.av_tree.specs.Values.{Assignment}
use Rattle.av_flat.specs.declared.timed.Timed.{Timed}
use Rattle.av_flat.specs.Trees.{view_system}
use Rattle.av_flat.specs.OneSolution.{AreInputs, HasOneSolution}
use Rattle.av_flat.specs.Solutions.{IsSolution}
use Rattle.av_net.specs.declared.design.Design.{Design}
use Rattle.av_net.specs.Flat.{flat_of}
use Rattle.av_space.specs.declared.cells.Cells.{Cells}
use Rattle.av_kinds.specs.declared.counter.Counter.TheVariants.{Phases}
use Rattle.av_build.specs.ArrayPlans.{IsArrayPlan}
use Rattle.av_stream.specs.declared.building.Streamed.{Streamed}
use Rattle.av_stream.specs.Periods.{HasPeriod}
use Rattle.av_stream.specs.Streams.{AreApartEach, IsPresentableEach, ShowsEach}

-- an assignment for each of the inputs, which is a solution for it
pub record AreSolutions (t : Timed) (xs us : List Assignment) : Type 0 where
  pub one_each : length us ≡ length xs
  pub each : (b : ℕ) (x u : Assignment) → slice_get xs b ≡ Some x → slice_get us b ≡ Some u → IsSolution (view_system t.flat) x u

-- each of the inputs has one solution, they can be presented with the period, and the design shows the solutions with it
pub record ShowsSolutions (t : Timed) (d : Design) (period : ℕ) (xs : List Assignment) : Type 0 where
  pub one : All (HasOneSolution (view_system t.flat)) xs
  pub presentable : IsPresentableEach d period xs
  pub shows : (us : List Assignment) → AreSolutions t xs us → ShowsEach d period xs us

-- the plan of the array whose cells choose by the phase of its period. No port is asked for two words in one cycle, however many problems there are,
-- and for every list of inputs, of any length, the flat design of the plan shows the solutions with the period.
pub record IsStreamOf (t : Timed) (a : Cells) (s : Streamed) : Type 0 where
  pub has_period : HasPeriod t a s.period
  pub is_plan : IsArrayPlan t a (Phases s.period) s.plan
  pub apart : AreApartEach a.listing.ins s.period
  pub shows : (xs : List Assignment) → All (AreInputs (view_system t.flat)) xs → ShowsSolutions t (flat_of s.plan) s.period xs
