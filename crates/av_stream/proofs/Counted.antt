-- The period of an array is a number of the counter, and the computations of each cell are as near as it asks.
use Rattle.std.proofs.Common.{◌≡◌, ℕ, ◌<◌, ◌≤◌, ◌^◌, List, length, subst, arith, inl, inr}
use Rattle.std.specs.Prelude.{◌⊎◌}
use Rattle.av_flat.specs.declared.timed.Timed.{Timed}
use Rattle.av_flat.specs.Trees.{view_system}
use Rattle.av_flat.specs.Legal.{IsLegal}
use Rattle.av_space.specs.declared.cells.Cells.{Cells}
use Rattle.av_space.specs.declared.fault.SpaceFault.{SpaceFault}
use Rattle.av_space.specs.declared.fault.SpaceFault.TheVariants as fault
use Rattle.av_space.specs.SpaceFaults.{IsSpaceFault}
use Rattle.av_space.specs.Coordinates.{Placing}
use Rattle.av_space.specs.Occupancy.{Computes}
use Rattle.av_space.specs.Whole.{IsWhole}
use Rattle.av_space.proofs.OnePlacing.{one_placings}
use Rattle.av_kinds.specs.declared.counter.Counter.TheVariants.{Phases}
use Rattle.av_kinds.specs.Counters.{IsCounter}
use Rattle.av_build.specs.ArrayPlans.{IsWithinCount}
use Rattle.av_build.proofs.Connected.{few_cycles}
use Rattle.av_build.proofs.WithinCount.{few_cycles_of}
use Rattle.av_stream.specs.Periods.{IsSpan, IsPeriod, HasPeriod}

module _ (t : Timed) (a : Cells) (period : ℕ) (has : HasPeriod t a period) where
  pub within_count : IsWithinCount t a (Phases period)
  within_count = λ placings are p c d m n y z h g.
      (subst (λ (q : List Placing). IsPeriod (view_system t.flat) q a.cells period) (one_placings t.times has.placings placings has.are_placings are) has.is_period).enough p c d m n y z h g

  pub counts : IsLegal t → IsWhole t a → ((f : SpaceFault) → IsSpaceFault t f → f ≡ fault.Memory) → IsCounter (Phases period)
  counts legal whole within = by has.is_period.taken
    where
      by : IsSpan (view_system t.flat) has.placings a.cells period ⊎ ((length a.cells ≡ 0) × (period ≡ 1)) → (0 < period) × (period ≤ 2 ^ 12)
      by (inr none) = (omega (arith, none.1), omega (arith, none.1))
      by (inl span) =
          let some = has.is_period.enough span.cell span.first span.first span.first_node span.first_node span.first_point span.first_point span.begins span.begins in
          let same = one_placings t.times has.placings whole.list.placings has.are_placings whole.list.are_placings in
          let ends = subst (λ (q : List Placing). Computes (view_system t.flat) q a.cells span.cell span.last span.last_node span.last_point) same span.ends in
          let late : span.last < 4096 = few_cycles t a legal whole.list (few_cycles_of t a whole within) span.cell span.last span.last_node span.last_point ends in
          (omega (arith, some), omega (arith, late, span.many))
