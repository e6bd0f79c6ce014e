-- The quantities of a layout are those of its system's array, and each other array has the same.
use Rattle.std.proofs.Common.{◌≡◌, ℕ, ◌<◌, ◌≤◌, List, length, refl, ap, subst, ◌∙◌, arith}
use Rattle.av_flat.specs.declared.timed.Timed.{Timed}
use Rattle.av_flat.specs.Trees.{FlatSystem, view_system}
use Rattle.av_space.specs.declared.cells.Cell.{Cell}
use Rattle.av_space.specs.declared.cells.Link.{Link}
use Rattle.av_space.specs.declared.fault.SpaceFault.{SpaceFault}
use Rattle.av_space.specs.declared.fault.SpaceFault.TheVariants as fault
use Rattle.av_space.specs.declared.layout.Layout.{Layout}
use Rattle.av_space.specs.inner.Scheduled.{Scheduled}
use Rattle.av_space.specs.Coordinates.{Placing}
use Rattle.av_space.specs.Occupancy.{AreCells}
use Rattle.av_space.specs.Links.{AreLinks, delay_count}
use Rattle.av_space.specs.Quantities.{IsOperatorCount}
use Rattle.av_space.specs.SpaceFaults.{HasCells, HasLinks, IsCycles, IsCellNumber, IsDelays, IsLinkNumber, IsWithin, IsSpaceFault}
use Rattle.av_space.specs.Layouts.{IsLayout}
use Rattle.av_space.specs.inner.Quantified.{AreWithin, LinksOf, delays_of}
use Rattle.av_space.proofs.OnePlacing.{one_placings}
use Rattle.av_space.proofs.OneArray.{one_cells, one_cycle_count}
use Rattle.av_space.proofs.OneLinks.{one_links}
use Rattle.av_space.proofs.OneCount.{one_operator_count}

module _ (of : Scheduled) (links : List Link) (linked : LinksOf of links) where
  abbrev t : Timed
  t = of.timed

  abbrev l : Layout
  l = of.layout

  abbrev own : FlatSystem
  own = view_system t.flat

  abbrev is : IsLayout t l
  is = linked.scheduled.layout

  abbrev has_cells : HasCells t l.cells
  has_cells = record { placings = l.placements; are_placings = is.are_placings; are_cells = is.are_cells }

  few_cycles : IsWithin 4096 (IsCycles t)
  few_cycles = (l.cycles, is.cycle_count, is.limit)

  few_cells : IsWithin 2048 (IsCellNumber t)
  few_cells = (length l.cells, (l.cells, has_cells, refl), is.few_cells)

  -- each other array stands on the same cells
  same_placings : (cells : List Cell) (on : HasCells t cells) → on.placings ≡ l.placements
  same_placings cells on = one_placings t.times on.placings l.placements on.are_placings is.are_placings

  same_cells : (cells : List Cell) → HasCells t cells → cells ≡ l.cells
  same_cells cells on = one_cells own l.placements cells l.cells (subst (λ (ps : List Placing). AreCells own ps cells) (same_placings cells on) on.are_cells) is.are_cells

  has_links : HasLinks t l.cells links
  has_links = record { on = has_cells; are_links = linked.are }

  same_links : (cells : List Cell) (others : List Link) → HasLinks t cells others → others ≡ links
  same_links cells others on = one_links own t.helpers l.placements l.cells others links
      (subst (λ (cs : List Cell). AreLinks own t.helpers l.placements cs others) (same_cells cells on.on) (subst (λ (ps : List Placing). AreLinks own t.helpers ps cells others) (same_placings cells on.on) on.are_links)) linked.are

  few_delays : delays_of of links ≤ 32768 → IsWithin 32768 (IsDelays t)
  few_delays few = (delays_of of links, (l.cells, links, has_links, refl), few)

  few_links : length links ≤ 16384 → IsWithin 16384 (IsLinkNumber t)
  few_links few = (length links, (l.cells, links, has_links, refl), few)

  pub delays_fault : (n : ℕ) → n ≡ delays_of of links → 32768 < n → IsSpaceFault t (fault.Delays n)
  delays_fault n e many = (few_cycles, few_cells, (l.cells, links, has_links, e), many)

  pub links_fault : delays_of of links ≤ 32768 → 16384 < length links → IsSpaceFault t (fault.Links (length links))
  links_fault few many = (few_cycles, few_cells, few_delays few, (l.cells, links, has_links, refl), many)

  pub operators_fault : delays_of of links ≤ 32768 → length links ≤ 16384 → (n : ℕ) → IsOperatorCount own l.placements l.cells n → 1048576 < n → IsSpaceFault t (fault.Operators n)
  operators_fault few some n counted many = (few_cycles, few_cells, few_delays few, few_links some, (l.cells, has_cells, counted), many)

  -- where all are within their limits, no fault but out of memory holds
  pub no_fault : AreWithin of links → (f : SpaceFault) → IsSpaceFault t f → f ≡ fault.Memory
  no_fault within (fault.Cycles n) (counted, many) =
      absurd (let e = one_cycle_count own t.times n l.cycles counted is.cycle_count in let h = is.limit in omega (arith, e, h, many))
  no_fault within (fault.Cells n) (cycles, (cells, on, e), many) =
      absurd (let f = ap (λ (cs : List Cell). length cs) (same_cells cells on) in let h = is.few_cells in omega (arith, e, f, h, many))
  no_fault within (fault.Delays n) (cycles, number, (cells, others, on, e), many) =
      let f : delay_count own t.helpers cells others ≡ delays_of of links = ap (λ (cs : List Cell). delay_count own t.helpers cs others) (same_cells cells on.on) ∙ ap (λ (ls : List Link). delay_count own t.helpers l.cells ls) (same_links cells others on) in
      absurd (let few = within.delays in omega (arith, e, f, few, many))
  no_fault within (fault.Links n) (cycles, number, delays, (cells, others, on, e), many) =
      absurd (let f = ap (λ (ls : List Link). length ls) (same_links cells others on) in let some = within.links_are in omega (arith, e, f, some, many))
  no_fault within (fault.Operators n) (cycles, number, delays, some, (cells, on, counted), many) =
      let there = subst (λ (cs : List Cell). IsOperatorCount own l.placements cs n) (same_cells cells on) (subst (λ (ps : List Placing). IsOperatorCount own ps cells n) (same_placings cells on) counted) in
      let f = one_operator_count own l.placements l.cells n within.operators.0 there within.operators.1 in
      absurd (let h = within.operators.2 in omega (arith, f, h, many))
  no_fault within fault.Memory h = refl
