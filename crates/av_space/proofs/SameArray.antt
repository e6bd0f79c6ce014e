-- Timed systems with the same system, times and helpers have the same quantities.
use Rattle.std.proofs.Common.{◌≡◌, ℕ, List, ap, subst, ◌∙◌}
use Rattle.av_flat.specs.declared.timed.Time.{Time}
use Rattle.av_flat.specs.declared.timed.Helper.{Helper}
use Rattle.av_flat.specs.declared.timed.Timed.{Timed}
use Rattle.av_flat.specs.Trees.{FlatSystem, view_system}
use Rattle.av_space.specs.declared.cells.Cell.{Cell}
use Rattle.av_space.specs.declared.cells.Link.{Link}
use Rattle.av_space.specs.declared.fault.SpaceFault.{SpaceFault}
use Rattle.av_space.specs.declared.fault.SpaceFault.TheVariants as fault
use Rattle.av_space.specs.Coordinates.{ArePlacings}
use Rattle.av_space.specs.Occupancy.{AreCells}
use Rattle.av_space.specs.Links.{AreLinks, delay_count}
use Rattle.av_space.specs.Quantities.{IsCycleCount, IsOperatorCount}
use Rattle.av_space.specs.SpaceFaults.{HasCells, HasLinks, IsCycles, IsCellNumber, IsDelays, IsLinkNumber, IsOperators, IsWithin, IsSpaceFault}

module _ (t u : Timed) (system : view_system t.flat ≡ view_system u.flat) (times : t.times ≡ u.times) (helpers : t.helpers ≡ u.helpers) where
  abbrev cells_too : (cells : List Cell) → HasCells t cells → HasCells u cells
  cells_too cells on = record {
    placings = on.placings;
    are_placings = subst (λ (ts : List Time). ArePlacings ts on.placings) times on.are_placings;
    are_cells = subst (λ (s : FlatSystem). AreCells s on.placings cells) system on.are_cells;
  }

  abbrev links_too : (cells : List Cell) (links : List Link) → HasLinks t cells links → HasLinks u cells links
  links_too cells links l = record {
    on = cells_too cells l.on;
    are_links = subst (λ (hs : List Helper). AreLinks (view_system u.flat) hs l.on.placings cells links) helpers (subst (λ (s : FlatSystem). AreLinks s t.helpers l.on.placings cells links) system l.are_links);
  }

  cycles_too : (n : ℕ) → IsCycles t n → IsCycles u n
  cycles_too n h = subst (λ (ts : List Time). IsCycleCount (view_system u.flat) ts n) times (subst (λ (s : FlatSystem). IsCycleCount s t.times n) system h)

  number_too : (n : ℕ) → IsCellNumber t n → IsCellNumber u n
  number_too n (cells, on, e) = (cells, cells_too cells on, e)

  delays_too : (n : ℕ) → IsDelays t n → IsDelays u n
  delays_too n (cells, links, l, e) =
      (cells, links, links_too cells links l, e ∙ ap (λ (s : FlatSystem). delay_count s t.helpers cells links) system ∙ ap (λ (hs : List Helper). delay_count (view_system u.flat) hs cells links) helpers)

  link_number_too : (n : ℕ) → IsLinkNumber t n → IsLinkNumber u n
  link_number_too n (cells, links, l, e) = (cells, links, links_too cells links l, e)

  operators_too : (n : ℕ) → IsOperators t n → IsOperators u n
  operators_too n (cells, on, counted) = (cells, cells_too cells on, subst (λ (s : FlatSystem). IsOperatorCount s on.placings cells n) system counted)

  within_too : (limit : ℕ) (P Q : ℕ → Type 0) → ((n : ℕ) → P n → Q n) → IsWithin limit P → IsWithin limit Q
  within_too limit P Q f (n, h, le) = (n, f n h, le)

  few_cycles : IsWithin 4096 (IsCycles t) → IsWithin 4096 (IsCycles u)
  few_cycles = within_too 4096 (IsCycles t) (IsCycles u) cycles_too

  few_cells : IsWithin 2048 (IsCellNumber t) → IsWithin 2048 (IsCellNumber u)
  few_cells = within_too 2048 (IsCellNumber t) (IsCellNumber u) number_too

  few_delays : IsWithin 32768 (IsDelays t) → IsWithin 32768 (IsDelays u)
  few_delays = within_too 32768 (IsDelays t) (IsDelays u) delays_too

  few_links : IsWithin 16384 (IsLinkNumber t) → IsWithin 16384 (IsLinkNumber u)
  few_links = within_too 16384 (IsLinkNumber t) (IsLinkNumber u) link_number_too

  pub same_fault : (f : SpaceFault) → IsSpaceFault t f → IsSpaceFault u f
  same_fault (fault.Cycles n) (h, many) = (cycles_too n h, many)
  same_fault (fault.Cells n) (a, h, many) = (few_cycles a, number_too n h, many)
  same_fault (fault.Delays n) (a, b, h, many) = (few_cycles a, few_cells b, delays_too n h, many)
  same_fault (fault.Links n) (a, b, c, h, many) = (few_cycles a, few_cells b, few_delays c, link_number_too n h, many)
  same_fault (fault.Operators n) (a, b, c, d, h, many) = (few_cycles a, few_cells b, few_delays c, few_links d, operators_too n h, many)
  same_fault fault.Memory h = tt
