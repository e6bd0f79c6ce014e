-- Each drive of a kind is of one sort in the flat module, where an instance has it once more under names of its own.
use Rattle.std.proofs.Common.{◌≡◌, ◌≢◌, ℕ, zero, suc, ◌+◌, ◌<◌, List, [], ◌∷◌, length, refl, sym, arith, ◌∙◌, ap, Bool, true, false, ◌||◌}
use Rattle.std.specs.Prelude.{Contains, nat_lt}
use Rattle.std.specs.List.{AllByRecursion, list_any}
use Rattle.std.proofs.lemmas.List.Elements.{Contains-append_left, Contains-append_right}
use Rattle.av_base.proofs.Lists.{each_append}
use Rattle.av_net.specs.declared.operation.Operand.TheVariants.{Name}
use Rattle.av_net.specs.declared.netlist.Drive.{Drive}
use Rattle.av_net.specs.Flat.{part_name, part_drive}
use Rattle.av_kinds.specs.declared.gates.LaneGate.{LaneGate}
use Rattle.av_kinds.specs.declared.program.Inlet.{Inlet}
use Rattle.av_kinds.specs.declared.program.Inlet.TheVariants.{Inputs, Taps, Pipe}
use Rattle.av_kinds.specs.declared.shape.SiteShape.{SiteShape}
use Rattle.av_kinds.specs.Names.{Naming, input_name, tap_name, pipe_name, inner_name, kind_counter}
use Rattle.av_kinds.specs.Sorts.{IsCounted}
use Rattle.av_kinds.specs.inner.Gates.{drives_from}
use Rattle.av_kinds.specs.inner.Cells.{GuardedDatapath}
use Rattle.av_kinds.specs.inner.Shapes.{ModeShape, LaneShape}
use Rattle.av_kinds.specs.inner.Interfaces.{PortCounts, options_by, last_by, tap_in, tap_of, past_site, taps_of, past_tested, tested_of, past_modes, last_of, datapaths_of}
use Rattle.av_kinds.specs.inner.Kinds.{selects, lane_counts, output_of, lane_built, lanes_drives}
use Rattle.av_kinds.proofs.SortedGates.{IsFree, IsSorted, AreSorted, Among, IsFreeTap, IsFreePath, lane_sorted}

or_first : (a b : Bool) → a ≡ true → (a || b) ≡ true
or_first true b e = refl
or_first false b e = absurd cc

pub or_second : (a b : Bool) → b ≡ true → (a || b) ≡ true
or_second true b e = refl
or_second false b e = e

some_test : (n : ℕ) → 0 < n → nat_lt 0 n ≡ true
some_test n lt = grind arith

more_test : (n : ℕ) → 1 < n → nat_lt 1 n ≡ true
more_test n lt = grind arith

abbrev first_letter : List ℕ → ℕ
first_letter [] = 0
first_letter (x ∷ xs) = x

options_many : (letter : Naming) (k b n : ℕ) → 0 < length (options_by letter k b n) → 0 < n
options_many letter k b zero lt = absurd (omega (arith, lt))
options_many letter k b (suc n) lt = omega arith

-- ---- an instance in which all names but the counter's are free

module _ (counter : List ℕ) (D : List Drive) (u : List ℕ) (free : (x : List ℕ) → x ≢ kind_counter → IsFree counter D u (Name x)) (Tested : Type 0) (is_count : Tested → IsCounted counter D (Name (part_name u kind_counter))) where
  other_letter : (x : List ℕ) (a : ℕ) → first_letter x ≡ a → a ≢ 99 → IsFree counter D u (Name x)
  other_letter x a e apart = free x (λ f. apart (sym e ∙ ap first_letter f))

  inner_free : (n i : ℕ) → IsFree counter D u (Name (inner_name n i))
  inner_free n i = other_letter (inner_name n i) 119 refl (λ e. omega (arith, e))

  input_free : (i : ℕ) → IsFree counter D u (Name (input_name i))
  input_free i = other_letter (input_name i) 105 refl (λ e. omega (arith, e))

  tap_letter_free : (i : ℕ) → IsFree counter D u (Name (tap_name i))
  tap_letter_free i = other_letter (tap_name i) 116 refl (λ e. omega (arith, e))

  pipe_free : (i : ℕ) → IsFree counter D u (Name (pipe_name i))
  pipe_free i = other_letter (pipe_name i) 112 refl (λ e. omega (arith, e))

  last_free : (letter : Naming) → ((i : ℕ) → IsFree counter D u (Name (letter i))) → (k n : ℕ) → IsFree counter D u (last_by letter k n)
  last_free letter fine k zero = fine k
  last_free letter fine k (suc n) = last_free letter fine (k + 1) n

  -- ---- places

  tap_free : (at : PortCounts) (site : SiteShape) → (0 < site.selections → Tested) → IsFreeTap counter D u Tested (tap_of at site)
  tap_free at site tested = by_inlet site.inlet
    where
      by_inlet : (i : Inlet) → IsFreeTap counter D u Tested (tap_in at i site.width site.selections)
      by_inlet Inputs = record { otherwise = last_free input_name input_free at.inputs site.selections; arms = λ lt. tested (options_many input_name at.inputs at.bounds site.selections lt) }
      by_inlet Taps = record { otherwise = last_free tap_name tap_letter_free at.taps site.selections; arms = λ lt. tested (options_many tap_name at.taps at.bounds site.selections lt) }
      by_inlet (Pipe h) = record { otherwise = pipe_free h; arms = λ lt. absurd (omega (arith, lt)) }

  abbrev AreTested : List SiteShape → Type 0
  AreTested sites = AllByRecursion (λ (s : SiteShape). 0 < s.selections → Tested) sites

  taps_free : (at : PortCounts) (sites : List SiteShape) → AreTested sites → AllByRecursion (IsFreeTap counter D u Tested) (taps_of at sites)
  taps_free at [] tested = tt
  taps_free at (s ∷ sites) tested = (tap_free at s tested.0, taps_free (past_site at s) sites tested.1)

  sites_tested : (sites : List SiteShape) → (list_any (λ (s : SiteShape). nat_lt 0 s.selections) sites ≡ true → Tested) → AreTested sites
  sites_tested [] tested = tt
  sites_tested (s ∷ sites) tested = (
    λ lt. tested (or_first (nat_lt 0 s.selections) (list_any (λ (x : SiteShape). nat_lt 0 x.selections) sites) (some_test s.selections lt)),
    sites_tested sites (λ e. tested (or_second (nat_lt 0 s.selections) (list_any (λ (x : SiteShape). nat_lt 0 x.selections) sites) e)),
  )

  all_tested : (sites : List SiteShape) → Tested → AreTested sites
  all_tested [] now = tt
  all_tested (s ∷ sites) now = (λ lt. now, all_tested sites now)

  -- ---- modes

  abbrev ModesFree : List GuardedDatapath → Type 0
  ModesFree modes = AllByRecursion (λ (t : GuardedDatapath). Tested × IsFreePath counter D u Tested t.datapath) modes

  later_modes : (at : PortCounts) (modes : List ModeShape) → Tested → ModesFree (tested_of at modes)
  later_modes at [] now = tt
  later_modes at (t ∷ []) now = tt
  later_modes at (t ∷ v ∷ modes) now = ((now, taps_free at t.sites (all_tested t.sites now)), later_modes (past_tested at t) (v ∷ modes) now)

  tested_modes : (at : PortCounts) (modes : List ModeShape) → (nat_lt 1 (length modes) ≡ true → Tested) → ModesFree (tested_of at modes)
  tested_modes at [] tested = tt
  tested_modes at (t ∷ []) tested = tt
  tested_modes at (t ∷ v ∷ modes) tested = later_modes at (t ∷ v ∷ modes) (tested (more_test (length (t ∷ v ∷ modes)) (omega arith)))

  last_mode : (at : PortCounts) (modes : List ModeShape) → (list_any selects modes ≡ true → Tested) → IsFreePath counter D u Tested (last_of at modes)
  last_mode at [] tested = tt
  last_mode at (t ∷ []) tested = taps_free at t.sites (sites_tested t.sites (λ e. tested (or_first (selects t) false e)))
  last_mode at (t ∷ v ∷ modes) tested = last_mode (past_tested at t) (v ∷ modes) (λ e. tested (or_second (selects t) (list_any selects (v ∷ modes)) e))

  -- ---- drives

  gates_sorted : (name : Naming) (n : ℕ) (gates : List LaneGate) → AreSorted counter D u gates → AllByRecursion (λ (d : Drive). IsSorted counter D u d.operation) (drives_from name n gates)
  gates_sorted name n [] h = tt
  gates_sorted name n (g ∷ gates) h = (h.0, gates_sorted name (n + 1) gates h.1)

  among_by : (name : Naming) (n : ℕ) (gates : List LaneGate) → ((d : Drive) → Contains (drives_from name n gates) d → Contains D (part_drive u d)) → Among counter D u name n gates
  among_by name n [] h = tt
  among_by name n (g ∷ gates) h = (h (record { target = name n; operation = g.operation }) (0, omega arith, refl), among_by name (n + 1) gates (λ d at. h d (suc at.0, (let lt = at.1 in omega (arith, lt)), at.2)))

  -- The drives of a kind are each of one sort, where their instance's stand in the flat module.
  pub lanes_sorted : (at : PortCounts) (n k : ℕ) (lanes : List LaneShape) → (list_any lane_counts lanes ≡ true → Tested) → ((d : Drive) → Contains (lanes_drives (Name kind_counter) at n k lanes) d → Contains D (part_drive u d))
      → AllByRecursion (λ (d : Drive). IsSorted counter D u d.operation) (lanes_drives (Name kind_counter) at n k lanes)
  lanes_sorted at n k [] tested among = tt
  lanes_sorted at n k (lane ∷ lanes) tested among =
      let b = lane_built (Name kind_counter) at n lane in
      let own = drives_from (inner_name n) 0 b.gates in
      let last : Drive = record { target = output_of k lanes; operation = b.root } in
      let more = lanes_drives (Name kind_counter) (past_modes at lane.modes) (n + length b.gates) (k + 1) lanes in
      let here = λ (e : lane_counts lane ≡ true). tested (or_first (lane_counts lane) (list_any lane_counts lanes) e) in
      let good = lane_sorted counter D u (inner_name n) (inner_free n) (Name kind_counter) Tested is_count lane.width (datapaths_of at lane.modes)
      (last_mode at lane.modes (λ e. here (or_second (nat_lt 1 (length lane.modes)) (list_any selects lane.modes) e)))
      (tested_modes at lane.modes (λ e. here (or_first (nat_lt 1 (length lane.modes)) (list_any selects lane.modes) e)))
      (among_by (inner_name n) 0 b.gates (λ d there. among d (Contains-append_left own (last ∷ more) d there))) in
      each_append (λ (d : Drive). IsSorted counter D u d.operation) own (last ∷ more) (gates_sorted (inner_name n) 0 b.gates good.gates) (
        good.root,
        lanes_sorted (past_modes at lane.modes) (n + length b.gates) (k + 1) lanes (λ e. tested (or_second (lane_counts lane) (list_any lane_counts lanes) e))
            (λ d there. among d (Contains-append_right own (last ∷ more) d (Contains-append_right (last ∷ []) more d there))),
      )
