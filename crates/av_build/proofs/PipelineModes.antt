-- The lane of a helper, from the moments of its place.
use Rattle.std.proofs.Common.{◌≡◌, ℕ, zero, suc, ◌+◌, ◌<◌, List, [], ◌∷◌, length, refl, sym, ap, subst, ◌∙◌, IsTrue, true, Some, if◌then◌else◌}
use Rattle.std.specs.Prelude.{slice_get}
use Rattle.av_base.specs.declared.width.Width.{Width}
use Rattle.av_base.proofs.Lists.{some_is, place_in}
use Rattle.av_tree.specs.Points.{Point}
use Rattle.av_flat.specs.declared.timed.Helper.{Helper}
use Rattle.av_flat.specs.Trees.{Tree, reference}
use Rattle.av_flat.specs.Points.{has}
use Rattle.av_flat.specs.Broadcasts.{Reference}
use Rattle.av_flat.specs.Helped.{before, IsEntry}
use Rattle.av_depend.specs.ComputedPlaces.{computed_at}
use Rattle.av_space.specs.declared.layout.Slot.{Slot}
use Rattle.av_space.specs.Links.{line_length}
use Rattle.av_kinds.specs.declared.counter.Counter.{Counter}
use Rattle.av_kinds.specs.declared.program.Inlet.{Inlet}
use Rattle.av_kinds.specs.declared.program.Inlet.TheVariants.{Inputs, Taps}
use Rattle.av_kinds.specs.Counters.{count_in, number_count}
use Rattle.av_kinds.specs.Programs.{Mode, is_active, Lane}
use Rattle.av_history.specs.Performing.{Array, ComputesOn, Lanes, Spot, IsReferenceSource, IsPipelineSource}
use Rattle.av_history.specs.Widths.{width_at}
use Rattle.av_space.specs.Taps.{entries}
use Rattle.av_build.specs.declared.moments.PipelineMoments.{PipelineMoments}
use Rattle.av_build.specs.inner.Windows.{windows_by}
use Rattle.av_build.specs.inner.Moments.{site_by}
use Rattle.av_build.specs.inner.Orders.{IsInOrder}
use Rattle.av_build.specs.inner.Programmed.{IsModeFor, AreAlone, one_site, IsHelperLane}
use Rattle.av_build.specs.inner.Sources.{ArePipelineMomentsTo}
use Rattle.av_build.proofs.AloneLemmas.{both_hold}
use Rattle.av_build.proofs.ModeLemmas.{mode_for}
use Rattle.av_build.proofs.MomentLemmas.{AreSpotSlots, site_for}
use Rattle.av_build.proofs.SiteLemmas.{site_inlet, site_width}

module _ (a : Array) (counter : Counter) (lanes : Lanes) (at : Spot) (j : ℕ) (h : Helper) (r : Reference)
    (within : (c d m n : ℕ) (y z : Point) → ComputesOn a at.cell c m y → ComputesOn a at.cell d n z → d < c + number_count counter)
    (one : (c m n : ℕ) (y z : Point) → ComputesOn a at.cell c m y → ComputesOn a at.cell c n z → (m ≡ n) × (y ≡ z))
    (slots : List Slot) (are_slots : AreSpotSlots a at slots) (order : List ℕ) (in_order : IsInOrder (count_in counter) slots order)
    (found : PipelineMoments) (are : ArePipelineMomentsTo a (count_in counter) lanes at h.site (record { number = j; direction = h.direction }) (reference r.place r.map) slots order (length order) found) where
  abbrev Entry : Point → Type 0
  Entry z = IsEntry at.piece.domain h.direction z

  abbrev Own : Point → Type 0
  Own z = IsTrue (has at.piece.domain (before z h.direction))

  -- of the piece
  abbrev Inside : ℕ → Point → Type 0
  Inside n z = (n ≡ at.node) × IsTrue (has at.piece.domain z)

  abbrev tree : Tree
  tree = reference r.place r.map

  each : (k : ℕ) (slot : Slot) → slice_get slots k ≡ Some slot → (n : ℕ) × ComputesOn a at.cell slot.cycle n slot.point × Inside n slot.point
  each k slot is = let s = are_slots.each k slot is in (at.node, s.0, (refl, s.1))

  all : (c n : ℕ) (z : Point) → ComputesOn a at.cell c n z → Inside n z → (k : ℕ) × (slice_get slots k ≡ Some (record { cycle = c; point = z }))
  all c n z computes inside = place_in slots (record { cycle = c; point = z }) (are_slots.all c z (subst (λ (m : ℕ). ComputesOn a at.cell c m z) inside.0 computes) inside.1)

  module _ (entry_width own_width : Width) (entry_bits : entry_width.bits ≡ width_at a.system r.place) (own_bits : own_width.bits ≡ at.variable.width) where
    abbrev entry_inlet : Inlet
    entry_inlet = if computed_at (slice_get a.system.variables r.place) then Taps else Inputs

    abbrev entry_mode : Mode
    entry_mode = record { windows = windows_by found.entry_marks; work = one_site (site_by entry_inlet entry_width found.entries) tree }

    abbrev own_mode : Mode
    own_mode = record { windows = windows_by found.own_marks; work = one_site (site_by Taps own_width found.own) tree }

    entry_numbers : IsModeFor a (count_in counter) at.cell Inside (λ n z. Entry z) entry_mode
    entry_numbers = mode_for a (count_in counter) at.cell slots order in_order Inside (λ n z. Entry z) (λ slot. Entry slot.point) each all (λ c n z computes inside. ((λ x. x), (λ x. x))) found.entry_marks are.entry_marks (one_site (site_by entry_inlet entry_width found.entries) tree)

    own_numbers : IsModeFor a (count_in counter) at.cell Inside (λ n z. Own z) own_mode
    own_numbers = mode_for a (count_in counter) at.cell slots order in_order Inside (λ n z. Own z) (λ slot. Own slot.point) each all (λ c n z computes inside. ((λ x. x), (λ x. x))) found.own_marks are.own_marks (one_site (site_by Taps own_width found.own) tree)

    -- an entry point has no point before it
    never : (x : ℕ) → IsTrue (is_active x entry_mode) → IsTrue (is_active x own_mode) → ⊥
    never x active also =
        let there = both_hold a counter at.cell within one Inside (λ n z. Entry z) (λ n z. Own z) entry_mode own_mode entry_numbers own_numbers x active also in
        there.4.1 there.5

    alone : AreAlone (entry_mode ∷ own_mode ∷ [])
    alone x zero zero m n is_m is_n active also = refl
    alone x zero (suc zero) m n is_m is_n active also =
        absurd (never x (subst (λ (o : Mode). IsTrue (is_active x o)) (sym (some_is entry_mode m is_m)) active) (subst (λ (o : Mode). IsTrue (is_active x o)) (sym (some_is own_mode n is_n)) also))
    alone x (suc zero) zero m n is_m is_n active also =
        absurd (never x (subst (λ (o : Mode). IsTrue (is_active x o)) (sym (some_is entry_mode n is_n)) also) (subst (λ (o : Mode). IsTrue (is_active x o)) (sym (some_is own_mode m is_m)) active))
    alone x (suc zero) (suc zero) m n is_m is_n active also = refl
    alone x (suc (suc i)) k m n is_m is_n active also = absurd cc
    alone x zero (suc (suc k)) m n is_m is_n active also = absurd cc
    alone x (suc zero) (suc (suc k)) m n is_m is_n active also = absurd cc

    pub pipeline_lane : (lane : Lane) → lane.home ≡ at.cell → lane.rank ≡ suc j → lane.width.bits ≡ at.variable.width → lane.modes ≡ entry_mode ∷ own_mode ∷ [] → lane.length ≡ line_length a.system a.helpers a.cells a.links at.cell (Some j)
        → IsHelperLane a (count_in counter) lanes at j h r lane
    pipeline_lane lane home rank width modes size = record {
      home_is = home;
      rank_is = rank;
      width_is = width;
      entry_mode = entry_mode;
      own_mode = own_mode;
      modes_are = modes;
      entry_site = site_by entry_inlet entry_width found.entries;
      entry_work = refl;
      entry_inlet = site_inlet entry_inlet entry_width found.entries;
      entry_width = ap (λ (k : Width). k.bits) (site_width entry_inlet entry_width found.entries) ∙ entry_bits;
      entry_reads = site_for a (count_in counter) at slots are_slots order in_order Entry (λ z c source. IsReferenceSource a lanes at c h.site r.place r.map (entries h.direction) source) entry_inlet entry_width found.entries are.entries_are;
      own_site = site_by Taps own_width found.own;
      own_work = refl;
      own_inlet = site_inlet Taps own_width found.own;
      own_width = ap (λ (k : Width). k.bits) (site_width Taps own_width found.own) ∙ own_bits;
      own_reads = site_for a (count_in counter) at slots are_slots order in_order Own (λ z c source. IsPipelineSource a lanes at j h.direction h.site r.place r.map true c source) Taps own_width found.own are.own_are;
      entry_numbers = entry_numbers;
      own_numbers = own_numbers;
      alone = subst AreAlone (sym modes) alone;
      length_is = size;
    }
