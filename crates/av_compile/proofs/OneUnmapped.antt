-- A text has one first fault up to its array, and none where it has an array.
use Rattle.std.proofs.Common.{◌≡◌, ◌≢◌, ◌⊎◌, inl, inr, ℕ, ◌<◌, List, length, refl, sym, ap, subst, ◌∙◌, arith}
use Rattle.std.specs.Prelude.{Result, Ok, Err, IfOk}
use Rattle.std.specs.Result.{IsErrAnd}
use Rattle.av_flat.specs.declared.timed.Time.{Time}
use Rattle.av_flat.specs.declared.timed.Timed.{Timed}
use Rattle.av_flat.specs.Trees.{FlatSystem, view_system}
use Rattle.av_names.specs.declared.size.Size.{Size}
use Rattle.av_sched.specs.First.{IsFirstSchedule}
use Rattle.av_sched.proofs.OneSchedule.{one_schedule}
use Rattle.av_pipe.specs.Pipelines.{pipelines}
use Rattle.av_space.specs.declared.cells.Cell.{Cell}
use Rattle.av_space.specs.declared.cells.Link.{Link}
use Rattle.av_space.specs.declared.fault.SpaceFault.{SpaceFault}
use Rattle.av_space.specs.declared.fault.SpaceFault.TheVariants as space
use Rattle.av_space.specs.Coordinates.{Placing}
use Rattle.av_space.specs.Occupancy.{AreCells}
use Rattle.av_space.specs.Links.{AreLinks, delay_count}
use Rattle.av_space.specs.Quantities.{IsOperatorCount}
use Rattle.av_space.specs.SpaceFaults.{HasCells, HasLinks, IsCycles, IsCellNumber, IsDelays, IsLinkNumber, IsOperators, IsWithin, IsSpaceFault}
use Rattle.av_space.proofs.OneArray.{one_cells, one_cycle_count}
use Rattle.av_space.proofs.OneCount.{one_operator_count}
use Rattle.av_space.proofs.OneLinks.{one_links}
use Rattle.av_space.proofs.OnePlacing.{one_placings}
use Rattle.av_space.proofs.SameArray.{same_fault}
use Rattle.av_compile.specs.declared.refusal.Refusal.{Refusal}
use Rattle.av_compile.specs.declared.refusal.Refusal.TheVariants as refusal
use Rattle.av_compile.specs.Refusals.{of_space}
use Rattle.av_compile.specs.Mapped.{IsPipelined, HasArray, IsUnmapped, in_schedule, in_array}
use Rattle.av_compile.proofs.FirstFaults.{told}
use Rattle.av_compile.proofs.OneChain.{one_chained}
use Rattle.av_compile.proofs.OneRefusal.{memory_or_not}
use Rattle.av_compile.proofs.OneUnscheduled.{one_unscheduled, not_scheduled}
use Rattle.av_compile.proofs.Pipelined.{array_of}

-- ---- one number of each kind

module _ (t : Timed) where
  abbrev own : FlatSystem
  own = view_system t.flat

  same_placings : (cells others : List Cell) (h : HasCells t cells) (k : HasCells t others) → h.placings ≡ k.placings
  same_placings cells others h k = one_placings t.times h.placings k.placings h.are_placings k.are_placings

  same_cells : (cells others : List Cell) → HasCells t cells → HasCells t others → cells ≡ others
  same_cells cells others h k =
      one_cells own k.placings cells others (subst (λ (ps : List Placing). AreCells own ps cells) (same_placings cells others h k) h.are_cells) k.are_cells

  same_links : (cells others : List Cell) (links ways : List Link) → HasLinks t cells links → HasLinks t others ways → links ≡ ways
  same_links cells others links ways h k =
      let placings = same_placings cells others h.on k.on in
      let cells_too = same_cells cells others h.on k.on in
      one_links own t.helpers k.on.placings others links ways
      (subst (λ (cs : List Cell). AreLinks own t.helpers k.on.placings cs links) cells_too (subst (λ (ps : List Placing). AreLinks own t.helpers ps cells links) placings h.are_links)) k.are_links

  one_cycles : (m n : ℕ) → IsCycles t m → IsCycles t n → m ≡ n
  one_cycles m n h k = one_cycle_count own t.times m n h k

  one_cell_number : (m n : ℕ) → IsCellNumber t m → IsCellNumber t n → m ≡ n
  one_cell_number m n (cells, h, e) (others, k, d) = e ∙ ap (λ (cs : List Cell). length cs) (same_cells cells others h k) ∙ sym d

  one_delays : (m n : ℕ) → IsDelays t m → IsDelays t n → m ≡ n
  one_delays m n (cells, links, h, e) (others, ways, k, d) =
      e ∙ ap (λ (cs : List Cell). delay_count own t.helpers cs links) (same_cells cells others h.on k.on)
      ∙ ap (λ (ls : List Link). delay_count own t.helpers others ls) (same_links cells others links ways h k) ∙ sym d

  one_link_number : (m n : ℕ) → IsLinkNumber t m → IsLinkNumber t n → m ≡ n
  one_link_number m n (cells, links, h, e) (others, ways, k, d) = e ∙ ap (λ (ls : List Link). length ls) (same_links cells others links ways h k) ∙ sym d

  one_operators : (m n : ℕ) → IsOperators t m → IsOperators t n → m ≡ n
  one_operators m n (cells, h, i) (others, k, j) =
      one_operator_count own k.placings others m n
      (subst (λ (cs : List Cell). IsOperatorCount own k.placings cs m) (same_cells cells others h k) (subst (λ (ps : List Placing). IsOperatorCount own ps cells m) (same_placings cells others h k) i)) j

  -- ---- one first quantity above its limit

  -- a number above a limit is not within it
  never : (limit n : ℕ) (P : ℕ → Type 0) → ((a b : ℕ) → P a → P b → a ≡ b) → IsWithin limit P → P n → limit < n → ⊥
  never limit n P one (m, h, le) k lt = let e = one m n h k in omega (arith, e, le, lt)

  few_cycles : (n : ℕ) → IsWithin 4096 (IsCycles t) → IsCycles t n → 4096 < n → ⊥
  few_cycles n = never 4096 n (IsCycles t) one_cycles

  few_cells : (n : ℕ) → IsWithin 2048 (IsCellNumber t) → IsCellNumber t n → 2048 < n → ⊥
  few_cells n = never 2048 n (IsCellNumber t) one_cell_number

  few_delays : (n : ℕ) → IsWithin 32768 (IsDelays t) → IsDelays t n → 32768 < n → ⊥
  few_delays n = never 32768 n (IsDelays t) one_delays

  few_links : (n : ℕ) → IsWithin 16384 (IsLinkNumber t) → IsLinkNumber t n → 16384 < n → ⊥
  few_links n = never 16384 n (IsLinkNumber t) one_link_number

  one_space : (f g : SpaceFault) → IsSpaceFault t f → IsSpaceFault t g → f ≢ space.Memory → g ≢ space.Memory → f ≡ g
  one_space space.Memory g h i nf ng = absurd (nf refl)
  one_space (space.Cycles n) space.Memory h i nf ng = absurd (ng refl)
  one_space (space.Cells n) space.Memory h i nf ng = absurd (ng refl)
  one_space (space.Delays n) space.Memory h i nf ng = absurd (ng refl)
  one_space (space.Links n) space.Memory h i nf ng = absurd (ng refl)
  one_space (space.Operators n) space.Memory h i nf ng = absurd (ng refl)
  one_space (space.Cycles n) (space.Cycles m) h i nf ng = ap space.Cycles (one_cycles n m h.0 i.0)
  one_space (space.Cycles n) (space.Cells m) h i nf ng = absurd (few_cycles n i.0 h.0 h.1)
  one_space (space.Cycles n) (space.Delays m) h i nf ng = absurd (few_cycles n i.0 h.0 h.1)
  one_space (space.Cycles n) (space.Links m) h i nf ng = absurd (few_cycles n i.0 h.0 h.1)
  one_space (space.Cycles n) (space.Operators m) h i nf ng = absurd (few_cycles n i.0 h.0 h.1)
  one_space (space.Cells n) (space.Cycles m) h i nf ng = absurd (few_cycles m h.0 i.0 i.1)
  one_space (space.Cells n) (space.Cells m) h i nf ng = ap space.Cells (one_cell_number n m h.1 i.1)
  one_space (space.Cells n) (space.Delays m) h i nf ng = absurd (few_cells n i.1 h.1 h.2)
  one_space (space.Cells n) (space.Links m) h i nf ng = absurd (few_cells n i.1 h.1 h.2)
  one_space (space.Cells n) (space.Operators m) h i nf ng = absurd (few_cells n i.1 h.1 h.2)
  one_space (space.Delays n) (space.Cycles m) h i nf ng = absurd (few_cycles m h.0 i.0 i.1)
  one_space (space.Delays n) (space.Cells m) h i nf ng = absurd (few_cells m h.1 i.1 i.2)
  one_space (space.Delays n) (space.Delays m) h i nf ng = ap space.Delays (one_delays n m h.2 i.2)
  one_space (space.Delays n) (space.Links m) h i nf ng = absurd (few_delays n i.2 h.2 h.3)
  one_space (space.Delays n) (space.Operators m) h i nf ng = absurd (few_delays n i.2 h.2 h.3)
  one_space (space.Links n) (space.Cycles m) h i nf ng = absurd (few_cycles m h.0 i.0 i.1)
  one_space (space.Links n) (space.Cells m) h i nf ng = absurd (few_cells m h.1 i.1 i.2)
  one_space (space.Links n) (space.Delays m) h i nf ng = absurd (few_delays m h.2 i.2 i.3)
  one_space (space.Links n) (space.Links m) h i nf ng = ap space.Links (one_link_number n m h.3 i.3)
  one_space (space.Links n) (space.Operators m) h i nf ng = absurd (few_links n i.3 h.3 h.4)
  one_space (space.Operators n) (space.Cycles m) h i nf ng = absurd (few_cycles m h.0 i.0 i.1)
  one_space (space.Operators n) (space.Cells m) h i nf ng = absurd (few_cells m h.1 i.1 i.2)
  one_space (space.Operators n) (space.Delays m) h i nf ng = absurd (few_delays m h.2 i.2 i.3)
  one_space (space.Operators n) (space.Links m) h i nf ng = absurd (few_links m h.3 i.3 i.4)
  one_space (space.Operators n) (space.Operators m) h i nf ng = ap space.Operators (one_operators n m h.4 i.4)

-- ---- one first fault of a text

module _ (bytes : List ℕ) (words : List Size) (width c : ℕ) where
  -- two systems of one text have the same faults
  same_array : (t u : Timed) → IsPipelined bytes words width c t → IsPipelined bytes words width c u → (f : SpaceFault) → IsSpaceFault u f → IsSpaceFault t f
  same_array t u h k f fault =
      let same = one_chained bytes words width (view_system u.flat) (view_system t.flat) k.serialises h.serialises in
      let times = one_schedule (view_system t.flat) c u.times t.times (subst (λ (s : FlatSystem). IsFirstSchedule s c u.times) same k.first) h.first in
      let helpers = k.helpers ∙ ap (λ (s : FlatSystem). pipelines s u.times) same ∙ ap (λ (ts : List Time). pipelines (view_system t.flat) ts) times ∙ sym h.helpers in
      same_fault u t same times helpers f fault

  pub one_unmapped : (r q : Refusal) → IsUnmapped bytes words width c r → IsUnmapped bytes words width c q → r ≢ refusal.Memory → q ≢ refusal.Memory → r ≡ q
  one_unmapped r q (in_schedule h) (in_schedule k) nr nq = one_unscheduled bytes words width c r q h k nr nq
  one_unmapped r q (in_schedule h) (in_array g d t piped at) nr nq = absurd (not_scheduled bytes words width c (view_system t.flat) r piped.serialises piped.no_cause h nr)
  one_unmapped r q (in_array f e t piped is) (in_schedule k) nr nq = absurd (not_scheduled bytes words width c (view_system t.flat) q piped.serialises piped.no_cause k nq)
  one_unmapped r q (in_array f e t piped is) (in_array g d u other at) nr nq =
      let same = same_array t u piped other g at in
      e ∙ ap of_space (one_space t f g is same (λ z. nr (e ∙ ap of_space z)) (λ z. nq (d ∙ ap of_space z))) ∙ sym d

  -- a text with an array has no fault
  pub not_mapped : (t : Timed) (r : Refusal) → IsPipelined bytes words width c t → HasArray t → IsUnmapped bytes words width c r → r ≢ refusal.Memory → ⊥
  not_mapped t r h has (in_schedule is) some = not_scheduled bytes words width c (view_system t.flat) r h.serialises h.no_cause is some
  not_mapped t r h has (in_array f e u other is) some = some (e ∙ ap of_space (array_of bytes words width c t u h other has f is))

-- ---- what is answered where a cause holds

module _ {T : Type 0} (Is : Refusal → Type 0) (one : (f g : Refusal) → Is f → Is g → f ≢ refusal.Memory → g ≢ refusal.Memory → f ≡ g) where
  pub answered : (r : Result T Refusal) → IfOk r (λ to. (f : Refusal) → Is f → f ≢ refusal.Memory → ⊥) → ((f : Refusal) → r ≡ Err f → f ≢ refusal.Memory → Is f)
      → (f : Refusal) → Is f → f ≢ refusal.Memory → (r ≡ Err f) ⊎ (r ≡ Err refusal.Memory)
  answered (Ok to) none refused f is some = absurd (none f is some)
  answered (Err g) none refused f is some = compare g (λ n. one g f (refused g refl n) is n some) (memory_or_not g)
    where
      compare : (g : Refusal) → (g ≢ refusal.Memory → g ≡ f) → (g ≡ refusal.Memory) ⊎ (g ≢ refusal.Memory) → (◌≡◌ {A = Result T Refusal} (Err g) (Err f)) ⊎ (◌≡◌ {A = Result T Refusal} (Err g) (Err refusal.Memory))
      compare g same (inl m) = inr (ap Err m)
      compare g same (inr n) = inl (ap Err (same n))

  pub answered_error : (r : Result T Refusal) (e : Refusal) → IsErrAnd r (λ y. y ≡ e) → ((f : Refusal) → r ≡ Err f → f ≢ refusal.Memory → Is f)
      → (f : Refusal) → Is f → f ≢ refusal.Memory → (r ≡ Err f) ⊎ (r ≡ Err refusal.Memory)
  answered_error (Ok to) e h refused = absurd h
  answered_error (Err g) e h refused = answered (Err g) tt refused

  pub answered_memory : (r : Result T Refusal) → IsErrAnd r (λ y. y ≡ refusal.Memory) → (f : Refusal) → Is f → f ≢ refusal.Memory → (r ≡ Err f) ⊎ (r ≡ Err refusal.Memory)
  answered_memory r h = answered_error r refusal.Memory h (λ f is some. absurd (some (told r refusal.Memory f h is)))
