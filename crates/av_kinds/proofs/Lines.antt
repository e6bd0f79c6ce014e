-- Delay lines and the counter, in a run of a module that has the steps of a program.
use Rattle.std.proofs.Common.{◌≡◌, ℕ, zero, suc, ◌+◌, ◌-◌, ◌%◌, ◌^◌, ◌<◌, ◌≤◌, List, [], ◌∷◌, ◌++◌, map, refl, sym, subst, arith, ◌∙◌, ap, Bool, true, false, if◌then◌else◌, Some, mod-eq_of_lt}
use Rattle.std.specs.Prelude.{slice_get, nat_eq, ◌==◌}
use Rattle.std.specs.List.{AllByRecursion, range_with_len}
use Rattle.std.proofs.lemmas.List.Elements.{recursion_from_All}
use Rattle.av_base.proofs.Lists.{each_first, each_second, some_is}
use Rattle.av_net.specs.declared.netlist.Step.{Step}
use Rattle.av_net.specs.declared.netlist.Module.{Module}
use Rattle.av_net.specs.Meaning.{Words, Widths, word_of, bit}
use Rattle.av_net.specs.Settled.{Holds}
use Rattle.av_net.specs.Clocked.{Stream, Run, IsRun, Edge}
use Rattle.av_kinds.specs.declared.counter.Counter.{Counter}
use Rattle.av_kinds.specs.declared.counter.Counter.TheVariants.{Cycles, Phases}
use Rattle.av_kinds.specs.Programs.{Lane, Program}
use Rattle.av_kinds.specs.Names.{Labels, line_name, labels}
use Rattle.av_kinds.specs.Counters.{IsCounter, counter_name, count_in, next_name, last_name, sum_name}
use Rattle.av_kinds.specs.Tops.{line_step, lane_steps}
use Rattle.av_kinds.specs.inner.Counts.{counter_drives, counter_step}
use Rattle.av_kinds.proofs.Works.{chosen_bit}
use Rattle.av_kinds.proofs.Residues.{next_residue, last_test, next_of_all}

-- one step's part of an edge
abbrev Gets : Bool → Words → Words → Step → Type 0
Gets reset old new step = new step.register ≡ (if reset then step.reset else word_of old step.next)

pub each_in_range : {X : Type 0} (P : X → Type 0) (f : ℕ → X) (a n : ℕ) → AllByRecursion P (map f (range_with_len a n)) → (k : ℕ) → k < n → (j : ℕ) → a + k ≡ j → P (f j)
each_in_range P f a zero h k lt j is = absurd (omega arith)
each_in_range P f a (suc n) h zero lt j is = let e : a ≡ j = omega arith in subst (λ i. P (f i)) e h.0
each_in_range P f a (suc n) h (suc k) lt j is = each_in_range P f (a + 1) n h.1 k (omega arith) j (omega arith)

pub at_lane_steps : (P : Step → Type 0) (names : Labels) (q : ℕ) (lanes : List Lane) → AllByRecursion P (lane_steps names q lanes) → (k : ℕ) (lane : Lane) → slice_get lanes k ≡ Some lane → (p : ℕ) → q + k ≡ p → (d : ℕ) → d < lane.length → P (line_step names p d)
at_lane_steps P names q [] h k lane is p at d lt = absurd cc
at_lane_steps P names q (first ∷ lanes) h zero lane is p at d lt =
    let e : q ≡ p = omega arith in
    let same : first ≡ lane = some_is first lane is in
    let own = each_first P (map (line_step names q) (range_with_len 0 first.length)) (lane_steps names (q + 1) lanes) h in
    let long : d < first.length = subst (λ (l : Lane). d < l.length) (sym same) lt in
    subst (λ i. P (line_step names i d)) e (each_in_range P (line_step names q) 0 first.length own d long d (omega arith))
at_lane_steps P names q (first ∷ lanes) h (suc k) lane is p at d lt =
    at_lane_steps P names (q + 1) lanes (each_second P (map (line_step names q) (range_with_len 0 first.length)) (lane_steps names (q + 1) lanes) h) k lane is p (omega arith) d lt

module _ (program : Program) (m : Module) (more : List Step) (steps_are : m.steps ≡ lane_steps (labels program) 0 program.lanes ++ more) where
  all_steps : (reset : Bool) (old new : Words) → Edge m reset old new → AllByRecursion (Gets reset old new) (lane_steps (labels program) 0 program.lanes ++ more)
  all_steps reset old new edge = subst (AllByRecursion (Gets reset old new)) steps_are (recursion_from_All (Gets reset old new) m.steps edge)

  -- a register of a lane's line takes what stands before it on the line
  line_edge : (old new : Words) → Edge m false old new → (q : ℕ) (lane : Lane) → slice_get program.lanes q ≡ Some lane → (d : ℕ) → d < lane.length → new (line_name (labels program) q (suc d)) ≡ old (line_name (labels program) q d)
  line_edge old new edge q lane is d lt =
      let steps = lane_steps (labels program) 0 program.lanes in
      let lines = each_first (Gets false old new) steps more (all_steps false old new edge) in
      at_lane_steps (Gets false old new) (labels program) 0 program.lanes lines q lane is q (omega arith) d lt

  -- A line of a lane has the lane's word of so many cycles before, from any words at power-up.
  pub line_has : (n : ℕ) (stream : Stream) (run : Run) → IsRun m n stream run → (q : ℕ) (lane : Lane) → slice_get program.lanes q ≡ Some lane
      → (d : ℕ) → d ≤ lane.length → (j : ℕ) → j + d < n → run.in_cycle (j + d) (line_name (labels program) q d) ≡ run.in_cycle j ((labels program).value q)
  line_has n stream run is q lane at zero le j lt = let e : j + 0 ≡ j = omega arith in ap (λ c. run.in_cycle c ((labels program).value q)) e
  line_has n stream run is q lane at (suc d) le j lt =
      let next : j + suc d ≡ j + d + 1 = omega arith in
      let edge = line_edge (run.in_cycle (j + d)) (run.in_cycle (j + d + 1)) (is.edges (j + d) (omega arith)) q lane at d (omega arith) in
      ap (λ c. run.in_cycle c (line_name (labels program) q (suc d))) next ∙ edge ∙ line_has n stream run is q lane at d (omega arith) j (omega arith)

  -- ---- the counter

  counter_edge : (counter : Counter) → more ≡ counter_step counter ∷ [] → (reset : Bool) (old new : Words) → Edge m reset old new → new (counter_name counter) ≡ (if reset then 0 else old (next_name counter))
  counter_edge counter is reset old new edge =
      let rest = each_second (Gets reset old new) (lane_steps (labels program) 0 program.lanes) more (all_steps reset old new edge) in
      let own : AllByRecursion (Gets reset old new) (counter_step counter ∷ []) = subst (AllByRecursion (Gets reset old new)) is rest in
      own.0

-- what the counter's wires have, by what it has
next_has : (W : Widths) (counter : Counter) → IsCounter counter → W (counter_name counter) ≡ 12 → (v : Words) → AllByRecursion (Holds W v) (counter_drives counter) → (c : ℕ) → v (counter_name counter) ≡ count_in counter c → v (next_name counter) ≡ count_in counter (c + 1)
next_has W Cycles is wide v holds c now =
    let sum : v (next_name Cycles) ≡ (c % 2 ^ 12 + 1) % 2 ^ 12 = rw (wide, now) at holds.0 in
    sum ∙ next_of_all c
next_has W (Phases period) is wide v holds c now =
    let last : v last_name ≡ bit (c % period == (period - 1)) = rw now at holds.0 in
    let sum : v sum_name ≡ (c % period + 1) % 2 ^ 12 = rw (wide, now) at holds.1.0 in
    let next : v (next_name (Phases period)) ≡ (if nat_eq (c % period) (period - 1) then 0 else (c % period + 1) % 4096) = rw (last, sum) at holds.1.1.0 ∙ chosen_bit (nat_eq (c % period) (period - 1)) 0 ((c % period + 1) % 4096) in
    next ∙ ap (λ (b : Bool). if b then 0 else (c % period + 1) % 4096) (last_test (c % period) period is.0) ∙ next_residue c period is.0 is.1

first_count : (counter : Counter) → IsCounter counter → 0 ≡ count_in counter 0
first_count Cycles h = refl
first_count (Phases period) h = sym (mod-eq_of_lt h.0)

-- the counter has in each cycle its residue
pub counter_has : (program : Program) (m : Module) (counter : Counter) → m.steps ≡ lane_steps (labels program) 0 program.lanes ++ counter_step counter ∷ [] → IsCounter counter → (W : Widths) → W (counter_name counter) ≡ 12
    → (n : ℕ) (stream : Stream) (run : Run) → IsRun m n stream run → ((c : ℕ) → c < n → AllByRecursion (Holds W (run.in_cycle c)) (counter_drives counter))
    → (c : ℕ) → c < n → run.in_cycle c (counter_name counter) ≡ count_in counter c
counter_has program m counter steps is W wide n stream run is_run holds zero lt =
    counter_edge program m (counter_step counter ∷ []) steps counter refl true run.before (run.in_cycle 0) is_run.reset ∙ first_count counter is
counter_has program m counter steps is W wide n stream run is_run holds (suc c) lt =
    let next : suc c ≡ c + 1 = omega arith in
    let now = counter_has program m counter steps is W wide n stream run is_run holds c (omega arith) in
    let edge = counter_edge program m (counter_step counter ∷ []) steps counter refl false (run.in_cycle c) (run.in_cycle (c + 1)) (is_run.edges c (omega arith)) in
    let settled = next_has W counter is wide (run.in_cycle c) (holds c (omega arith)) c now in
    ap (λ k. run.in_cycle k (counter_name counter)) next ∙ edge ∙ settled ∙ ap (count_in counter) (sym next)
