-- Wires that are watched while a module is clocked in lanes.
use Rattle.std.proofs.Common.{◌≡◌, ℕ, suc, ◌+◌, ◌<◌, ◌≤◌, Bool, true, false, List, [], ◌∷◌, length, get_or, drop, replicate, Some, slice_get, refl, sym, ap, ◌∙◌, subst, arith}
use Rattle.std.specs.Prelude.{nat_eq, nat_lt, if◌then◌else◌, slice_index, slice_set, All, Contains}
use Rattle.std.proofs.lemmas.Bool.{eq-eqb, eqb-true, ltb-true}
use Rattle.std.proofs.lemmas.List.{length-replicate}
use Rattle.std.proofs.lemmas.Option.{slice_get_within}
use Rattle.av_base.proofs.Lists.{all_at}
use Rattle.av_net.specs.declared.netlist.Drive.{Drive}
use Rattle.av_net.specs.declared.netlist.Port.{Port}
use Rattle.av_net.specs.declared.netlist.Module.{Module}
use Rattle.av_net.specs.declared.design.Entry.{Entry}
use Rattle.av_net.specs.Meaning.{Words}
use Rattle.av_net.specs.Names.{names_of, given_names, all_names}
use Rattle.av_net.specs.Settled.{Settled, Agree}
use Rattle.av_net.specs.Clocked.{Edge}
use Rattle.av_net.specs.Sound.{IsSound}
use Rattle.av_lanes.specs.Seen.{Seen, lane, carried}
use Rattle.av_lanes.proofs.ByLane.{lane_set, lane_size, lane_replicate}
use Rattle.av_data.specs.declared.stimulus.Stimulus.{Stimulus}
use Rattle.av_wave.specs.Clocking.{ForRuns, AreLeft}
use Rattle.av_wave.proofs.Cycling.{presented, settled_cycle, reset_registers, tick_registers}
use Rattle.av_commands.specs.inner.LaneClocking.{AreLeftInLanes, ArePresentedInLanes}
use Rattle.av_commands.specs.inner.Watching.{AreTaps, noted, watched}
use Rattle.av_commands.proofs.LanesPresented.{zero_at}
use Rattle.av_commands.proofs.Watched.{tap_word, mixed, mixed_noted, mixed_passed, agree_on, watched_more}

-- ---- one cycle

-- a line more is of the cycle, or it is not
pub lane_noted : (m : Module) (lines : List Entry) (taps : List ℕ) (v : Words) (k cycle i : ℕ) (line : Entry) (row : List ℕ) (start rows rows' : List (List ℕ)) → AreTaps m lines (length lines) taps → slice_get lines i ≡ Some line
    → length start ≡ length lines → lane k rows ≡ mixed v cycle i lines (lane k start) → line.cycle ≡ cycle → ((d : Drive) → slice_index row k ≡ v (get_or m.drives (slice_index taps i) d).target)
    → rows' ≡ slice_set rows i row → lane k rows' ≡ mixed v cycle (i + 1) lines (lane k start)
lane_noted m lines taps v k cycle i line row start rows rows' are there long so here value e =
    ap (lane k) e ∙ lane_set k rows i row ∙ ap (λ (z : List ℕ). slice_set z i (slice_index row k)) so
    ∙ ap (slice_set (mixed v cycle i lines (lane k start)) i) (tap_word m lines taps i (slice_index row k) line v are there value)
    ∙ sym (mixed_noted v cycle i lines (lane k start) line there (lane_size k start ∙ long) (eq-eqb line.cycle cycle here))
    ∙ ap (λ n. mixed v cycle n lines (lane k start)) next
  where
    next : suc i ≡ i + 1
    next = omega arith

pub lane_passed : (lines : List Entry) (v : Words) (k cycle i : ℕ) (line : Entry) (start rows rows' : List (List ℕ)) → slice_get lines i ≡ Some line
    → length start ≡ length lines → lane k rows ≡ mixed v cycle i lines (lane k start) → (line.cycle ≡ cycle → ⊥) → rows' ≡ rows → lane k rows' ≡ mixed v cycle (i + 1) lines (lane k start)
lane_passed lines v k cycle i line start rows rows' there long so other e =
    ap (lane k) e ∙ so ∙ sym (mixed_passed v cycle i lines (lane k start) line there (lane_size k start ∙ long) (differ (nat_eq line.cycle cycle) refl))
    ∙ ap (λ n. mixed v cycle n lines (lane k start)) next
  where
    next : suc i ≡ i + 1
    next = omega arith

    differ : (t : Bool) → nat_eq line.cycle cycle ≡ t → nat_eq line.cycle cycle ≡ false
    differ true f = absurd (other (eqb-true line.cycle cycle f))
    differ false f = f

-- as many rows are noted as there were
noted_long : (v : Words) (cycle : ℕ) (lines : List Entry) (words : List ℕ) → length words ≡ length lines → length (noted v cycle lines words) ≡ length words
noted_long v cycle [] words e = refl
noted_long v cycle (line ∷ lines) [] e = refl
noted_long v cycle (line ∷ lines) (word ∷ words) e = ap suc (noted_long v cycle lines words (omega (arith, e)))

-- ---- all cycles

-- c cycles were watched in each lane, and the registers have the words of the next one
pub record AreWatching (m : Module) (stimuli : List Stimulus) (lines : List Entry) (c : ℕ) (lanes : Seen) (next : List ℕ) (rows : List (List ℕ)) : Type 0 where
  pub of : lanes.of ≡ m
  pub registers : (k : ℕ) (s : Stimulus) → slice_get stimuli k ≡ Some s → ForRuns m s (λ run. c < s.cycles → Agree (names_of m.registers) (carried k lanes) (run.in_cycle c))
  pub left : AreLeftInLanes m.inputs stimuli c 0 next
  pub long : length rows ≡ length lines
  pub watched_so : (k : ℕ) (s : Stimulus) → slice_get stimuli k ≡ Some s → ForRuns m s (λ run. lane k rows ≡ watched run.in_cycle c lines)

-- nothing is watched before the first cycle
zeros_watched : (in_cycle : ℕ → Words) (lines : List Entry) → replicate (length lines) 0 ≡ watched in_cycle 0 lines
zeros_watched in_cycle [] = refl
zeros_watched in_cycle (line ∷ lines) =
    ap (λ (z : List ℕ). 0 ∷ z) (zeros_watched in_cycle lines) ∙ ap (λ (t : Bool). (if t then in_cycle line.cycle line.wire else 0) ∷ watched in_cycle 0 lines) (sym (never (nat_lt line.cycle 0) refl))
  where
    never : (t : Bool) → nat_lt line.cycle 0 ≡ t → nat_lt line.cycle 0 ≡ false
    never true e = absurd (let lt = ltb-true line.cycle 0 e in omega (arith, lt))
    never false e = e

pub first_watching : (m : Module) (stimuli : List Stimulus) (lines : List Entry) (before lanes : Seen) (rows : List (List ℕ)) → IsSound m → length stimuli ≤ 8 → lanes.of ≡ m
    → ((k : ℕ) → k < 8 → Edge lanes.of true (carried k before) (carried k lanes)) → All (λ s. AreLeft m.inputs s.values 0 0 s.values) stimuli → rows ≡ replicate (length lines) (replicate 8 0)
    → AreWatching m stimuli lines 0 lanes (replicate 8 0) rows
first_watching m stimuli lines before lanes rows sound few of edge left zeros = record {
  of = of;
  registers = λ k s at.
      let inside : k < 8 = omega (arith, slice_get_within stimuli k s at, few) in
      reset_registers m s (carried k before) (carried k lanes) sound (subst (λ x. Edge x true (carried k before) (carried k lanes)) of (edge k inside));
  left = record {
    within = λ k s at. (let none = zero_at 8 k in omega (arith, none));
    left = λ k s at. subst (λ n. AreLeft m.inputs s.values 0 0 (drop n s.values)) (sym (zero_at 8 k)) (all_at (λ (t : Stimulus). AreLeft m.inputs t.values 0 0 t.values) stimuli k s left at);
  };
  long = ap length zeros ∙ length-replicate (length lines) (replicate 8 0);
  watched_so = λ k s at stream run stimulated is.
      ap (lane k) zeros ∙ lane_replicate k (length lines) (replicate 8 0) ∙ ap (λ z. replicate (length lines) z) (zero_at 8 k) ∙ zeros_watched run.in_cycle lines;
}

module _ (m : Module) (stimuli : List Stimulus) (lines : List Entry) (inputs c : ℕ) (lanes seen seen' seen'' : Seen) (next next' : List ℕ) (rows rows' : List (List ℕ))
    (sound : IsSound m) (few : length stimuli ≤ 8) (count : inputs ≡ length m.inputs) (watching : AreWatching m stimuli lines c lanes next rows) (named : All (λ line. Contains (all_names m) line.wire) lines)
    (of : seen.of ≡ lanes.of) (of' : seen'.of ≡ seen.of) (of'' : seen''.of ≡ seen'.of)
    (presents : ArePresentedInLanes seen.of stimuli c inputs seen) (registers : (k : ℕ) → k < 8 → Agree (names_of seen.of.registers) (carried k lanes) (carried k seen))
    (settled : (k : ℕ) → k < 8 → Settled seen'.of (carried k seen')) (given : (k : ℕ) → k < 8 → Agree (given_names seen'.of) (carried k seen) (carried k seen'))
    (notes : (k : ℕ) → k < 8 → lane k rows' ≡ noted (carried k seen') c lines (lane k rows)) (edge : (k : ℕ) → k < 8 → Edge seen''.of false (carried k seen') (carried k seen''))
    (left : AreLeftInLanes seen.of.inputs stimuli (c + 1) 0 next') where
  first_at : seen.of ≡ m
  first_at = of ∙ watching.of

  then_at : seen'.of ≡ m
  then_at = of' ∙ first_at

  -- there is a lane for each stimulus
  inside : (k : ℕ) (s : Stimulus) → slice_get stimuli k ≡ Some s → k < 8
  inside k s at = omega (arith, slice_get_within stimuli k s at, few)

  agrees : (k : ℕ) (s : Stimulus) → slice_get stimuli k ≡ Some s → ForRuns m s (λ run. c < s.cycles → Agree (all_names m) (carried k seen') (run.in_cycle c))
  agrees k s at =
      let lt = inside k s at in
      let here = subst (λ x. ArePresentedInLanes x stimuli c inputs seen) first_at presents in
      let kept = subst (λ x. Agree (names_of x.registers) (carried k lanes) (carried k seen)) first_at (registers k lt) in
      let all : (i : ℕ) (port : Port) → slice_get m.inputs i ≡ Some port → i < inputs = λ i port e. (let w = slice_get_within m.inputs i port e in omega (arith, w, count)) in
      let carries = presented m s c (carried k seen) (λ i port e. here k s at i port (all i port e) e) in
      settled_cycle m s c (carried k seen) (carried k seen') sound carries (λ stream run stimulated is less i d there. sym (kept i d there) ∙ watching.registers k s at stream run stimulated is less i d there)
      (subst (λ x. Agree (given_names x) (carried k seen) (carried k seen')) then_at (given k lt)) (subst (λ x. Settled x (carried k seen')) then_at (settled k lt))

  pub lanes_go_on : All (λ s. c < s.cycles) stimuli → AreWatching m stimuli lines (c + 1) seen'' next' rows'
  lanes_go_on early = record {
    of = of'' ∙ then_at;
    registers = λ k s at.
        tick_registers m s c (carried k seen') (carried k seen'') sound (subst (λ x. Edge x false (carried k seen') (carried k seen'')) (of'' ∙ then_at) (edge k (inside k s at))) (agrees k s at);
    left = subst (λ (x : Module). AreLeftInLanes x.inputs stimuli (c + 1) 0 next') first_at left;
    long = same_long;
    watched_so = λ k s at stream run stimulated is.
        let less = all_at (λ (t : Stimulus). c < t.cycles) stimuli k s early at in
        notes k (inside k s at) ∙ ap (noted (carried k seen') c lines) (watching.watched_so k s at stream run stimulated is)
        ∙ watched_more run.in_cycle (carried k seen') c lines (agree_on m (carried k seen') (run.in_cycle c) lines (agrees k s at stream run stimulated is less) named);
  }
    where
      same_long : length rows' ≡ length lines
      same_long =
          let first = notes 0 (omega arith) in
          sym (lane_size 0 rows') ∙ ap length first ∙ noted_long (carried 0 seen') c lines (lane 0 rows) (lane_size 0 rows ∙ watching.long) ∙ lane_size 0 rows ∙ watching.long
