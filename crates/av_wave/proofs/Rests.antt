-- What is left of a dump behind the line that begins a cycle, or behind the line of one of its changes.
use Rattle.std.proofs.Common.{◌≡◌, ℕ, zero, suc, ◌+◌, ◌-◌, ◌<◌, ◌≤◌, inl, inr, List, [], ◌∷◌, ◌++◌, map, refl, sym, ◌∙◌, ap, arith, subst, All, append_assoc}
use Rattle.std.specs.Prelude.{AllPairs}
use Rattle.std.specs.List.{AllByRecursion, flat_map, range_with_len}
use Rattle.std.proofs.lemmas.List.{append-nil}
use Rattle.std.proofs.lemmas.List.Elements.{All-head, All-tail}
use Rattle.av_base.proofs.Lists.{same_tail, each_weaker, pairs_rest}
use Rattle.av_net.specs.declared.netlist.Port.{Port}
use Rattle.av_wave.specs.declared.wave.Change.{Change}
use Rattle.av_wave.specs.Waves.{Recording, changes_in, IsBefore, IsOf, IsWave}
use Rattle.av_wave.specs.Dumps.{time_line, change_line, cycle_lines, head_lines, dump_lines}
use Rattle.av_wave.specs.inner.Written.{times, lines_to, last_cycle}
use Rattle.av_wave.proofs.Values.{in_here, in_other, in_none, behind_first}

-- ---- the rest of a dump

-- behind the line that begins this cycle, with so many cycles to come and these changes, these lines are left
pub data AreLeft (ports : List Port) : ℕ → ℕ → List Change → List (List ℕ) → Type 0 where
  end_left : {c : ℕ} → AreLeft ports zero c [] []
  change_left : {m c : ℕ} {g : Change} {gs : List Change} {lines : List (List ℕ)} → g.cycle ≡ c → AreLeft ports (suc m) c gs lines
      → AreLeft ports (suc m) c (g ∷ gs) (change_line ports g ∷ lines)
  cycle_left : {m c : ℕ} {gs : List Change} {lines : List (List ℕ)} → AreLeft ports m (c + 1) gs lines
      → AreLeft ports (suc m) c gs (time_line (c + 1) ∷ lines)

-- the changes that are left are of this cycle or of later ones
pub left_later : {ports : List Port} {m c : ℕ} {gs : List Change} {lines : List (List ℕ)} → AreLeft ports m c gs lines → AllByRecursion (λ g. c ≤ g.cycle) gs
left_later end_left = tt
left_later (change_left here rest) = (omega arith, left_later rest)
left_later {c = c} {gs = gs} (cycle_left rest) = each_weaker (λ (g : Change). c + 1 ≤ g.cycle) (λ (g : Change). c ≤ g.cycle) (λ g le. omega arith) gs (left_later rest)

-- of lines by cycles: a change of an earlier cycle adds none
without_first : (ports : List Port) (g : Change) (gs : List Change) (c m : ℕ) → g.cycle < c → flat_map (cycle_lines ports (g ∷ gs)) (range_with_len c m) ≡ flat_map (cycle_lines ports gs) (range_with_len c m)
without_first ports g gs c zero lt = refl
without_first ports g gs c (suc m) lt =
    ap (λ changes. (time_line c ∷ map (change_line ports) changes) ++ flat_map (cycle_lines ports (g ∷ gs)) (range_with_len (c + 1) m)) (in_other c g gs (λ e. absurd (omega arith)))
    ∙ ap (λ rest. cycle_lines ports gs c ++ rest) (without_first ports g gs (c + 1) m (omega arith))

-- the lines of the cycles from this one on
abbrev pub lines_from : List Port → List Change → ℕ → ℕ → List (List ℕ)
lines_from ports gs c m = flat_map (cycle_lines ports gs) (range_with_len c m) ++ time_line (c + m) ∷ []

pub left_lines : {ports : List Port} {m c : ℕ} {gs : List Change} {lines : List (List ℕ)} → AreLeft ports m c gs lines → lines_from ports gs c m ≡ time_line c ∷ lines
left_lines {c = c} end_left = ap (λ k. time_line k ∷ []) (let e : c + 0 ≡ c = omega arith in e)
left_lines {ports = ports} (change_left {m} {c} {g} {gs} {lines} here rest) =
    let later : g.cycle < c + 1 = omega arith in
    ap (λ changes. ((time_line c ∷ map (change_line ports) changes) ++ flat_map (cycle_lines ports (g ∷ gs)) (range_with_len (c + 1) m)) ++ time_line (c + suc m) ∷ []) (in_here c g gs here)
    ∙ ap (λ more. ((time_line c ∷ change_line ports g ∷ map (change_line ports) (changes_in c gs)) ++ more) ++ time_line (c + suc m) ∷ []) (without_first ports g gs (c + 1) m later)
    ∙ ap (λ more. time_line c ∷ change_line ports g ∷ more) (same_tail (time_line c) (time_line c) ((map (change_line ports) (changes_in c gs) ++ flat_map (cycle_lines ports gs) (range_with_len (c + 1) m)) ++ time_line (c + suc m) ∷ []) lines (left_lines rest))
left_lines {ports = ports} (cycle_left {m} {c} {gs} {lines} rest) =
    let none : changes_in c gs ≡ [] = in_none c gs (each_weaker (λ (g : Change). c + 1 ≤ g.cycle) (λ (g : Change). c < g.cycle) (λ g le. omega arith) gs (left_later rest)) in
    let last : c + suc m ≡ c + 1 + m = omega arith in
    ap (λ changes. ((time_line c ∷ map (change_line ports) changes) ++ flat_map (cycle_lines ports gs) (range_with_len (c + 1) m)) ++ time_line (c + suc m) ∷ []) none
    ∙ ap (λ k. time_line c ∷ (flat_map (cycle_lines ports gs) (range_with_len (c + 1) m) ++ time_line k ∷ [])) last
    ∙ ap (λ more. time_line c ∷ more) (left_lines rest)

-- ---- the rest of a wave

-- the cycles of the changes rise from one on, and stay below another
abbrev pub Rise : ℕ → ℕ → List Change → Type 0
Rise c n [] = c ≤ n
Rise c n (g ∷ gs) = (c ≤ g.cycle) × (g.cycle < n) × Rise g.cycle n gs

not_before : (g h : Change) → IsBefore g h → g.cycle ≤ h.cycle
not_before g h (inl lt) = omega arith
not_before g h (inr (same, below)) = omega arith

rise_from : (ports : List Port) (c n : ℕ) (gs : List Change) → c ≤ n → AllByRecursion (λ g. c ≤ g.cycle) gs → All (IsOf ports n) gs → AllPairs IsBefore gs → Rise c n gs
rise_from ports c n [] le from of pairs = le
rise_from ports c n (g ∷ gs) le from of pairs =
    let within : g.cycle < n = (All-head (IsOf ports n) g gs of).within in
    (from.0, within, rise_from ports g.cycle n gs (omega arith) (each_weaker (IsBefore g) (λ (h : Change). g.cycle ≤ h.cycle) (not_before g) gs (behind_first IsBefore g gs pairs)) (All-tail (IsOf ports n) g gs of) (pairs_rest IsBefore g gs pairs))

from_zero : (gs : List Change) → AllByRecursion (λ g. 0 ≤ g.cycle) gs
from_zero [] = tt
from_zero (g ∷ gs) = (omega arith, from_zero gs)

pub wave_rises : (w : Recording) → IsWave w → Rise 0 w.cycles w.changes
wave_rises w is = rise_from w.ports 0 w.cycles w.changes (omega arith) (from_zero w.changes) is.changes is.ascending

-- some cycles without a change
left_times : (ports : List Port) (k m c d : ℕ) (gs : List Change) (lines : List (List ℕ)) → c + k ≡ d → AreLeft ports m d gs lines
    → AreLeft ports (k + m) c gs (map time_line (range_with_len (c + 1) k) ++ lines)
left_times ports zero m c d gs lines e rest =
    let n : m ≡ zero + m = omega arith in
    let here : d ≡ c = omega arith in
    subst (λ j. AreLeft ports j c gs lines) n (subst (λ j. AreLeft ports m j gs lines) here rest)
left_times ports (suc k) m c d gs lines e rest =
    let n : suc (k + m) ≡ suc k + m = omega arith in
    subst (λ j. AreLeft ports j c gs (map time_line (range_with_len (c + 1) (suc k)) ++ lines)) n (cycle_left (left_times ports k m (c + 1) d gs lines (omega arith) rest))

-- a change behind some cycles without one
written_change : (ports : List Port) (g : Change) (gs : List Change) (lines : List (List ℕ)) (m c k l : ℕ) → c + k ≡ g.cycle → k + suc l ≡ m → AreLeft ports (suc l) g.cycle gs lines
    → AreLeft ports m c (g ∷ gs) (times c g.cycle ++ change_line ports g ∷ lines)
written_change ports g gs lines m c k l here all rest =
    let count : k ≡ g.cycle - c = omega arith in
    let goes : AreLeft ports (k + suc l) c (g ∷ gs) (map time_line (range_with_len (c + 1) k) ++ change_line ports g ∷ lines) =
    left_times ports k (suc l) c g.cycle (g ∷ gs) (change_line ports g ∷ lines) here (change_left refl rest) in
    subst (λ j. AreLeft ports m c (g ∷ gs) (map time_line (range_with_len (c + 1) j) ++ change_line ports g ∷ lines)) count
    (subst (λ j. AreLeft ports j c (g ∷ gs) (map time_line (range_with_len (c + 1) k) ++ change_line ports g ∷ lines)) all goes)

-- no change, and some cycles
written_end : (ports : List Port) (m c n : ℕ) → c + m ≡ n → AreLeft ports m c [] (times c n)
written_end ports m c n e =
    let count : m ≡ n - c = omega arith in
    let whole : m + 0 ≡ m = omega arith in
    let goes : AreLeft ports (m + 0) c [] (map time_line (range_with_len (c + 1) m) ++ []) = left_times ports m 0 c n [] [] e end_left in
    subst (λ j. AreLeft ports m c [] (map time_line (range_with_len (c + 1) j))) count
    (subst (λ lines. AreLeft ports m c [] lines) (append-nil (map time_line (range_with_len (c + 1) m)))
    (subst (λ j. AreLeft ports j c [] (map time_line (range_with_len (c + 1) m) ++ [])) whole goes))

-- what is written is what is left
pub left_written : (ports : List Port) (gs : List Change) (m c n : ℕ) → c + m ≡ n → Rise c n gs → AreLeft ports m c gs (lines_to ports c gs ++ times (last_cycle c gs) n)
left_written ports [] m c n e rise = written_end ports m c n e
left_written ports (g ∷ gs) m c n e (from, within, rise) =
    subst (λ lines. AreLeft ports m c (g ∷ gs) lines) (sym (append_assoc (times c g.cycle) (change_line ports g ∷ lines_to ports g.cycle gs) (times (last_cycle g.cycle gs) n)))
    (written_change ports g gs (lines_to ports g.cycle gs ++ times (last_cycle g.cycle gs) n) m c (g.cycle - c) (n - (g.cycle + 1)) (omega arith) (omega arith)
    (left_written ports gs (suc (n - (g.cycle + 1))) g.cycle n (omega arith) rise))

-- the lines of a wave behind the one that begins the first cycle
abbrev pub wave_rest : Recording → List (List ℕ)
wave_rest w = lines_to w.ports 0 w.changes ++ times (last_cycle 0 w.changes) w.cycles

pub wave_left : (w : Recording) → IsWave w → AreLeft w.ports w.cycles 0 w.changes (wave_rest w)
wave_left w is = left_written w.ports w.changes w.cycles 0 w.cycles (omega arith) (wave_rises w is)

-- the lines of a dump behind the head are those that are left
pub dump_from : (w : Recording) (lines : List (List ℕ)) → AreLeft w.ports w.cycles 0 w.changes lines → dump_lines w ≡ head_lines w.name w.ports ++ time_line 0 ∷ lines
dump_from w lines left =
    let all : 0 + w.cycles ≡ w.cycles = omega arith in
    append_assoc (head_lines w.name w.ports) (flat_map (cycle_lines w.ports w.changes) (range_with_len 0 w.cycles)) (time_line w.cycles ∷ [])
    ∙ ap (λ k. head_lines w.name w.ports ++ (flat_map (cycle_lines w.ports w.changes) (range_with_len 0 w.cycles) ++ time_line k ∷ [])) (sym all)
    ∙ ap (λ rest. head_lines w.name w.ports ++ rest) (left_lines left)

pub dump_rest : (w : Recording) → IsWave w → dump_lines w ≡ head_lines w.name w.ports ++ time_line 0 ∷ wave_rest w
dump_rest w is = dump_from w (wave_rest w) (wave_left w is)
