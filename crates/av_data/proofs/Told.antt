-- What the lines of a stimulus tell is what reading gives.
use Rattle.std.proofs.Common.{◌≡◌, ℕ, ◌+◌, Bool, true, false, List, [], ◌∷◌, Option, Some, None, Result, Ok, Err, refl, sym, ap, ◌∙◌, subst, inl, inr, true≢false}
use Rattle.std.specs.Prelude.{◌⊎◌, All, IfOk}
use Rattle.av_net.specs.declared.netlist.Port.{Port}
use Rattle.av_net.specs.Names.{names_of, AreDistinct}
use Rattle.av_data.specs.declared.stimulus.Given.{Given}
use Rattle.av_data.specs.declared.stimulus.Stimulus.{Stimulus}
use Rattle.av_data.specs.declared.fault.DataFault.{DataFault}
use Rattle.av_data.specs.declared.fault.DataFault.TheVariants.{DataSyntax, DataUnknown, DataOutside, DataTwice, DataMissing, Memory}
use Rattle.av_data.specs.Lines.{data_lines, parts_of}
use Rattle.av_data.specs.Stimuli.{IsCycles, Gives, IsSame, AreGiven, no_line, empty_line, value_line, AreSaid, empty_first, cycles_first, SpellsStimulus, IsLaterFault, here, past_empty, past_value, IsFirstFault, no_cycles, other_first, past_empty_first, past_cycles, IsStimulusFault, GivesStimulus, GivesFault}
use Rattle.av_data.specs.Reading.{cycles_at, value_at, stimulus_from, stimulus_of, ◌>>=◌, FaultIs, Answers}
use Rattle.av_data.specs.Kept.{placed}
use Rattle.av_data.proofs.Sorting.{Sorts, sorts_none, sorts_more, none_given, one_order}
use Rattle.av_data.proofs.Lined.{First, empty, said, other, first_line_is, cycles_read, empty_read, other_read, Outcome, nothing, one, faulty, outcome, nothing_read, gives_read, fault_read}

abbrev is_ok : {A : Type 0} → Result A DataFault → Bool
is_ok (Ok x) = true
is_ok (Err f) = false

pub ok_err : {A : Type 0} {x : A} {f : DataFault} → Ok x ≡ Err f → ⊥
ok_err e = true≢false (ap is_ok e)

abbrev ok_or : {A : Type 0} → A → Result A DataFault → A
ok_or x (Ok y) = y
ok_or x (Err f) = x

one_ok : (s t : Stimulus) (r : Result Stimulus DataFault) → r ≡ Ok s → r ≡ Ok t → s ≡ t
one_ok s t r e f = ap (ok_or s) (sym e ∙ f)

abbrev err_or : {A : Type 0} → DataFault → Result A DataFault → DataFault
err_or f (Ok y) = f
err_or f (Err g) = g

one_err : (f g : DataFault) (r : Result Stimulus DataFault) → r ≡ Err f → r ≡ Err g → f ≡ g
one_err f g r e h = ap (err_or f) (sym e ∙ h)

-- out of memory aside, an answer that is a fault is what reading gives
told_err : (f : DataFault) (wanted : Result Stimulus DataFault) → FaultIs f wanted → (f ≡ Memory) ⊎ (wanted ≡ Err f)
told_err Memory wanted h = inl refl
told_err (DataSyntax l) wanted h = inr h
told_err (DataUnknown l) wanted h = inr h
told_err (DataOutside l) wanted h = inr h
told_err (DataTwice l) wanted h = inr h
told_err (DataMissing name point) wanted h = inr h

memory_gives : (f : DataFault) (s : Stimulus) → f ≡ Memory → GivesStimulus (Err f) s
memory_gives f s e = subst (λ g. GivesStimulus (Err g) s) (sym e) tt

memory_fails : (f g : DataFault) → f ≡ Memory → GivesFault (Err f) g
memory_fails f g e = subst (λ h. GivesFault (Err h) g) (sym e) tt

same_fails : (f g : DataFault) → f ≡ g → GivesFault (Err f) g
same_fails Memory g e = tt
same_fails (DataSyntax l) g e = e
same_fails (DataUnknown l) g e = e
same_fails (DataOutside l) g e = e
same_fails (DataTwice l) g e = e
same_fails (DataMissing name point) g e = e

module _ (inputs : List Port) (distinct : AreDistinct (names_of inputs)) where
  -- ---- lines behind the one that says how many cycles there are

  -- these values, in order, are those of the lines
  pub record Told (n : ℕ) (earlier : List Given) (lines : List (List ℕ)) (s : Stimulus) : Type 0 where
    pub given : List Given
    pub lines_give : AreGiven inputs n earlier lines given
    pub cycles : s.cycles ≡ n
    pub sorts : Sorts s.values given

  unfoldable pub Tells : ℕ → List Given → ℕ → List (List ℕ) → Result Stimulus DataFault → Type 0
  Tells n earlier k lines (Ok s) = Told n earlier lines s
  Tells n earlier k lines (Err fault) = IsLaterFault inputs n fault earlier k lines

  empty_tells : (n : ℕ) (earlier : List Given) (k : ℕ) (line : List ℕ) (lines : List (List ℕ)) (r : Result Stimulus DataFault) → parts_of line ≡ [] → Tells n earlier (k + 1) lines r → Tells n earlier k (line ∷ lines) r
  unfolding Tells
  empty_tells n earlier k line lines (Ok s) e told = record { given = told.given; lines_give = empty_line e told.lines_give; cycles = told.cycles; sorts = told.sorts }
  empty_tells n earlier k line lines (Err fault) e told = past_empty e told

  value_tells : (n : ℕ) (earlier : List Given) (k : ℕ) (line : List ℕ) (lines : List (List ℕ)) (g : Given) (r : Result Stimulus DataFault) → Gives inputs n line g → All (λ h. IsSame g h → ⊥) earlier
      → Tells n (g ∷ earlier) (k + 1) lines r → Tells n earlier k (line ∷ lines) r
  unfolding Tells
  value_tells n earlier k line lines g (Ok s) gives apart told = record { given = told.given; lines_give = value_line gives apart told.lines_give; cycles = told.cycles; sorts = told.sorts }
  value_tells n earlier k line lines g (Err fault) gives apart told = past_value gives apart told

  later_told : (n : ℕ) (earlier values : List Given) (k : ℕ) (lines : List (List ℕ)) → Sorts values earlier → Tells n earlier k lines (stimulus_from inputs (Some n) values k lines)
  unfolding Tells stimulus_from
  later_told n earlier values k [] sorts = record { given = earlier; lines_give = no_line; cycles = refl; sorts = sorts }
  later_told n earlier values k (line ∷ lines) sorts =
      by (value_at inputs n k values line) (outcome inputs n earlier values k line sorts) (λ earlier values sorts. later_told n earlier values (k + 1) lines sorts)
    where
      by : (r : Result (List Given) DataFault) → Outcome inputs n earlier values k line r
          → ((earlier values : List Given) → Sorts values earlier → Tells n earlier (k + 1) lines (stimulus_from inputs (Some n) values (k + 1) lines))
          → Tells n earlier k (line ∷ lines) (r >>= λ more. stimulus_from inputs (Some n) more (k + 1) lines)
      by _ (nothing e) ih = empty_tells n earlier k line lines _ e (ih earlier values sorts)
      by _ (one {g = g} gives apart new) ih = value_tells n earlier k line lines g _ gives apart (ih (g ∷ earlier) (placed g values) (sorts_more values earlier g sorts new))
      by _ (faulty is) ih = here is

  -- ---- from the first line on

  unfoldable pub TellsAll : ℕ → List (List ℕ) → Result Stimulus DataFault → Type 0
  TellsAll k lines (Ok s) = (given : List Given) × AreSaid inputs s.cycles given lines × Sorts s.values given
  TellsAll k lines (Err fault) = IsFirstFault inputs k lines fault

  empty_tells_all : (k : ℕ) (line : List ℕ) (lines : List (List ℕ)) (r : Result Stimulus DataFault) → parts_of line ≡ [] → TellsAll (k + 1) lines r → TellsAll k (line ∷ lines) r
  unfolding TellsAll
  empty_tells_all k line lines (Ok s) e told = (told.0, empty_first e told.1, told.2)
  empty_tells_all k line lines (Err fault) e told = past_empty_first e told

  cycles_tell_all : (n k : ℕ) (line : List ℕ) (lines : List (List ℕ)) (r : Result Stimulus DataFault) → IsCycles line n → Tells n [] (k + 1) lines r → TellsAll k (line ∷ lines) r
  unfolding Tells TellsAll
  cycles_tell_all n k line lines (Ok s) c told = (told.given, cycles_first (subst (IsCycles line) (sym told.cycles) c) (subst (λ m. AreGiven inputs m [] lines told.given) (sym told.cycles) told.lines_give), told.sorts)
  cycles_tell_all n k line lines (Err fault) c told = past_cycles c told

  pub told : (k : ℕ) (lines : List (List ℕ)) → TellsAll k lines (stimulus_from inputs None [] k lines)
  unfolding TellsAll stimulus_from
  told k [] = no_cycles
  told k (line ∷ lines) = by (cycles_at k line) (first_line_is k line) (told (k + 1) lines)
    where
      by : (r : Result (Option ℕ) DataFault) → First k line r → TellsAll (k + 1) lines (stimulus_from inputs None [] (k + 1) lines)
          → TellsAll k (line ∷ lines) (r >>= λ cycles. stimulus_from inputs cycles [] (k + 1) lines)
      by _ (empty e) ih = empty_tells_all k line lines _ e ih
      by _ (said {n = n} c) ih = cycles_tell_all n k line lines _ c (later_told n [] [] (k + 1) lines sorts_none)
      by _ (other some none) ih = other_first some none

  -- ---- what is told is read

  later_read : (n : ℕ) (earlier values : List Given) (k : ℕ) (lines : List (List ℕ)) (given : List Given) → AreGiven inputs n earlier lines given → Sorts values earlier
      → (more : List Given) × (stimulus_from inputs (Some n) values k lines ≡ Ok (record { cycles = n; values = more })) × Sorts more given
  unfolding stimulus_from
  later_read n earlier values k [] given no_line sorts = (values, refl, sorts)
  later_read n earlier values k (line ∷ lines) given (empty_line e rest) sorts =
      let ih = later_read n earlier values (k + 1) lines given rest sorts in
      (ih.0, ap (λ r. r >>= λ more. stimulus_from inputs (Some n) more (k + 1) lines) (nothing_read inputs n earlier values k line sorts e) ∙ ih.1, ih.2)
  later_read n earlier values k (line ∷ lines) given (value_line {g = g} gives apart rest) sorts =
      let new = none_given values earlier g sorts apart in
      let ih = later_read n (g ∷ earlier) (placed g values) (k + 1) lines given rest (sorts_more values earlier g sorts new) in
      (ih.0, ap (λ r. r >>= λ more. stimulus_from inputs (Some n) more (k + 1) lines) (gives_read inputs n earlier values k line sorts g distinct gives new) ∙ ih.1, ih.2)

  later_failed : (n : ℕ) (earlier values : List Given) (k : ℕ) (lines : List (List ℕ)) (fault : DataFault) → IsLaterFault inputs n fault earlier k lines → Sorts values earlier
      → stimulus_from inputs (Some n) values k lines ≡ Err fault
  unfolding stimulus_from
  later_failed n earlier values k [] fault x sorts = elim x [ ]
  later_failed n earlier values k (line ∷ lines) fault (here is) sorts = ap (λ r. r >>= λ more. stimulus_from inputs (Some n) more (k + 1) lines) (fault_read inputs n earlier values k line sorts fault distinct is)
  later_failed n earlier values k (line ∷ lines) fault (past_empty e rest) sorts =
      ap (λ r. r >>= λ more. stimulus_from inputs (Some n) more (k + 1) lines) (nothing_read inputs n earlier values k line sorts e) ∙ later_failed n earlier values (k + 1) lines fault rest sorts
  later_failed n earlier values k (line ∷ lines) fault (past_value {g = g} gives apart rest) sorts =
      let new = none_given values earlier g sorts apart in
      ap (λ r. r >>= λ more. stimulus_from inputs (Some n) more (k + 1) lines) (gives_read inputs n earlier values k line sorts g distinct gives new)
      ∙ later_failed n (g ∷ earlier) (placed g values) (k + 1) lines fault rest (sorts_more values earlier g sorts new)

  all_read : (n k : ℕ) (lines : List (List ℕ)) (given : List Given) → AreSaid inputs n given lines
      → (more : List Given) × (stimulus_from inputs None [] k lines ≡ Ok (record { cycles = n; values = more })) × Sorts more given
  unfolding stimulus_from
  all_read n k [] given x = elim x [ ]
  all_read n k (line ∷ lines) given (empty_first e rest) =
      let ih = all_read n (k + 1) lines given rest in
      (ih.0, ap (λ r. r >>= λ cycles. stimulus_from inputs cycles [] (k + 1) lines) (empty_read k line e) ∙ ih.1, ih.2)
  all_read n k (line ∷ lines) given (cycles_first c rest) =
      let later = later_read n [] [] (k + 1) lines given rest sorts_none in
      (later.0, ap (λ r. r >>= λ cycles. stimulus_from inputs cycles [] (k + 1) lines) (cycles_read k line n c) ∙ later.1, later.2)

  all_failed : (k : ℕ) (lines : List (List ℕ)) (fault : DataFault) → IsFirstFault inputs k lines fault → stimulus_from inputs None [] k lines ≡ Err fault
  unfolding stimulus_from
  all_failed k [] fault no_cycles = refl
  all_failed k (line ∷ lines) fault (other_first some none) = ap (λ r. r >>= λ cycles. stimulus_from inputs cycles [] (k + 1) lines) (other_read k line some none)
  all_failed k (line ∷ lines) fault (past_empty_first e rest) = ap (λ r. r >>= λ cycles. stimulus_from inputs cycles [] (k + 1) lines) (empty_read k line e) ∙ all_failed (k + 1) lines fault rest
  all_failed k (line ∷ lines) fault (past_cycles {n = n} c rest) =
      ap (λ r. r >>= λ cycles. stimulus_from inputs cycles [] (k + 1) lines) (cycles_read k line n c) ∙ later_failed n [] [] (k + 1) lines fault rest sorts_none

  -- ---- the clauses

  abbrev Reads : ℕ → List ℕ → Result Stimulus DataFault
  Reads first bytes = stimulus_of inputs first bytes

  spelled_by : (first : ℕ) (bytes : List ℕ) (s : Stimulus) → Reads first bytes ≡ Ok s → SpellsStimulus inputs bytes s
  unfolding TellsAll
  spelled_by first bytes s e =
      let all : TellsAll first (data_lines bytes) (Ok s) = subst (TellsAll first (data_lines bytes)) e (told first (data_lines bytes)) in
      record { given = all.0; said = all.1; ascending = all.2.ascending; same = all.2.same }

  fault_by : (first : ℕ) (bytes : List ℕ) (f : DataFault) → Reads first bytes ≡ Err f → IsStimulusFault inputs first bytes f
  unfolding TellsAll
  fault_by first bytes f e = subst (TellsAll first (data_lines bytes)) e (told first (data_lines bytes))

  reads_spelled : (first : ℕ) (bytes : List ℕ) (s : Stimulus) → SpellsStimulus inputs bytes s → Reads first bytes ≡ Ok s
  reads_spelled first bytes s is =
      let all = all_read s.cycles first (data_lines bytes) is.given is.said in
      let same : all.0 ≡ s.values = one_order all.0 s.values all.2.ascending is.ascending (λ g. (λ c. (is.same g).0 ((all.2.same g).1 c), λ c. (all.2.same g).0 ((is.same g).1 c))) in
      all.1 ∙ ap (λ values. Ok (record { cycles = s.cycles; values = values })) same

  pub found : (first : ℕ) (bytes : List ℕ) (r : Result Stimulus DataFault) → Answers r (Reads first bytes) → IfOk r (λ s. SpellsStimulus inputs bytes s)
  found first bytes (Ok s) answers = spelled_by first bytes s answers
  found first bytes (Err f) answers = tt

  pub only : (first : ℕ) (bytes : List ℕ) (r : Result Stimulus DataFault) → Answers r (Reads first bytes) → (s : Stimulus) → SpellsStimulus inputs bytes s → GivesStimulus r s
  only first bytes (Ok t) answers s is = one_ok t s (Reads first bytes) answers (reads_spelled first bytes s is)
  only first bytes (Err f) answers s is = elim (told_err f (Reads first bytes) answers) [
    | inl e ↦ memory_gives f s e
    | inr e ↦ absurd (ok_err (sym (reads_spelled first bytes s is) ∙ e))
  ]

  pub fault : (first : ℕ) (bytes : List ℕ) (r : Result Stimulus DataFault) → Answers r (Reads first bytes) → (f : DataFault) → r ≡ Err f → (f ≡ Memory) ⊎ IsStimulusFault inputs first bytes f
  fault first bytes (Ok s) answers f e = absurd (ok_err e)
  fault first bytes (Err g) answers f e =
      let same : g ≡ f = one_err g f (Err g) refl e in
      elim (told_err g (Reads first bytes) answers) [
        | inl h ↦ inl (sym same ∙ h)
        | inr h ↦ inr (subst (IsStimulusFault inputs first bytes) same (fault_by first bytes g h))
      ]

  pub refused : (first : ℕ) (bytes : List ℕ) (r : Result Stimulus DataFault) → Answers r (Reads first bytes) → (f : DataFault) → IsStimulusFault inputs first bytes f → GivesFault r f
  refused first bytes (Ok s) answers f is = absurd (ok_err (sym answers ∙ all_failed first (data_lines bytes) f is))
  refused first bytes (Err g) answers f is = elim (told_err g (Reads first bytes) answers) [
    | inl e ↦ memory_fails g f e
    | inr e ↦ same_fails g f (one_err g f (Reads first bytes) e (all_failed first (data_lines bytes) f is))
  ]

  -- no bytes both spell a stimulus and have a fault
  pub not_both : (first : ℕ) (bytes : List ℕ) (s : Stimulus) (f : DataFault) → SpellsStimulus inputs bytes s → IsStimulusFault inputs first bytes f → ⊥
  not_both first bytes s f is fault = ok_err (sym (reads_spelled first bytes s is) ∙ all_failed first (data_lines bytes) f fault)

  -- bytes have at most one first fault
  pub one_fault : (first : ℕ) (bytes : List ℕ) (f g : DataFault) → IsStimulusFault inputs first bytes f → IsStimulusFault inputs first bytes g → f ≡ g
  one_fault first bytes f g h k = one_err f g (Reads first bytes) (all_failed first (data_lines bytes) f h) (all_failed first (data_lines bytes) g k)
