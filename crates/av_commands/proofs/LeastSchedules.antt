-- How the answers of `best` follow from what its steps did.
use Rattle.std.proofs.Common.{◌≡◌, ◌≢◌, ℕ, ◌<◌, ◌≤◌, ◌⊎◌, ◌++◌, List, length, refl, sym, ap, subst, ◌∙◌, inl, inr}
use Rattle.std.specs.Prelude.{Result, Ok, Err}
use Rattle.av_base.specs.Outside.{SinkState}
use Rattle.av_flat.specs.declared.timed.Timed.{Timed}
use Rattle.av_flat.specs.Trees.{FlatSystem, view_system}
use Rattle.av_flat.specs.Chained.{IsChained}
use Rattle.av_flat.specs.Proper.{IsProper}
use Rattle.av_flat.specs.Legal.{IsLegal}
use Rattle.av_names.specs.declared.size.Size.{Size}
use Rattle.av_serial.specs.SerialFaults as serialised
use Rattle.av_best.specs.declared.fault.BestFault.{BestFault}
use Rattle.av_best.specs.declared.fault.BestFault.TheVariants as fault
use Rattle.av_best.specs.BestFaults as searched
use Rattle.av_best.specs.Lengths.{IsLength}
use Rattle.av_best.specs.Least.{IsLeastSchedule}
use Rattle.av_data.specs.Schedules.{schedule_text}
use Rattle.av_compile.specs.declared.refusal.Refusal.{Refusal}
use Rattle.av_compile.specs.declared.refusal.Refusal.TheVariants as refusal
use Rattle.av_compile.specs.Refusals.{of_serial}
use Rattle.av_compile.specs.Checked.{IsChecked}
use Rattle.av_compile.specs.Scheduled.{Normalises, Serialises}
use Rattle.av_compile.proofs.OneChain.{one_chained, one_normalised}
use Rattle.av_compile.proofs.OneRefusal.{memory_or_not, not_checked}
use Rattle.av_compile.proofs.OnlySolution.{one_solution_of}
use Rattle.av_commands.specs.declared.status.Status.{Status}
use Rattle.av_commands.specs.declared.status.Status.TheVariants.{Done, Refused, Memory}
use Rattle.av_commands.specs.SizeWords.{GiveSizes}
use Rattle.av_commands.specs.Refusals.{refusal_line}
use Rattle.av_commands.specs.AlphaRefusals.{alpha_reason}
use Rattle.av_commands.specs.Bests.{IsUnchained, in_text, in_reductions, best_reason, RefusesBest, before_search, in_search, HasNoFault, cycles_line, GivesBest}
use Rattle.av_commands.specs.WithWords.{RefusesBestWith, GivesBestWith}
use Rattle.av_commands.specs.Written.{IsPut, IsAnswered, refused, given, no_memory}

-- ---- the steps before the search

pub normalises : (bytes : List ℕ) (sizes : List Size) (bits : ℕ) (n : FlatSystem) → IsChecked bytes sizes bits n → Normalises bytes sizes bits n
normalises bytes sizes bits n h = record { flat = h.flat; flattens = h.flattens; proper = h.proper; given = h.given }

-- the chained system of a text is chained and proper
pub is_chained : (bytes : List ℕ) (sizes : List Size) (bits : ℕ) (s : FlatSystem) → Serialises bytes sizes bits s → IsChained s
is_chained bytes sizes bits s h = h.given.chained

pub is_proper : (bytes : List ℕ) (sizes : List Size) (bits : ℕ) (s : FlatSystem) → Serialises bytes sizes bits s → IsProper s
is_proper bytes sizes bits s h = h.given.proper (h.normalises.given.proper h.normalises.proper)

-- a search that answers every fault has none where it answers a schedule
pub none_where_least : (s : FlatSystem) (box : ℕ) (t : Timed) (r : Result Timed BestFault) → r ≡ Ok t → ((f : BestFault) → searched.IsFault s box f → f ≢ fault.Memory → (r ≡ Err f) ⊎ (r ≡ Err fault.Memory)) → HasNoFault s box
none_where_least s box t r e answers f is = go f is
  where
    no_error : (f : BestFault) → (r ≡ Err f) ⊎ (r ≡ Err fault.Memory) → ⊥
    no_error f (inl h) = cc
    no_error f (inr h) = cc

    go : (f : BestFault) → searched.IsFault s box f → f ≡ fault.Memory
    go (fault.JointCandidates n) is = absurd (no_error (fault.JointCandidates n) (answers (fault.JointCandidates n) is (λ h. cc)))
    go (fault.NoSchedule name) is = absurd (no_error (fault.NoSchedule name) (answers (fault.NoSchedule name) is (λ h. cc)))
    go fault.Memory is = refl

-- ---- refused or given, and not both

pub exclusive_best : (sizes : List Size) (bits box : ℕ) (bytes reason out : List ℕ) → RefusesBest sizes bits box bytes reason → GivesBest sizes bits box bytes out → ⊥
exclusive_best sizes bits box bytes reason out (before_search r (in_text h) some e) g =
    let n = g.serialises.normalises in
    not_checked bytes sizes bits n.flat r n.flattens n.given.no_cause n.proper h some
exclusive_best sizes bits box bytes reason out (before_search r (in_reductions f of s normal is) some e) g =
    let same = one_normalised bytes sizes bits s g.serialises.normal normal g.serialises.normalises in
    some (of ∙ ap of_serial (g.serialises.given.no_cause f (subst (λ (x : FlatSystem). serialised.IsFault x f) same is)))
exclusive_best sizes bits box bytes reason out (in_search f s serialises is some e) g =
    let same = one_chained bytes sizes bits s (view_system g.timed.flat) serialises g.serialises in
    some (g.no_cause f (subst (λ (x : FlatSystem). searched.IsFault x box f) same is))

-- ---- answers

fault_or_not : (f : BestFault) → (f ≡ fault.Memory) ⊎ (f ≢ fault.Memory)
fault_or_not (fault.JointCandidates n) = inr (λ e. cc)
fault_or_not (fault.NoSchedule name) = inr (λ e. cc)
fault_or_not fault.Memory = inl refl

pub unchained_refused : (words : List (List ℕ)) (sizes : List Size) (bits box : ℕ) (bytes : List ℕ) (r : Refusal) {sink sink' : SinkState} {status : Status}
    → GiveSizes words sizes → (r ≢ refusal.Memory → IsUnchained bytes sizes bits r) → (r ≡ refusal.Memory → (status ≡ Memory) × (sink'.held ≡ sink.held))
    → ((r ≡ refusal.Memory → ⊥) → IsPut sink sink' (refusal_line (alpha_reason r)) Refused status)
    → IsAnswered (RefusesBestWith words bits box bytes) (GivesBestWith words bits box bytes) sink sink' status
unchained_refused words sizes bits box bytes r give first none put =
    elim (memory_or_not r) [
      | inl memory ↦ (let (a, b) = none memory in no_memory a b)
      | inr some ↦ refused (record { sizes = sizes; give = give; refuses = before_search r (first some) some refl }) (put some)
    ]

pub best_refused : (words : List (List ℕ)) (sizes : List Size) (bits box : ℕ) (bytes : List ℕ) (s : FlatSystem) (f : BestFault) {sink sink' : SinkState} {status : Status}
    → GiveSizes words sizes → Serialises bytes sizes bits s → searched.IsFault s box f → (f ≡ fault.Memory → (status ≡ Memory) × (sink'.held ≡ sink.held))
    → ((f ≡ fault.Memory → ⊥) → IsPut sink sink' (refusal_line (best_reason f)) Refused status)
    → IsAnswered (RefusesBestWith words bits box bytes) (GivesBestWith words bits box bytes) sink sink' status
best_refused words sizes bits box bytes s f give serialises is none put =
    elim (fault_or_not f) [
      | inl memory ↦ (let (a, b) = none memory in no_memory a b)
      | inr some ↦ refused (record { sizes = sizes; give = give; refuses = in_search f s serialises is some refl }) (put some)
    ]

pub best_given : (words : List (List ℕ)) (sizes : List Size) (bits box : ℕ) (bytes : List ℕ) (s : FlatSystem) (t : Timed) (n : ℕ) {sink sink' : SinkState} {status : Status}
    → length bytes < 4294967295 → 1 ≤ bits → GiveSizes words sizes → Serialises bytes sizes bits s → view_system t.flat ≡ s → HasNoFault s box → IsLeastSchedule s box t.times → IsLegal t → IsLength s t.times n
    → IsPut sink sink' (schedule_text t ++ cycles_line n) Done status
    → IsAnswered (RefusesBestWith words bits box bytes) (GivesBestWith words bits box bytes) sink sink' status
best_given words sizes bits box bytes s t n short wide give serialises same none least legal long put =
    let own = subst (Serialises bytes sizes bits) (sym same) serialises in
    given (record {
      sizes = sizes;
      give = give;
      gives = record {
        timed = t;
        serialises = own;
        no_cause = subst (λ (x : FlatSystem). HasNoFault x box) (sym same) none;
        least = subst (λ (x : FlatSystem). IsLeastSchedule x box t.times) (sym same) least;
        one_solution = one_solution_of bytes sizes bits t short wide own legal;
        cycles = n;
        is_length = subst (λ (x : FlatSystem). IsLength x t.times n) (sym same) long;
        lines = refl;
      };
    }) put
