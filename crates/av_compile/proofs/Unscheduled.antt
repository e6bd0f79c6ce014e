-- Which fault is the first where a text is not scheduled, and that a search that has found a schedule has none.
use Rattle.std.proofs.Common.{◌≡◌, ◌≢◌, ℕ, ◌⊎◌, inl, inr, List, refl}
use Rattle.std.specs.Prelude.{Result, Ok, Err}
use Rattle.av_flat.specs.Trees.{FlatSystem}
use Rattle.av_names.specs.declared.size.Size.{Size}
use Rattle.av_sched.specs.declared.fault.SchedFault.{SchedFault}
use Rattle.av_sched.specs.declared.fault.SchedFault.TheVariants as sched
use Rattle.av_sched.specs.SchedFaults.{IsFault}
use Rattle.av_compile.specs.declared.refusal.Refusal.{Refusal}
use Rattle.av_compile.specs.Checked as checked
use Rattle.av_compile.specs.Checked.{Flattens}
use Rattle.av_compile.specs.Scheduled.{Serialises, HasFirstSchedule, IsUnscheduled}
use Rattle.av_compile.specs.Scheduled as scheduled
use Rattle.av_compile.specs.inner.Chaining.{IsChained, IsUnchained}
use Rattle.av_compile.specs.inner.Chaining as chaining

pub serialises : (bytes : List ℕ) (words : List Size) (width : ℕ) (s t : FlatSystem) → Flattens bytes words width s → IsChained s t → Serialises bytes words width t
serialises bytes words width s t flattens h = record {
  normal = h.normal;
  normalises = record { flat = s; flattens = flattens; proper = h.proper; given = h.given };
  given = h.serial;
}

-- the flat system of a text has no chains for its reductions
pub unchained : (bytes : List ℕ) (words : List Size) (width c : ℕ) (r : Refusal) (s : FlatSystem) → Flattens bytes words width s → IsUnchained s r → IsUnscheduled bytes words width c r
unchained bytes words width c r s flattens (chaining.in_pieces f e fault) = scheduled.in_text (checked.in_pieces f e s flattens fault)
unchained bytes words width c r s flattens (chaining.in_points f e form fault) = scheduled.in_text (checked.in_points f e s flattens form fault)
unchained bytes words width c r s flattens (chaining.in_reductions f e proper normal given fault) =
    scheduled.in_reductions f e normal (record { flat = s; flattens = flattens; proper = proper; given = given }) fault

-- a search that answers every fault has none where it answers a schedule
pub none_where_found : {T : Type 0} (s : FlatSystem) (c : ℕ) (t : T) (r : Result T SchedFault) → r ≡ Ok t
    → ((f : SchedFault) → IsFault s c f → f ≢ sched.Memory → (r ≡ Err f) ⊎ (r ≡ Err sched.Memory)) → HasFirstSchedule s c
none_where_found s c t r e refused f fault = go f fault
  where
    no_error : (f : SchedFault) → (r ≡ Err f) ⊎ (r ≡ Err sched.Memory) → ⊥
    no_error f (inl h) = cc
    no_error f (inr h) = cc

    go : (f : SchedFault) → IsFault s c f → f ≡ sched.Memory
    go (sched.Candidates n) fault = absurd (no_error (sched.Candidates n) (refused (sched.Candidates n) fault (λ h. cc)))
    go (sched.NoSchedule name) fault = absurd (no_error (sched.NoSchedule name) (refused (sched.NoSchedule name) fault (λ h. cc)))
    go sched.Memory fault = refl
