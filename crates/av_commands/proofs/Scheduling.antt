-- How the answers of `schedule` follow from what its steps did.
use Rattle.std.proofs.Common.{◌≡◌, ◌≢◌, ℕ, List, refl, ap, subst, ◌∙◌, inl, inr}
use Rattle.av_base.specs.Outside.{SinkState}
use Rattle.av_flat.specs.declared.timed.Timed.{Timed}
use Rattle.av_flat.specs.Trees.{FlatSystem, view_system}
use Rattle.av_names.specs.declared.size.Size.{Size}
use Rattle.av_serial.specs.SerialFaults as serialised
use Rattle.av_sched.specs.SchedFaults as searched
use Rattle.av_data.specs.Schedules.{schedule_text}
use Rattle.av_compile.specs.declared.refusal.Refusal.{Refusal}
use Rattle.av_compile.specs.declared.refusal.Refusal.TheVariants as refusal
use Rattle.av_compile.specs.Refusals.{of_serial, of_sched}
use Rattle.av_compile.specs.Scheduled.{Serialises, HasFirstSchedule, IsScheduled, HasOneSolutionEach, IsUnscheduled, in_text, in_reductions, in_search}
use Rattle.av_commands.specs.declared.status.Status.{Status}
use Rattle.av_commands.specs.declared.status.Status.TheVariants.{Done, Refused, Memory}
use Rattle.av_commands.specs.SizeWords.{GiveSizes}
use Rattle.av_commands.specs.Refusals.{refusal_line}
use Rattle.av_commands.specs.AlphaRefusals.{alpha_reason}
use Rattle.av_commands.specs.Schedules.{RefusesSchedule, GivesSchedule}
use Rattle.av_commands.specs.WithWords.{RefusesScheduleWith, GivesScheduleWith}
use Rattle.av_commands.specs.Written.{IsPut, IsAnswered, refused, given, no_memory}
use Rattle.av_compile.proofs.OneChain.{one_chained, one_normalised}
use Rattle.av_compile.proofs.OneRefusal.{memory_or_not, not_checked}

-- ---- refused or given, and not both

-- a system that has a first schedule is not refused before it
pub not_unscheduled : (sizes : List Size) (bits box : ℕ) (bytes : List ℕ) (cause : Refusal) → IsUnscheduled bytes sizes bits box cause → cause ≢ refusal.Memory → (t : Timed) → Serialises bytes sizes bits (view_system t.flat)
    → HasFirstSchedule (view_system t.flat) box → ⊥
not_unscheduled sizes bits box bytes cause first some t is none = go first
  where
    go : IsUnscheduled bytes sizes bits box cause → ⊥
    go (in_text h) =
        let n = is.normalises in
        not_checked bytes sizes bits n.flat cause n.flattens n.given.no_cause n.proper h some
    go (in_reductions f e s normalises fault) =
        let same = one_normalised bytes sizes bits s is.normal normalises is.normalises in
        some (e ∙ ap of_serial (is.given.no_cause f (subst (λ (x : FlatSystem). serialised.IsFault x f) same fault)))
    go (in_search f e s serialises fault) =
        let same = one_chained bytes sizes bits s (view_system t.flat) serialises is in
        some (e ∙ ap of_sched (none f (subst (λ (x : FlatSystem). searched.IsFault x box f) same fault)))

pub exclusive_schedule : (sizes : List Size) (bits box : ℕ) (bytes reason out : List ℕ) → RefusesSchedule sizes bits box bytes reason → GivesSchedule sizes bits box bytes out → ⊥
exclusive_schedule sizes bits box bytes reason out r g = not_unscheduled sizes bits box bytes r.cause r.first r.some g.timed g.scheduled.serialises g.scheduled.no_cause

-- ---- answers

pub schedule_refused : (words : List (List ℕ)) (sizes : List Size) (bits box : ℕ) (bytes : List ℕ) (f : Refusal) {sink sink' : SinkState} {status : Status}
    → GiveSizes words sizes → (f ≢ refusal.Memory → IsUnscheduled bytes sizes bits box f) → (f ≡ refusal.Memory → (status ≡ Memory) × (sink'.held ≡ sink.held))
    → ((f ≡ refusal.Memory → ⊥) → IsPut sink sink' (refusal_line (alpha_reason f)) Refused status)
    → IsAnswered (RefusesScheduleWith words bits box bytes) (GivesScheduleWith words bits box bytes) sink sink' status
schedule_refused words sizes bits box bytes f give first none put =
    elim (memory_or_not f) [
      | inl memory ↦ (let (a, b) = none memory in no_memory a b)
      | inr some ↦ refused (record { sizes = sizes; give = give; refuses = record { cause = f; first = first some; some = some; told = refl } }) (put some)
    ]

pub schedule_given : (words : List (List ℕ)) (sizes : List Size) (bits box : ℕ) (bytes : List ℕ) (t : Timed) {sink sink' : SinkState} {status : Status}
    → GiveSizes words sizes → IsScheduled bytes sizes bits box t → HasOneSolutionEach bytes sizes bits → IsPut sink sink' (schedule_text t) Done status
    → IsAnswered (RefusesScheduleWith words bits box bytes) (GivesScheduleWith words bits box bytes) sink sink' status
schedule_given words sizes bits box bytes t give is one put =
    given (record { sizes = sizes; give = give; gives = record { timed = t; scheduled = is; one_solution = one; lines = refl } }) put
