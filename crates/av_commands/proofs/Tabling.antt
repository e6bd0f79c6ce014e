-- How the answers of `table` follow from what its steps did.
use Rattle.std.proofs.Common.{◌≡◌, ◌≢◌, ℕ, List, refl, ap, ◌∙◌, inl, inr}
use Rattle.av_base.specs.Outside.{SinkState}
use Rattle.av_flat.specs.declared.timed.Timed.{Timed}
use Rattle.av_names.specs.declared.size.Size.{Size}
use Rattle.av_space.specs.declared.cells.Cells.{Cells}
use Rattle.av_data.specs.Tables.{table_text}
use Rattle.av_compile.specs.declared.refusal.Refusal.{Refusal}
use Rattle.av_compile.specs.declared.refusal.Refusal.TheVariants as refusal
use Rattle.av_compile.specs.Refusals.{of_space}
use Rattle.av_compile.specs.Scheduled.{HasOneSolutionEach}
use Rattle.av_compile.specs.Mapped.{IsMapped, IsUnmapped, in_schedule, in_array}
use Rattle.av_compile.proofs.Pipelined.{array_of}
use Rattle.av_commands.specs.declared.status.Status.{Status}
use Rattle.av_commands.specs.declared.status.Status.TheVariants.{Done, Refused, Memory}
use Rattle.av_commands.specs.SizeWords.{GiveSizes}
use Rattle.av_commands.specs.Refusals.{refusal_line}
use Rattle.av_commands.specs.AlphaRefusals.{alpha_reason}
use Rattle.av_commands.specs.Tables.{RefusesTable, GivesTable}
use Rattle.av_commands.specs.WithWords.{RefusesTableWith, GivesTableWith}
use Rattle.av_commands.specs.Written.{IsPut, IsAnswered, refused, given, no_memory}
use Rattle.av_compile.proofs.OneRefusal.{memory_or_not}
use Rattle.av_commands.proofs.Scheduling.{not_unscheduled}

-- ---- refused or given, and not both

-- a text that has an array has no fault
pub not_unmapped : (sizes : List Size) (bits box : ℕ) (bytes reason : List ℕ) (t : Timed) (a : Cells) → RefusesTable sizes bits box bytes reason → IsMapped bytes sizes bits box t a → ⊥
not_unmapped sizes bits box bytes reason t a r mapped = go r.first
  where
    go : IsUnmapped bytes sizes bits box r.cause → ⊥
    go (in_schedule h) = not_unscheduled sizes bits box bytes r.cause h r.some t mapped.pipelined.serialises mapped.pipelined.no_cause
    go (in_array f e u pipelined fault) = r.some (e ∙ ap of_space (array_of bytes sizes bits box t u mapped.pipelined pipelined mapped.no_cause f fault))

pub exclusive_table : (sizes : List Size) (bits box : ℕ) (bytes reason out : List ℕ) → RefusesTable sizes bits box bytes reason → GivesTable sizes bits box bytes out → ⊥
exclusive_table sizes bits box bytes reason out r g = not_unmapped sizes bits box bytes reason g.timed g.cells r g.mapped

-- ---- answers: a refusal, whatever would be given

pub table_refused : (Given : List ℕ → Type 0) (words : List (List ℕ)) (sizes : List Size) (bits box : ℕ) (bytes : List ℕ) (f : Refusal) {sink sink' : SinkState} {status : Status}
    → GiveSizes words sizes → (f ≢ refusal.Memory → IsUnmapped bytes sizes bits box f) → (f ≡ refusal.Memory → (status ≡ Memory) × (sink'.held ≡ sink.held))
    → ((f ≡ refusal.Memory → ⊥) → IsPut sink sink' (refusal_line (alpha_reason f)) Refused status)
    → IsAnswered (RefusesTableWith words bits box bytes) Given sink sink' status
table_refused Given words sizes bits box bytes f give first none put =
    elim (memory_or_not f) [
      | inl memory ↦ (let (x, y) = none memory in no_memory x y)
      | inr some ↦ refused (record { sizes = sizes; give = give; refuses = record { cause = f; first = first some; some = some; told = refl } }) (put some)
    ]

pub table_given : (words : List (List ℕ)) (sizes : List Size) (bits box : ℕ) (bytes : List ℕ) (t : Timed) (a : Cells) {sink sink' : SinkState} {status : Status}
    → GiveSizes words sizes → IsMapped bytes sizes bits box t a → HasOneSolutionEach bytes sizes bits → IsPut sink sink' (table_text t a) Done status
    → IsAnswered (RefusesTableWith words bits box bytes) (GivesTableWith words bits box bytes) sink sink' status
table_given words sizes bits box bytes t a give is one put =
    given (record { sizes = sizes; give = give; gives = record { timed = t; cells = a; mapped = is; one_solution = one; lines = refl } }) put
