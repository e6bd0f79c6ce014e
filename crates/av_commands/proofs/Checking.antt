-- How the answers of `check` follow from what its steps did.
use Rattle.std.proofs.Common.{◌≡◌, ◌≢◌, ℕ, List, refl, inl, inr}
use Rattle.std.specs.Prelude.{codes}
use Rattle.av_base.specs.Outside.{SinkState}
use Rattle.av_flat.specs.Trees.{FlatSystem}
use Rattle.av_names.specs.declared.size.Size.{Size}
use Rattle.av_compile.specs.declared.refusal.Refusal.{Refusal}
use Rattle.av_compile.specs.declared.refusal.Refusal.TheVariants as refusal
use Rattle.av_compile.specs.Checked.{IsChecked, IsRefused}
use Rattle.av_compile.proofs.OneRefusal.{memory_or_not, not_checked}
use Rattle.av_commands.specs.declared.status.Status.{Status}
use Rattle.av_commands.specs.declared.status.Status.TheVariants.{Done, Refused, Memory}
use Rattle.av_commands.specs.SizeWords.{GiveSizes}
use Rattle.av_commands.specs.Refusals.{refusal_line}
use Rattle.av_commands.specs.AlphaRefusals.{alpha_reason}
use Rattle.av_commands.specs.Checks.{RefusesCheck, GivesCheck}
use Rattle.av_commands.specs.WithWords.{RefusesWith, GivesWith}
use Rattle.av_commands.specs.Written.{IsPut, IsAnswered, refused, given, no_memory}

-- ---- refused or given, and not both

pub exclusive_check : (sizes : List Size) (bits : ℕ) (bytes reason out : List ℕ) → RefusesCheck sizes bits bytes reason → GivesCheck sizes bits bytes out → ⊥
exclusive_check sizes bits bytes reason out r g = not_checked bytes sizes bits g.flat r.cause g.flattens g.normal g.proper r.first r.some

-- ---- answers

pub check_refused : (words : List (List ℕ)) (sizes : List Size) (bits : ℕ) (bytes : List ℕ) (f : Refusal) {sink sink' : SinkState} {status : Status}
    → GiveSizes words sizes → (f ≢ refusal.Memory → IsRefused bytes sizes bits f) → (f ≡ refusal.Memory → (status ≡ Memory) × (sink'.held ≡ sink.held))
    → ((f ≡ refusal.Memory → ⊥) → IsPut sink sink' (refusal_line (alpha_reason f)) Refused status)
    → IsAnswered (RefusesWith words bits bytes) (GivesWith words bits bytes) sink sink' status
check_refused words sizes bits bytes f give first none put =
    elim (memory_or_not f) [
      | inl memory ↦ (let (a, b) = none memory in no_memory a b)
      | inr some ↦ refused (record { sizes = sizes; give = give; refuses = record { cause = f; first = first some; some = some; told = refl } }) (put some)
    ]

pub check_given : (words : List (List ℕ)) (sizes : List Size) (bits : ℕ) (bytes : List ℕ) (t : FlatSystem) {sink sink' : SinkState} {status : Status}
    → GiveSizes words sizes → IsChecked bytes sizes bits t → IsPut sink sink' (codes "ok\n") Done status
    → IsAnswered (RefusesWith words bits bytes) (GivesWith words bits bytes) sink sink' status
check_given words sizes bits bytes t give is put =
    given (record { sizes = sizes; give = give; gives = record { flat = is.flat; flattens = is.flattens; normal = is.given.no_cause; proper = is.proper; text_proper = is.text_proper; line = refl } }) put
