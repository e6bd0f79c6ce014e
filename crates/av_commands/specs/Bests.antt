-- What `best` refuses, and what it writes.
use Rattle.std.specs.Prelude.{◌≡◌, ◌≢◌, ℕ, List, [], ◌++◌, codes, decimal}
use Rattle.av_flat.specs.declared.timed.Timed.{Timed}
use Rattle.av_flat.specs.Trees.{FlatSystem, view_system}
use Rattle.av_names.specs.declared.size.Size.{Size}
use Rattle.av_serial.specs.declared.fault.SerialFault.{SerialFault}
use Rattle.av_serial.specs.SerialFaults as serialised
use Rattle.av_best.specs.declared.fault.BestFault.{BestFault}
use Rattle.av_best.specs.declared.fault.BestFault.TheVariants as fault
use Rattle.av_best.specs.BestFaults as searched
use Rattle.av_best.specs.Lengths.{IsLength}
use Rattle.av_best.specs.Least.{IsLeastSchedule}
use Rattle.av_data.specs.Schedules.{schedule_text}
use Rattle.av_compile.specs.declared.refusal.Refusal.{Refusal}
use Rattle.av_compile.specs.declared.refusal.Refusal.TheVariants as refusal
use Rattle.av_compile.specs.Refusals.{of_serial}
use Rattle.av_compile.specs.Checked.{IsRefused}
use Rattle.av_compile.specs.Scheduled.{Normalises, Serialises, HasOneSolutionEach}
use Rattle.av_commands.specs.AlphaRefusals.{alpha_reason}

-- the first fault before the search: one of the text, or of the reductions of proper equations
pub data IsUnchained (bytes : List ℕ) (sizes : List Size) (bits : ℕ) (r : Refusal) : Type 0 where
  in_text : IsRefused bytes sizes bits r → IsUnchained bytes sizes bits r
  in_reductions : (f : SerialFault) → r ≡ of_serial f → (s : FlatSystem) → Normalises bytes sizes bits s → serialised.IsFault s f → IsUnchained bytes sizes bits r

-- why there is no least schedule; out of memory has no line
abbrev pub best_reason : BestFault → List ℕ
best_reason (fault.JointCandidates n) = codes "joint candidates " ++ decimal n
best_reason (fault.NoSchedule name) = codes "no schedule " ++ name
best_reason fault.Memory = []

-- the first fault of the bytes with these sizes: one before the search, or of the search where there is none before it
pub data RefusesBest (sizes : List Size) (bits box : ℕ) (bytes reason : List ℕ) : Type 0 where
  before_search : (r : Refusal) → IsUnchained bytes sizes bits r → r ≢ refusal.Memory → reason ≡ alpha_reason r → RefusesBest sizes bits box bytes reason
  in_search : (f : BestFault) (s : FlatSystem) → Serialises bytes sizes bits s → searched.IsFault s box f → f ≢ fault.Memory → reason ≡ best_reason f → RefusesBest sizes bits box bytes reason

-- nothing keeps the system from having a least schedule in the box
abbrev pub HasNoFault : FlatSystem → ℕ → Type 0
HasNoFault s box = (f : BestFault) → searched.IsFault s box f → f ≡ fault.Memory

-- the line of the length
abbrev pub cycles_line : ℕ → List ℕ
cycles_line n = codes "cycles " ++ decimal n ++ codes "\n"

-- the lines of the least schedule in the box of what the bytes spell, and its length. The equations have just one solution,
-- whatever the inputs.
pub record GivesBest (sizes : List Size) (bits box : ℕ) (bytes out : List ℕ) : Type 0 where
  pub timed : Timed
  pub serialises : Serialises bytes sizes bits (view_system timed.flat)
  pub no_cause : HasNoFault (view_system timed.flat) box
  pub least : IsLeastSchedule (view_system timed.flat) box timed.times
  pub one_solution : HasOneSolutionEach bytes sizes bits
  pub cycles : ℕ
  pub is_length : IsLength (view_system timed.flat) timed.times cycles
  pub lines : out ≡ schedule_text timed ++ cycles_line cycles
