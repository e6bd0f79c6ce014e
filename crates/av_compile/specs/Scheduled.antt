-- What is answered of the bytes of a text that is to be scheduled in a box: the steps up to proper equations, and then reductions
-- made into chains and a search. The first step that finds a fault answers.
use Rattle.std.specs.Prelude.{◌≡◌, ℕ, List, []}
use Rattle.av_tree.specs.Trees.{System}
use Rattle.av_tree.specs.Grammar.{IsProgramText}
use Rattle.av_tree.specs.Values.{Assignment}
use Rattle.av_tree.specs.Solutions.{AreInputs, HasOneSolution}
use Rattle.av_flat.specs.declared.timed.Timed.{Timed}
use Rattle.av_flat.specs.Trees.{FlatSystem, view_system}
use Rattle.av_flat.specs.Legal.{IsLegal}
use Rattle.av_names.specs.declared.size.Size.{Size}
use Rattle.av_names.specs.Sizes.{instance_of}
use Rattle.av_serial.specs.declared.fault.SerialFault.{SerialFault}
use Rattle.av_serial.specs.SerialFaults as serialised
use Rattle.av_sched.specs.declared.fault.SchedFault.{SchedFault}
use Rattle.av_sched.specs.SchedFaults as searched
use Rattle.av_sched.specs.First.{IsFirstSchedule}
use Rattle.av_compile.specs.declared.refusal.Refusal.{Refusal}
use Rattle.av_compile.specs.Refusals.{of_serial, of_sched}
use Rattle.av_compile.specs.Checked.{IsRefused}
pub use Rattle.av_compile.specs.Steps.{Normalises, Serialises, HasFirstSchedule}

-- the first schedule in the box, and no helper yet
pub record IsScheduled (bytes : List ℕ) (words : List Size) (width c : ℕ) (t : Timed) : Type 0 where
  pub serialises : Serialises bytes words width (view_system t.flat)
  pub first : IsFirstSchedule (view_system t.flat) c t.times
  pub no_cause : HasFirstSchedule (view_system t.flat) c
  pub no_helper : t.helpers ≡ []
  pub legal : IsLegal t

-- the equations of each system that the bytes spell have just one solution for all words of its inputs
abbrev pub HasOneSolutionEach : List ℕ → List Size → ℕ → Type 0
HasOneSolutionEach bytes words width =
    (s : System) → IsProgramText bytes s → (x : Assignment) → AreInputs (instance_of s words width) x → HasOneSolution (instance_of s words width) x

-- the first fault: one of the text, or of the reductions of proper equations, or of the search where reductions have none
pub data IsUnscheduled (bytes : List ℕ) (words : List Size) (width c : ℕ) (r : Refusal) : Type 0 where
  in_text : IsRefused bytes words width r → IsUnscheduled bytes words width c r
  in_reductions : (f : SerialFault) → r ≡ of_serial f → (s : FlatSystem) → Normalises bytes words width s → serialised.IsFault s f → IsUnscheduled bytes words width c r
  in_search : (f : SchedFault) → r ≡ of_sched f → (s : FlatSystem) → Serialises bytes words width s → searched.IsFault s c f → IsUnscheduled bytes words width c r
