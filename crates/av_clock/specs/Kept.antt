-- The drives of the constant 0, whose words stand from the beginning: a settle of all drives leaves them out.
use Rattle.std.specs.Prelude.{◌≡◌, ℕ, ◌<◌, List, length, filter, not, Bool, slice_index_or}
use Rattle.av_net.specs.declared.operation.Operand.{Operand}
use Rattle.av_net.specs.declared.operation.Operand.TheVariants.{Name, Literal}
use Rattle.av_net.specs.declared.operation.Operation.{Operation}
use Rattle.av_net.specs.declared.operation.Operation.TheVariants.{Plain, Binary, Signed, Choose, Part, Widen}
use Rattle.av_net.specs.declared.netlist.Drive.{Drive}
use Rattle.av_net.specs.declared.netlist.Module.{Module}
use Rattle.av_clock.specs.declared.gate.Assignment.{Assignment}
use Rattle.av_clock.specs.Named.{named}
use Rattle.av_clock.specs.Gates.{is_zero, AreAssigned}

-- the assignment does not give the constant 0
abbrev pub computes : Assignment → Bool
computes assignment = not (is_zero assignment.gate)

-- of assignments that stand for all drives, these are those that compute
pub record AreComputed (m : Module) (computed : List Assignment) : Type 0 where
  pub assignments : List Assignment
  pub assigned : AreAssigned m (length m.drives) assignments
  pub filtered : computed ≡ filter computes assignments

abbrev pub IsZeroOperand : Operand → Type 0
IsZeroOperand (Name name) = ⊥
IsZeroOperand (Literal width value) = value ≡ 0

-- the operation is the constant 0
abbrev pub IsZero : Operation → Type 0
IsZero (Plain operand) = IsZeroOperand operand
IsZero (Binary left symbol right) = ⊥
IsZero (Signed left symbol right) = ⊥
IsZero (Choose condition first second) = ⊥
IsZero (Part name high low) = ⊥
IsZero (Widen name by) = ⊥

-- the targets of such drives have the word 0
abbrev pub AreZero : Module → List ℕ → Type 0
AreZero m words = (k : ℕ) (d : Drive) → k < length m.drives → IsZero (slice_index_or m.drives k d).operation → named m words (slice_index_or m.drives k d).target ≡ 0
