-- What the two passes and the test of points between them say of a flat system. Only private contracts cite this.
use Rattle.std.specs.Prelude.{◌≡◌}
use Rattle.av_flat.specs.Trees.{FlatSystem}
use Rattle.av_flat.specs.Proper.{IsProper}
use Rattle.av_normal.specs.declared.fault.NormalFault.{NormalFault}
use Rattle.av_normal.specs.NormalFaults as normalised
use Rattle.av_check.specs.declared.fault.CheckFault.{CheckFault}
use Rattle.av_check.specs.CheckFaults as checked
use Rattle.av_serial.specs.declared.fault.SerialFault.{SerialFault}
use Rattle.av_serial.specs.SerialFaults as serialised
use Rattle.av_compile.specs.declared.refusal.Refusal.{Refusal}
use Rattle.av_compile.specs.Refusals.{of_normal, of_check, of_serial}
use Rattle.av_compile.specs.Checked.{HasNormalForm}

-- the system is proper, and t is what its normal form is made into
pub record IsChained (s t : FlatSystem) : Type 0 where
  pub proper : IsProper s
  pub normal : FlatSystem
  pub given : normalised.IsGiven s normal
  pub serial : serialised.IsGiven normal t

-- the first fault: of pieces, of points, of reductions
pub data IsUnchained (s : FlatSystem) (r : Refusal) : Type 0 where
  in_pieces : (f : NormalFault) → r ≡ of_normal f → normalised.IsFault s f → IsUnchained s r
  in_points : (f : CheckFault) → r ≡ of_check f → HasNormalForm s → checked.IsFault s f → IsUnchained s r
  in_reductions : (f : SerialFault) → r ≡ of_serial f → IsProper s → (normal : FlatSystem) → normalised.IsGiven s normal → serialised.IsFault normal f → IsUnchained s r
