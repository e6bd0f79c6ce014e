-- Why a system is refused: its first variable with a miscovered point, the least one, and what is wrong there.
use Rattle.std.specs.Prelude.{◌≡◌, ◌<◌, List}
use Rattle.av_flat.specs.Trees.{Variable, FlatSystem, right_side}
use Rattle.av_flat.specs.Signatures.{Signature, signatures}
use Rattle.av_flat.specs.Counts.{count}
use Rattle.av_check.specs.declared.fault.CheckFault.{CheckFault}
use Rattle.av_check.specs.declared.fault.CheckFault.TheVariants as fault
use Rattle.av_check.specs.Miscovered.{IsLeastMiscovered, IsFirstMiscovered}
use Rattle.av_check.specs.Blame.{blamed, named}

-- what is wrong with a variable at its least miscovered point: no word, and whom this is blamed on, or two words and more
abbrev pub IsFaultOf : List Signature → Variable → CheckFault → Type 0
IsFaultOf vs v (fault.Uncovered name z outside) =
    IsLeastMiscovered vs v z × (name ≡ v.name) × (count vs (right_side v) z ≡ 0) × (outside ≡ named vs (blamed vs (right_side v) z))
IsFaultOf vs v (fault.TwoBranches name z) = IsLeastMiscovered vs v z × (name ≡ v.name) × (1 < count vs (right_side v) z)
IsFaultOf vs v fault.Memory = Unit {0}

-- the same of the first variable with a miscovered point; out of memory has no cause
abbrev pub IsFault : FlatSystem → CheckFault → Type 0
IsFault s (fault.Uncovered name z outside) = (v : Variable) × IsFirstMiscovered s v z × IsFaultOf (signatures s) v (fault.Uncovered name z outside)
IsFault s (fault.TwoBranches name z) = (v : Variable) × IsFirstMiscovered s v z × IsFaultOf (signatures s) v (fault.TwoBranches name z)
IsFault s fault.Memory = Unit {0}
