-- The fault of two passes, by the one that refuses.
use Rattle.av_flat.specs.declared.then.ThenFault.{ThenFault}
use Rattle.av_flat.specs.declared.then.ThenFault.TheVariants as fault

-- P holds of a fault of the first, Q of a fault of the second
abbrev pub RefusesThen : {F G : Type 0} → (F → Type 0) → (G → Type 0) → ThenFault F G → Type 0
RefusesThen P Q (fault.First f) = P f
RefusesThen P Q (fault.Second g) = Q g
