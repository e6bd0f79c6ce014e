-- Where none of a list is above a limit, there is no first one that is.
use Rattle.std.proofs.Common.{◌≢◌, ℕ, List, [], ◌∷◌, refl, inl, inr}
use Rattle.av_flat.specs.declared.quantity.Quantity.{Quantity}
use Rattle.av_flat.specs.Quantities.{Measured}
use Rattle.av_normal.specs.declared.fault.NormalFault.{NormalFault}
use Rattle.av_normal.specs.declared.fault.NormalFault.TheVariants as fault
use Rattle.av_normal.specs.Searches.{AreNarrow, IsFirstWide, IsWide}

never_first_wide : (os : List Measured) (kind : Quantity) (n : ℕ) → AreNarrow os → IsFirstWide os kind n → ⊥
never_first_wide [] kind n a w = w
never_first_wide (o ∷ os) kind n a (inl h) = a.0 kind n h
never_first_wide (o ∷ os) kind n a (inr h) = never_first_wide os kind n a.1 h.1

pub never_wide : (os : List Measured) (f : NormalFault) → AreNarrow os → IsWide os f → f ≢ fault.Memory → ⊥
never_wide os (fault.Limit kind n) a w m = never_first_wide os kind n a w
never_wide os (fault.Pieces n) a w m = w
never_wide os (fault.Unbounded name) a w m = w
never_wide os fault.Memory a w m = m refl
