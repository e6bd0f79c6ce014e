-- What is answered where a search has answered before.
use Rattle.std.proofs.Common.{◌≡◌, ◌⊎◌, inl, inr}
use Rattle.std.specs.Prelude.{Result, Ok, Err}
use Rattle.std.specs.Result.{IsErrAnd}
use Rattle.av_sched.specs.declared.fault.SchedFault.{SchedFault}
use Rattle.av_sched.specs.declared.fault.SchedFault.TheVariants as sched

-- a fault that is handed on is one of the two that may be answered
pub handed_on : {T U : Type 0} (r : Result T SchedFault) (to : Result U SchedFault) (e f : SchedFault) → r ≡ Err e → IsErrAnd to (λ y. y ≡ e)
    → (r ≡ Err f) ⊎ (r ≡ Err sched.Memory) → (to ≡ Err f) ⊎ (to ≡ Err sched.Memory)
handed_on r (Ok t) e f was h is = absurd h
handed_on r (Err y) e f was h (inl is) = inl cc
handed_on r (Err y) e f was h (inr is) = inr cc

-- where there is an answer no fault may be answered
pub none_refused : {T : Type 0} (r : Result T SchedFault) (t : T) (f : SchedFault) → r ≡ Ok t → (r ≡ Err f) ⊎ (r ≡ Err sched.Memory) → ⊥
none_refused r t f was (inl is) = cc
none_refused r t f was (inr is) = cc
