-- Systems that nothing keeps from having a normal form.
use Rattle.std.proofs.Common.{◌≡◌, inl}
use Rattle.av_flat.specs.Trees.{FlatSystem}
use Rattle.av_normal.specs.declared.fault.NormalFault.{NormalFault}
use Rattle.av_normal.specs.declared.fault.NormalFault.TheVariants as cause
use Rattle.av_normal.specs.NormalFaults.{HasFewPieces, HasNarrowSets, HasEnds, IsFault}

abbrev pub HasNoCause : FlatSystem → Type 0
HasNoCause s = (f : NormalFault) → IsFault s f → f ≡ cause.Memory

few_pieces : (s : FlatSystem) → HasNoCause s → HasFewPieces s
few_pieces s none = λ n many.
    let e : cause.Pieces n ≡ cause.Memory = none (cause.Pieces n) many in
    absurd cc

pub narrow_sets : (s : FlatSystem) → HasNoCause s → HasNarrowSets s
narrow_sets s none = λ kind n wide.
    let e : cause.Limit kind n ≡ cause.Memory = none (cause.Limit kind n) (few_pieces s none, inl wide) in
    absurd cc

pub ends : (s : FlatSystem) → HasNoCause s → HasEnds s
ends s none = λ name h.
    let e : cause.Unbounded name ≡ cause.Memory = none (cause.Unbounded name) (few_pieces s none, narrow_sets s none, h) in
    absurd cc
