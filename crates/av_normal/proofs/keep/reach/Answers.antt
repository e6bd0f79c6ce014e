use Rattle.std.proofs.Common.{subst}
use Rattle.av_elim.specs.declared.bounding.Elim.{Elim}
use Rattle.av_elim.specs.Faults.{IsCause}
use Rattle.av_normal.proofs.Reaches.{no_point}
use Rattle.av_normal.proofs.keep.reach.Goals as goal

pub returns-in-Err-Empty : goal.returns-in-Err-Empty
returns-in-Err-Empty c =
    let r = subst (λ (e : Elim). IsCause c.args.set.now e) c.in-Err-Empty.field-0-is c.in-Err-Empty.ensures.refused in
    no_point c.args.set.now r.1
