use Rattle.std.proofs.Common.{subst}
use Rattle.av_elim.specs.Faults.{IsCause}
use Rattle.av_elim.proofs.Boxes.{normalised_within, no_point}
use Rattle.av_elim.proofs.extent.box_of.Goals as goal

pub bounds-requires-clause-rows : goal.bounds-requires-clause-rows
bounds-requires-clause-rows c = normalised_within c.args.domain.now.dim c.args.domain.now.rows c.in_ok-normalised_copy.field-0.rows c.in_ok-normalised_copy.ensures.rows c.requires.ordinary.rows

pub returns-in-Err-Empty-clause-empty : goal.returns-in-Err-Empty-clause-empty
returns-in-Err-Empty-clause-empty c = λ z h.
    let cause = subst (IsCause c.in_ok-normalised_copy.field-0) c.in-Err-Empty.field-0-is c.in-Err-Empty.ensures.refused in
    no_point c.in_ok-normalised_copy.field-0 z cause.1 ((c.in_ok-normalised_copy.ensures.points z).1 h)
