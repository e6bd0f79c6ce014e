use Rattle.std.proofs.Common.{subst}
use Rattle.std.specs.Prelude.{IfOk, IfErr}
use Rattle.av_flat.specs.declared.timed.Timed.{Timed}
use Rattle.av_space.specs.SpaceFaults.{IsSpaceFault}
use Rattle.av_space.specs.Layouts.{IsLayout}
use Rattle.av_space.proofs.laying.lay_out.Goals as goal

pub returns-clause-whole : goal.returns-clause-whole
returns-clause-whole c = subst (λ (t : Timed). IfOk c.layout_of.result (IsLayout t)) c.in_ok-nodes.ensures c.layout_of.ensures.whole

pub returns-clause-refused : goal.returns-clause-refused
returns-clause-refused c = subst (λ (t : Timed). IfErr c.layout_of.result (IsSpaceFault t)) c.in_ok-nodes.ensures c.layout_of.ensures.refused
