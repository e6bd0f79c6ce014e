use Rattle.std.proofs.Common.{rules, ◌≡◌}
use Rattle.av_sched.proofs.Parting.{unit_1, unit_2, unit_3, unit_4}
use Rattle.av_sched.proofs.part.unit.Goals as goal

pub returns-then-dim-eq1 : goal.returns-then-dim-eq1
returns-then-dim-eq1 c = λ b l. rw (c.if-dim-eq1.true, c.from_slice-then-dim-eq1.ensures) (unit_1 b l)

pub returns-then-dim-eq2 : goal.returns-then-dim-eq2
returns-then-dim-eq2 c = λ b l. rw (c.if-dim-eq2.true, c.from_slice-then-dim-eq2.ensures) (unit_2 b l)

pub returns-then-dim-eq3 : goal.returns-then-dim-eq3
returns-then-dim-eq3 c = λ b l. rw (c.if-dim-eq3.true, c.from_slice-then-dim-eq3.ensures) (unit_3 b l)

pub returns-else-dim-eq3 : goal.returns-else-dim-eq3
returns-else-dim-eq3 c =
    let e : c.args.dim ≡ 4 = search rules in
    λ b l. rw (e, c.from_slice-else-dim-eq3.ensures) (unit_4 b l)
