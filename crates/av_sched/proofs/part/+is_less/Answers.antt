use Rattle.std.proofs.Common.{rules, ◌≡◌, length, inr, arith}
use Rattle.std.proofs.lemmas.Grind.{common_steps}
use Rattle.av_sched.proofs.Parting.{less_none}
use Rattle.av_sched.proofs.part.+is_less.Goals as goal

pub returns-then-is_empty-2 : goal.returns-then-is_empty-2
returns-then-is_empty-2 t c =
    let e : length c.args.b.now ≡ 0 = search rules in
    ((λ h. absurd cc), (λ h. absurd (less_none c.args.a.now c.args.b.now (inr e) h)))

pub returns : goal.returns
returns t c = grind (arith, common_steps)
