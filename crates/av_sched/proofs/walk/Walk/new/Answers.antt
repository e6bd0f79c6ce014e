use Rattle.std.proofs.Common.{sym, subst, arith, All}
use Rattle.av_sched.specs.Witnesses.{IsWitness}
use Rattle.av_sched.proofs.walk.Walk.new.Goals as goal

pub invariant_of-result : goal.invariant_of-result
invariant_of-result c = record {
  fits = c.requires.fits;
  valid = c.requires.linear;
  pool = subst (All (IsWitness c.args.choices.now.edges c.args.choices.now.component)) (sym c.new.ensures.items) (λ k d l. absurd (omega (arith, l)));
  sound = tt;
  rated = tt;
  like = tt;
}
