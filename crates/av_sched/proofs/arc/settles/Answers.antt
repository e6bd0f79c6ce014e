use Rattle.std.proofs.Common.{◌∙◌, ℕ, sym, ap, subst, All, length, arith}
use Rattle.av_sched.specs.Arcs.{IsArc}
use Rattle.av_sched.proofs.Inside.{length_zeros, zeros_small}
use Rattle.av_sched.proofs.arc.settles.Goals as goal

pub raise_to_least-requires-clause-arcs : goal.raise_to_least-requires-clause-arcs
raise_to_least-requires-clause-arcs c = subst (λ (n : ℕ). All (IsArc n) c.args.arcs.now) (sym (ap length c.in_ok-clear.ensures ∙ length_zeros c.args.many)) c.requires

pub raise_to_least-requires-clause-low : goal.raise_to_least-requires-clause-low
raise_to_least-requires-clause-low c = zeros_small c.clear.new.numbers.items c.args.many c.in_ok-clear.ensures

pub raise_to_least-requires-clause-few : goal.raise_to_least-requires-clause-few
raise_to_least-requires-clause-few c =
    let e = ap length c.in_ok-clear.ensures ∙ length_zeros c.args.many in
    omega (arith, e, c.if-many-gt-MOST_NODES.false)
