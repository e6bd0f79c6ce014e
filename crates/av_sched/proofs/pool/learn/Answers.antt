use Rattle.std.proofs.Common.{rules, ◌<◌, ◌≡◌, ◌∙◌, ◌++◌, ◌∷◌, [], sym, ap, subst, length, arith, All}
use Rattle.std.proofs.lemmas.List.Elements.{All-push}
use Rattle.av_sched.specs.Witnesses.{IsWitness}
use Rattle.av_sched.proofs.Bridge.{arcs_length}
use Rattle.av_sched.proofs.pool.learn.Goals.{then-not-is_listed+in_ok-push, else-not-is_listed}
use Rattle.av_sched.proofs.pool.learn.Goals as goal

pub is_outdone-requires : goal.is_outdone-requires
is_outdone-requires c =
    let t : c.loop-k.k < length c.args.edges.now = c.loop-k-test.true in
    let same = arcs_length c.args.linear.now c.args.edges.now c.in_ok-arcs.arcs.items c.in_ok-arcs.ensures in
    let e = ap length c.deref.ensures.value in
    omega (arith, t, same, e)

pub loop-k-preserved : goal.loop-k-preserved
loop-k-preserved c =
    let P = IsWitness c.args.edges.now c.args.component.now in
    elim c.if-not-is_listed.branch [
      | then-not-is_listed+in_ok-push w ↦
          let e : c.if-not-is_listed.pool.items ≡ c.loop-k.pool.items ++ c.witness_of_edge-witness.result ∷ [] = ap (λ v. v.items) w.pool-is ∙ w.in_ok-push.ensures.items in
          subst (All P) (sym e) (All-push P c.loop-k.pool.items c.witness_of_edge-witness.result c.loop-k.invariant (c.witness_of_edge-witness.ensures c.args.edges.now c.args.component.now (search rules) (search rules) (search rules) (search rules) (search rules)))
      | else-not-is_listed w ↦
          let e : c.if-not-is_listed.pool.items ≡ c.loop-k.pool.items = ap (λ v. v.items) w.pool-is in
          subst (All P) (sym e) c.loop-k.invariant
    ]

-- where memory runs out, the pool is as it was
pub returns-in_err-push : goal.returns-in_err-push
returns-in_err-push c = subst (All (IsWitness c.args.edges.now c.args.component.now)) (sym c.in_err-push.ensures.items) c.loop-k.invariant
