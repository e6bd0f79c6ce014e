use Rattle.std.proofs.Common.{◌≡◌, ◌<◌, ◌∙◌, ◌++◌, ◌∷◌, [], ℕ, sym, ap, subst, length, get_or, arith, rules, All}
use Rattle.std.proofs.lemmas.List.Elements.{All-push}
use Rattle.av_sched.specs.Leads.{IsUsable}
use Rattle.av_sched.specs.Witnesses.{IsWitness}
use Rattle.av_sched.proofs.Bridge.{arcs_length}
use Rattle.av_best.proofs.learn.learn.Goals.{then-not-is_listed+in_ok-push, else-not-is_listed}
use Rattle.av_best.proofs.learn.learn.Goals as goal

pub bounds-edges-k : goal.bounds-edges-k
bounds-edges-k c =
    let items = c.deref-k-items.result.now in
    let l : c.loop-k.k-index < length items = search rules in
    let each = subst (All (λ (j : ℕ). j < length c.args.arcs.now)) (sym c.deref-k-items.ensures.value) c.in_ok-chosen.ensures in
    let own = each c.loop-k.k-index 0 l in
    let same = arcs_length c.args.linear.now c.args.edges.now c.args.arcs.now c.requires.arcs in
    omega (arith, own, same)

pub offset_bounds-edges-k : goal.offset_bounds-edges-k
offset_bounds-edges-k c =
    let items = c.deref-k-items.result.now in
    let l : c.loop-k.k-index < length items = search rules in
    let each = subst (All (λ (j : ℕ). j < length c.args.arcs.now)) (sym c.deref-k-items.ensures.value) c.in_ok-chosen.ensures in
    let own = each c.loop-k.k-index 0 l in
    let same = arcs_length c.args.linear.now c.args.edges.now c.args.arcs.now c.requires.arcs in
    let within : get_or items c.loop-k.k-index 0 < length c.args.edges.now = omega (arith, own, same) in
    omega arith

pub witness_of_edge-witness-requires : goal.witness_of_edge-witness-requires
witness_of_edge-witness-requires c =
    let items = c.deref-k-items.result.now in
    let l : c.loop-k.k-index < length items = search rules in
    let each = subst (All (λ (j : ℕ). j < length c.args.arcs.now)) (sym c.deref-k-items.ensures.value) c.in_ok-chosen.ensures in
    let own = each c.loop-k.k-index 0 l in
    let same = arcs_length c.args.linear.now c.args.edges.now c.args.arcs.now c.requires.arcs in
    let within : get_or items c.loop-k.k-index 0 < length c.args.edges.now = omega (arith, own, same) in
    subst (IsUsable c.args.linear.now) (sym c.index-edges-k.is) (c.requires.usable (get_or items c.loop-k.k-index 0) c.index-edges-k.result within)

pub loop-k-preserved : goal.loop-k-preserved
loop-k-preserved c =
    let P = IsWitness c.args.edges.now c.args.nodes.now in
    let items = c.deref-k-items.result.now in
    let edge = c.index-edges-k.result in
    let l : c.loop-k.k-index < length items = search rules in
    let each = subst (All (λ (j : ℕ). j < length c.args.arcs.now)) (sym c.deref-k-items.ensures.value) c.in_ok-chosen.ensures in
    let own = each c.loop-k.k-index 0 l in
    let same = arcs_length c.args.linear.now c.args.edges.now c.args.arcs.now c.requires.arcs in
    let within : get_or items c.loop-k.k-index 0 < length c.args.edges.now = omega (arith, own, same) in
    let usable = subst (IsUsable c.args.linear.now) (sym c.index-edges-k.is) (c.requires.usable (get_or items c.loop-k.k-index 0) edge within) in
    let m = c.requires.many in
    let reader : edge.consumer < length c.args.nodes.now = (let u = usable.consumer_within in omega (arith, u, m)) in
    let read : edge.producer < length c.args.nodes.now = (let u = usable.producer_within in omega (arith, u, m)) in
    let witness = c.witness_of_edge-witness.ensures c.args.edges.now c.args.nodes.now (get_or items c.loop-k.k-index 0, within, sym c.index-edges-k.is) reader read (c.requires.nodes edge.consumer reader) (c.requires.nodes edge.producer read) in
    elim c.if-not-is_listed.branch [
      | then-not-is_listed+in_ok-push w ↦
          let e : c.if-not-is_listed.pool.items ≡ c.loop-k.pool.items ++ c.witness_of_edge-witness.result ∷ [] = ap (λ v. v.items) w.pool-is ∙ w.in_ok-push.ensures.items in
          subst (All P) (sym e) (All-push P c.loop-k.pool.items c.witness_of_edge-witness.result c.loop-k.invariant witness)
      | else-not-is_listed w ↦
          let e : c.if-not-is_listed.pool.items ≡ c.loop-k.pool.items = ap (λ v. v.items) w.pool-is in
          subst (All P) (sym e) c.loop-k.invariant
    ]
