use Rattle.std.proofs.Common.{rules, ◌<◌, sym, subst, length}
use Rattle.std.proofs.lemmas.List.Elements.{All-push}
use Rattle.av_sched.specs.Witnesses.{IsWitness, IsWitnessArc}
use Rattle.av_sched.proofs.pool.witness_arcs.Goals as goal

pub loop-witness-preserved : goal.loop-witness-preserved
loop-witness-preserved c edges fits =
    let item = c.witness-item.result in
    let l : c.loop-witness.witness-index < length c.args.pool.now = search rules in
    let p : IsWitness edges c.args.component.now item = subst (IsWitness edges c.args.component.now) (sym c.witness-item.is) (fits c.loop-witness.witness-index item l) in
    rw c.in_ok-push.ensures.items
    (All-push (IsWitnessArc edges c.args.component.now c.args.level c.args.linear.now) c.loop-witness.arcs.items c.arc_at.result (c.loop-witness.invariant edges fits)
    (record { witness = item; is_witness = p; is = c.arc_at.ensures; reader_first = c.if-witness-level.false; read_first = c.if-witness-level-2.false }))
