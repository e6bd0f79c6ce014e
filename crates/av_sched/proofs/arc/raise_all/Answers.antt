use Rattle.std.proofs.Common.{◌≡◌, ◌+◌, ◌<◌, length, arith, pos, drop, drop-cons, add-one, get_or, ◌∙◌, ap, refl}
use Rattle.av_sched.specs.declared.arc.Arc.{Arc}
use Rattle.av_sched.specs.inner.Rounds.{raised, raised_all}
use Rattle.av_sched.proofs.Rounds.{length_raised}
use Rattle.av_sched.proofs.arc.raise_all.Goals as goal

pub loop-arc-preserved : goal.loop-arc-preserved
loop-arc-preserved c =
    let arcs = c.args.arcs.now in
    let i = c.loop-arc.arc-index in
    let old = c.args.old.now in
    let d : Arc = record { reader = 0; read = 0; weight = pos 0 } in
    let h : i < length arcs = omega arith in
    let e = get_or arcs i d in
    let step : raised_all old (drop i arcs) c.loop-arc.off.items ≡ raised_all old (drop (i + 1) arcs) (raised old e c.loop-arc.off.items) = rw (add-one, drop-cons arcs i d) refl in
    record {
      rest = rw (c.raise.ensures, ← step) c.loop-arc.invariant.rest;
      size = ap length c.raise.ensures ∙ length_raised e old c.loop-arc.off.items ∙ c.loop-arc.invariant.size;
    }
