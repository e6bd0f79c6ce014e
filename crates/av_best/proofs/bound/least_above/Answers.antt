use Rattle.std.proofs.Common.{◌≡◌, ◌<◌, ◌+◌, max, pos, length, get_or, refl, subst, sym, arith, rules, w64, FitsSigned, to_z-of_z}
use Rattle.av_sched.specs.Arcs.{at}
use Rattle.av_base.proofs.Lists.{same_default}
use Rattle.av_best.specs.declared.span.PartSpan.{PartSpan}
use Rattle.av_best.specs.inner.Spans.{IsLeastAbove}
use Rattle.av_best.proofs.Lasting.{above_more}
use Rattle.av_best.proofs.bound.least_above.Goals as goal

pub loop-j-preserved : goal.loop-j-preserved
loop-j-preserved c =
    let j = c.loop-j.j in
    let spans = c.args.spans.now in
    let l : j < length spans = (let t = c.loop-j-test.true in let k = c.requires.spans in omega (arith, t, k)) in
    let d : PartSpan = record { low = pos 0; high = pos 0 } in
    let f : FitsSigned w64 (get_or c.args.offsets.now j (pos 0)) = search rules in
    let g : FitsSigned w64 (get_or spans j d).high = search rules in
    let below = simp to_z-of_z at c.through.ensures.above in
    let reached = simp to_z-of_z at c.through.ensures.reached in
    let more = above_more c.args.offsets.now spans j c.loop-j.cycles c.through.result (at c.args.offsets.now j) (get_or spans j d) d l (same_default spans j d d l) refl below reached c.loop-j.invariant in
    let e : c.max-cycles.result ≡ max c.loop-j.cycles c.through.result = search rules in
    subst (IsLeastAbove c.args.offsets.now spans (j + 1)) (sym e) more
