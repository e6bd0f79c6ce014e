use Rattle.std.proofs.Common.{rules, ◌≢◌, ◌∙◌, ◌<◌, ◌≤◌, ◌+◌, sym, subst, length, Any, pos, arith}
use Rattle.std.proofs.lemmas.Grind.{common_steps}
use Rattle.av_sched.specs.inner.Vectors.{AreVectorsOf, AreLinearPartsTo}
use Rattle.av_sched.proofs.Vectoring.{parts_skip, parts_more, parts_all}
use Rattle.av_sched.proofs.vector.vectors.Goals.{else-dim-gt0-via-then-dim-gt0+else-not-has_entry, else-dim-gt0-via-else-dim-gt0}
use Rattle.av_sched.proofs.vector.vectors.Goals as goal

pub loop-point-preserved-then-not-has_entry : goal.loop-point-preserved-then-not-has_entry
loop-point-preserved-then-not-has_entry c =
    let points = c.deref-point-items.result.now in
    let l : c.loop-point.point-index < length points = search rules in
    let all = subst (AreVectorsOf c.args.reach.size c.args.dim) (sym c.deref-point-items.ensures.value) c.in_ok-all.ensures in
    let p = c.point-item.result in
    let some : 0 < c.args.dim = search rules in
    parts_skip c.args.reach.size c.args.dim points c.loop-point.list c.loop-point.point-index p p all l c.point-item.is c.loop-point.invariant some (λ a. let t = c.has_entry.ensures.no a in let f = c.if-not-has_entry.true in cc)

pub loop-point-preserved : goal.loop-point-preserved
loop-point-preserved c =
    let points = c.deref-point-items.result.now in
    let l : c.loop-point.point-index < length points = search rules in
    let all = subst (AreVectorsOf c.args.reach.size c.args.dim) (sym c.deref-point-items.ensures.value) c.in_ok-all.ensures in
    let p = c.point-item.result in
    let q = c.from_slice.result in
    let some : 0 < c.args.dim → Any (λ x. x ≢ pos 0) p = λ m. elim c.else-dim-gt0.branch [
      | else-dim-gt0-via-then-dim-gt0+else-not-has_entry w ↦ w.has_entry.ensures.yes (search rules)
      | else-dim-gt0-via-else-dim-gt0 w ↦ absurd (search rules)
    ] in
    subst (AreLinearPartsTo c.args.reach.size c.args.dim points (c.loop-point.point-index + 1)) (sym c.in_ok-push.ensures.ok)
    (parts_more c.args.reach.size c.args.dim points c.loop-point.list c.loop-point.point-index p q all l c.point-item.is c.loop-point.invariant (c.from_slice.ensures ∙ c.as_slice.ensures.value) some)

pub returns : goal.returns
returns c =
    let points = c.deref-point-items.result.now in
    let all = subst (AreVectorsOf c.args.reach.size c.args.dim) (sym c.deref-point-items.ensures.value) c.in_ok-all.ensures in
    let over : length points ≤ c.loop-point.point-index = search rules in
    parts_all c.args.reach.size c.args.dim points c.loop-point.list c.loop-point.point-index all over c.loop-point.invariant

pub loop-point-init : goal.loop-point-init
loop-point-init c = grind (arith, common_steps)
