use Rattle.std.proofs.Common.{◌↔◌, ◌≤◌, ◌<◌, ℤ, length, List, sym, subst, rules, arith}
use Rattle.std.proofs.lemmas.List.{take_all}
use Rattle.std.proofs.lemmas.Grind.{common_steps}
use Rattle.av_poly.specs.Points.{Set, Has}
use Rattle.av_check.specs.inner.Coverage.{IsInAny}
use Rattle.av_check.proofs.Counting.{outside_more}
use Rattle.av_check.proofs.outside.left_outside.Goals as goal

pub loop-part-preserved : goal.loop-part-preserved
loop-part-preserved c =
    let set = c.args.set.now in
    let part = c.part-item.result in
    let l : c.loop-part.part-index < length c.args.parts.now = search rules in
    let own = subst (λ (ps : List Set). (z : List ℤ) → IsInAny ps z ↔ (Has part z × (Has set z → ⊥))) (sym c.as_slice.ensures) c.in_ok-outside.ensures.points in
    record {
      inside = c.in_ok-append_parts.ensures.inside;
      points = outside_more set c.args.parts.now c.loop-part.left c.as_slice.result.now c.append_parts.new.to c.loop-part.part-index part l c.part-item.is own c.in_ok-append_parts.ensures.points c.loop-part.invariant.points;
    }

pub returns-clause-points : goal.returns-clause-points
returns-clause-points c = λ z.
    let l : length c.args.parts.now ≤ c.loop-part.part-index = search rules in
    subst (λ (ps : List Set). IsInAny c.loop-part.left z ↔ (IsInAny ps z × (Has c.args.set.now z → ⊥))) (take_all c.loop-part.part-index c.args.parts.now l) (c.loop-part.invariant.points z)

pub append_parts-requires-clause-parts : goal.append_parts-requires-clause-parts
append_parts-requires-clause-parts c = grind (arith, common_steps)

pub loop-part-init : goal.loop-part-init
loop-part-init c = grind (arith, common_steps)
