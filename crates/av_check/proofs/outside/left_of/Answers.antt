use Rattle.std.proofs.Common.{◌≡◌, ◌↔◌, ◌<◌, ◌∙◌, ◌++◌, ◌∷◌, [], ℕ, ℤ, All, length, List, ap, subst, rules, arith}
use Rattle.std.proofs.lemmas.Grind.{common_steps}
use Rattle.av_poly.specs.Points.{Set, Has}
use Rattle.av_elim.specs.Extents.{IsInside}
use Rattle.av_check.specs.inner.Coverage.{IsInAny}
use Rattle.av_check.proofs.Counting.{first_inside, first_left, left_more}
use Rattle.av_check.proofs.outside.left_of.Goals as goal

pub loop-set-init : goal.loop-set-init
loop-set-init c =
    let own = c.in_ok-normalised_copy.field-0 in
    let f : c.push.new.self ≡ [] ++ own ∷ [] = c.in_ok-push.ensures.ok ∙ ap (λ (xs : List Set). xs ++ own ∷ []) c.new-left.ensures in
    record {
      inside = first_inside c.args.domain.now own c.args.extent.now c.push.new.self c.requires.inside c.in_ok-normalised_copy.ensures.dim c.in_ok-normalised_copy.ensures.points f;
      points = first_left c.args.domain.now own c.push.new.self c.in_ok-normalised_copy.ensures.points f;
    }

pub loop-set-preserved : goal.loop-set-preserved
loop-set-preserved c =
    let set = c.set-item.result in
    let l : c.loop-set.set-index < length c.args.sets.now = search rules in
    let own = subst (λ (ps : List Set). (z : List ℤ) → IsInAny c.in_ok-left.left z ↔ (IsInAny ps z × (Has set z → ⊥))) c.as_slice.ensures c.in_ok-left.ensures.points in
    record {
      inside = subst (λ (n : ℕ). All (IsInside n c.args.extent.now) c.in_ok-left.left) (ap (λ (s : Set). s.dim) c.domain.view_is) c.in_ok-left.ensures.inside;
      points = left_more c.args.domain.now c.args.sets.now c.loop-set.left c.in_ok-left.left c.loop-set.set-index set l c.set-item.is own c.loop-set.invariant.points;
    }

pub returns-clause-points : goal.returns-clause-points
returns-clause-points c = grind (arith, common_steps)

pub left_outside-requires-clause-low : goal.left_outside-requires-clause-low
left_outside-requires-clause-low c = grind (arith, common_steps)

pub left_outside-requires-clause-high : goal.left_outside-requires-clause-high
left_outside-requires-clause-high c = grind (arith, common_steps)
