use Rattle.std.proofs.Common.{◌≡◌, ◌↔◌, ◌⊎◌, ◌≤◌, ◌<◌, ◌∙◌, ◌++◌, ◌∷◌, [], length, List, All, sym, subst, rules}
use Rattle.std.proofs.lemmas.List.{take_all}
use Rattle.av_poly.specs.Points.{Set, Has}
use Rattle.av_elim.specs.Extents.{IsInside}
use Rattle.av_check.specs.inner.Coverage.{IsInAny}
use Rattle.av_check.proofs.Lexicographic.{least_none}
use Rattle.av_check.proofs.Counting.{inside_more, parts_pushed, parts_same}
use Rattle.av_check.proofs.outside.append_parts.Goals as goal
use Rattle.av_check.proofs.outside.append_parts.Goals.{then-is_some+in_ok-push, else-is_some}

pub loop-part-preserved : goal.loop-part-preserved
loop-part-preserved c =
    let parts = c.args.parts.now in
    let i = c.loop-part.part-index in
    let part = c.part-item.result in
    let own = c.in_ok-part.part in
    let to = c.loop-part.to in
    let l : i < length parts = search rules in
    elim c.if-is_some.branch [
      | then-is_some+in_ok-push w ↦
          let f : c.if-is_some.to ≡ to ++ own ∷ [] = w.to-is ∙ w.in_ok-push.ensures.ok in
          record {
            inside = inside_more c.args.dim c.args.extent.now to parts c.if-is_some.to i part own l c.part-item.is c.requires.parts c.in_ok-part.ensures.dim c.in_ok-part.ensures.points f c.loop-part.invariant.inside;
            points = parts_pushed c.args.to.now to parts c.if-is_some.to i part own l c.part-item.is c.in_ok-part.ensures.points f c.loop-part.invariant.points;
          }
      | else-is_some w ↦
          let none = least_none (λ z. Has own z) c.least_point.result (sym c.is_some.ensures ∙ w.if-is_some.false) c.least_point.ensures in
          let points = parts_same c.args.to.now to parts i part l c.part-item.is (λ z h. none z ((c.in_ok-part.ensures.points z).1 h)) c.loop-part.invariant.points in
          record {
            inside = subst (All (IsInside c.args.dim c.args.extent.now)) (sym w.to-is) c.loop-part.invariant.inside;
            points = λ z. rw w.to-is (points z);
          }
    ]

pub returns-clause-points : goal.returns-clause-points
returns-clause-points c = λ z.
    let l : length c.args.parts.now ≤ c.loop-part.part-index = search rules in
    subst (λ (ps : List Set). IsInAny c.loop-part.to z ↔ (IsInAny c.args.to.now z ⊎ IsInAny ps z)) (take_all c.loop-part.part-index c.args.parts.now l) (c.loop-part.invariant.points z)
