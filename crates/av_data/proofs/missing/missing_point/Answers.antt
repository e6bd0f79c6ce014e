use Rattle.std.proofs.Common.{◌<◌, Option, sym, subst}
use Rattle.std.specs.Prelude.{IfSome}
use Rattle.av_poly.specs.declared.poly.Bounds.{Bounds}
use Rattle.av_tree.specs.Points.{Point}
use Rattle.av_elim.specs.Extents.{IsInside}
use Rattle.av_flat.proofs.Bounded.{small_point}
use Rattle.av_data.proofs.Walked.{left_behind}
use Rattle.av_data.proofs.Missed.{IsReached, first_reached, next_reached, fewer, word_there}
use Rattle.av_data.proofs.missing.missing_point.Goals as goal

pub box_of-requires-clause-small : goal.box_of-requires-clause-small
box_of-requires-clause-small c = small_point c.args.domain.now c.requires.bounded

pub loop-next-init : goal.loop-next-init
loop-next-init c =
    let set = c.args.domain.now in
    let e = c.in-Some.extent in
    let inside : IsInside set.dim e set = subst (λ (o : Option Bounds). IfSome o (λ extent. IsInside set.dim extent set)) c.in-Some.is c.in_ok-extent.ensures.inside in
    first_reached c.args.words.now c.args.place.0 set e.low e.high c.first_point-next.result inside.between c.first_point-next.ensures.found c.first_point-next.ensures.least c.first_point-next.ensures.none

pub loop-next-smaller : goal.loop-next-smaller
loop-next-smaller c =
    let set = c.args.domain.now in
    let at = subst (IsReached c.args.words.now c.args.place.0 set) c.in-Some-next.is c.loop-next.invariant in
    subst (λ (n : Option Point). left_behind c.point_after-next.result < left_behind n) (sym c.in-Some-next.is)
    (fewer set c.in-Some-next.z c.point_after-next.result at.0 c.requires.few (small_point set c.requires.bounded) c.point_after-next.ensures.some)

pub loop-next-preserved : goal.loop-next-preserved
loop-next-preserved c =
    let set = c.args.domain.now in
    let at = subst (IsReached c.args.words.now c.args.place.0 set) c.in-Some-next.is c.loop-next.invariant in
    next_reached c.args.words.now c.args.place.0 set c.in-Some-next.z c.point_after-next.result at.0 at.1
    (word_there (λ w. w.bits) c.word.result _ c.if-is_none.ensures c.word.ensures.some) c.point_after-next.ensures.some c.point_after-next.ensures.none
