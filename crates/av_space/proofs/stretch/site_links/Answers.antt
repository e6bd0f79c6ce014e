use Rattle.std.proofs.Common.{arith}
use Rattle.std.proofs.lemmas.Result.{on_ok_weaker}
use Rattle.av_space.specs.inner.Stretches.{IsAt, Told}
use Rattle.av_space.proofs.JoinedLinks.{none_put}
use Rattle.av_space.proofs.Stretching.{begins, went_on, went_anew, concluded}
use Rattle.av_space.proofs.stretch.site_links.Goals as goal
use Rattle.av_space.proofs.stretch.site_links.Goals.{then-continues, else-continues+in_ok-push}

pub loop-reading-init : goal.loop-reading-init
loop-reading-init c =
    rw c.begun-last.ensures (begins c.args.at.consumer.0 c.args.at.site c.args.readings.now c.in-Some.rest.now c.in-Some.first.now c.in-Some.ensures.cases.0 c.args.links.now)

pub loop-reading-preserved : goal.loop-reading-preserved
loop-reading-preserved c = elim c.if-continues.branch [
  | then-continues w ↦
      (rw (w.links-is, w.last-is, w.prolonged-last.ensures)
      (went_on c.args.at.consumer.0 c.args.at.site c.args.readings.now c.in-Some.rest.now c.in-Some.first.now c.in-Some.ensures.cases.0 c.loop-reading.reading-index _ c.loop-reading-test.true c.requires
      c.args.links.now c.loop-reading.links c.loop-reading.last c.loop-reading.invariant (c.continues.ensures.0 w.if-continues.true)))
  | else-continues+in_ok-push w ↦
      (rw (w.links-is, w.last-is, w.begun-last-else-continues.ensures, w.in_ok-push.ensures.ok)
      (went_anew c.args.at.consumer.0 c.args.at.site c.args.readings.now c.in-Some.rest.now c.in-Some.first.now c.in-Some.ensures.cases.0 c.loop-reading.reading-index _ c.loop-reading-test.true c.requires
      c.args.links.now c.loop-reading.links c.loop-reading.last c.loop-reading.invariant (λ same. let t = c.continues.ensures.1 same in cc)))
]

pub returns : goal.returns
returns c =
    on_ok_weaker c.push-2.result
    (concluded c.args.at.consumer.0 c.args.at.site c.args.readings.now c.in-Some.rest.now c.in-Some.first.now c.in-Some.ensures.cases.0 c.loop-reading.reading-index c.loop-reading-test.false
    c.args.links.now c.loop-reading.links c.push-2.new.self c.loop-reading.last c.loop-reading.invariant)
    c.push-2.ensures.ok

pub returns-in_default : goal.returns-in_default
returns-in_default c =
    none_put (Told c.args.readings.now) (IsAt c.args.at.consumer.0 c.args.at.site) c.args.links.now
    (λ p j k q d i t. let none = c.in_default.ensures.cases in let low = t.1 in absurd (omega (arith, none, low)))
