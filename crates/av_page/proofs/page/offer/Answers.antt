use Rattle.std.proofs.Common.{refl}
use Rattle.av_page.proofs.Putting.{dropped, all_sent, front_sent}
use Rattle.av_page.proofs.page.offer.Goals as goal

pub returns-then-failed : goal.returns-then-failed
returns-then-failed g c = dropped _ _ _ c.if-failed.true

pub returns-in-Ok : goal.returns-in-Ok
returns-in-Ok g c = all_sent _ _ _ _ c.if-failed.false c.in-Ok.ensures.added c.in-Ok.ensures.later

pub returns-in-Err : goal.returns-in-Err
returns-in-Err g c = front_sent _ _ _ _ c.if-failed.false c.in-Err.ensures.front (c.in-Err.ensures.fault refl) c.in-Err.ensures.later
