use Rattle.av_page.proofs.Putting.{Puts-sent}
use Rattle.av_page.proofs.page.Page.send.Goals as goal

pub returns-clause-put : goal.returns-clause-put
returns-clause-put g c = rw (← c.self.view_is) (Puts-sent _ _ _ c.offer-self-inside.ensures)
