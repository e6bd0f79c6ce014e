use Rattle.std.proofs.Common.{rules}
use Rattle.av_page.proofs.Putting.{Puts-more, Puts-kept, Puts-is}
use Rattle.av_page.proofs.page.Page.put.Goals as goal

pub returns-then-piece-self : goal.returns-then-piece-self
returns-then-piece-self g c = Puts-is (Puts-kept _ _ _ _ c.keep.ensures) (search rules)

pub returns-else-piece-self : goal.returns-else-piece-self
returns-else-piece-self g c = Puts-is (Puts-more c.send.ensures.put c.pass.ensures) (search rules)
