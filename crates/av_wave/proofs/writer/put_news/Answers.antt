use Rattle.std.proofs.Common.{sym, ◌∙◌}
use Rattle.av_page.proofs.Putting.{Puts-none, Puts-is}
use Rattle.av_wave.specs.Dumps.{change_line}
use Rattle.av_wave.proofs.News.{if_news, if_no_news}
use Rattle.av_wave.proofs.writer.put_news.Goals as goal

pub returns-then-not-is_news : goal.returns-then-not-is_news
returns-then-not-is_news g c = Puts-is (Puts-none _ _) (if_no_news _ (change_line c.args.ports.now c.args.change) (sym c.is_news.ensures ∙ c.if-not-is_news.true))

pub returns : goal.returns
returns g c = Puts-is c.put_change.ensures (if_news _ (change_line c.args.ports.now c.args.change) (sym c.is_news.ensures ∙ c.if-not-is_news.false))
