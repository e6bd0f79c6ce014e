use Rattle.av_page.proofs.Putting.{Puts-more}
use Rattle.av_stream.specs.StreamTexts as texts
use Rattle.av_stream.proofs.writer.write_period.Goals as goal

pub returns : goal.returns
unfolding texts.period_line
returns g c = Puts-more (Puts-more c.put.ensures c.put_number.ensures) c.put-2.ensures
