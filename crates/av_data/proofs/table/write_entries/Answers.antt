use Rattle.av_page.proofs.Putting.{Puts-none, Puts-next}
use Rattle.av_data.specs.Tables.{listed_line}
use Rattle.av_data.proofs.table.write_entries.Goals as goal

pub loop-entry-init : goal.loop-entry-init
loop-entry-init g c = Puts-none _ _

pub loop-entry-preserved : goal.loop-entry-preserved
loop-entry-preserved g c = Puts-next (listed_line c.args.word.now) _ _ c.entry-item.result c.loop-entry-test.true c.entry-item.is c.loop-entry.invariant c.write_listed.ensures
