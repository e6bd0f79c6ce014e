use Rattle.av_net.specs.Texts.{entry_line}
use Rattle.av_page.proofs.Putting.{Puts-none, Puts-next}
use Rattle.av_vtext.proofs.listing.write_entry_lines.Goals as goal

pub loop-entry-init : goal.loop-entry-init
loop-entry-init g c = Puts-none _ _

pub loop-entry-preserved : goal.loop-entry-preserved
loop-entry-preserved g c = Puts-next (entry_line c.args.kind.now) _ _ c.entry-item.result c.loop-entry-test.true c.entry-item.is c.loop-entry.invariant c.write_entry_line.ensures
