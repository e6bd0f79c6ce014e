use Rattle.std.proofs.Common.{sym, ◌∙◌}
use Rattle.av_net.specs.Rows.{is_in}
use Rattle.av_vread.proofs.RowWalks.{early_more}
use Rattle.av_vread.proofs.rows.early_among.Goals as goal

pub loop-item-preserved : goal.loop-item-preserved
loop-item-preserved c =
    early_more c.args.kinds.now (is_in c.args.wires.now) c.args.items.now c.loop-item.item-index c.item-item.result c.loop-item.earlier c.drive_item.new.earlier _ c.loop-item.invariant c.loop-item-test.true c.item-item.is
    (sym c.reads_early.ensures ∙ c.if-reads_early.false) c.in_ok-drive_item.ensures
