use Rattle.std.proofs.Common.{refl}
use Rattle.av_page.proofs.Putting.{Puts-none, Puts-more, Puts-is}
use Rattle.av_wave.specs.declared.wave.Change.{Change}
use Rattle.av_wave.proofs.Written.{change_taken, last_taken}
use Rattle.av_wave.proofs.writer.put_changes.Goals as goal

pub loop-change-init : goal.loop-change-init
loop-change-init g c = (Puts-none _ _, refl)

pub loop-change-preserved : goal.loop-change-preserved
loop-change-preserved g c =
    let d : Change = record { cycle = 0; port = 0; value = 0 } in (
      Puts-is (Puts-more (Puts-more c.loop-change.invariant.0 c.put_times.ensures) c.put_change.ensures)
          (change_taken c.args.ports.now c.args.changes.now c.loop-change.change-index d c.loop-change.cycle c.loop-change-test.true c.loop-change.invariant.1),
      last_taken c.args.changes.now c.loop-change.change-index d c.loop-change-test.true,
    )
