use Rattle.std.proofs.Common.{◌++◌}
use Rattle.av_net.specs.Rows.{is_in}
use Rattle.av_vnames.specs.Scoped.{texts}
use Rattle.av_vnames.proofs.RowWalks.{set_as}
use Rattle.av_vread.proofs.RowWalks.{set_walk}
use Rattle.av_vread.proofs.rows.insert_all.Goals as goal

pub loop-name-preserved : goal.loop-name-preserved
loop-name-preserved c =
    λ q. set_walk c.args.names.now c.loop-name.name-index _ c.loop-name.set c.insert.new.self (is_in (c.args.set.now ++ texts c.args.names.now)) q c.loop-name-test.true
    (set_as _ _ _ _ c.in_ok-insert.ensures.all c.as_bytes.ensures.value) c.loop-name.invariant
