use Rattle.av_vnames.proofs.RowWalks.{set_as, set_more}
use Rattle.av_vnames.proofs.names.set_of.Goals as goal

pub loop-name-preserved : goal.loop-name-preserved
loop-name-preserved c =
    λ q. set_more c.args.names.now c.loop-name.name-index _ c.loop-name.set c.insert.new.self q c.loop-name-test.true (set_as _ _ _ _ c.in_ok-insert.ensures.all c.as_bytes.ensures.value)
    c.loop-name.invariant
