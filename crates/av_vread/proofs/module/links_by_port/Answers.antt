use Rattle.std.proofs.Common.{◌∙◌}
use Rattle.av_vread.proofs.PlacedInstances.{links_more}
use Rattle.av_vread.proofs.module.links_by_port.Goals as goal

pub loop-place-preserved : goal.loop-place-preserved
loop-place-preserved c =
    links_more c.args.links.now c.loop-place.place c.index-links-place.result c.loop-place.found c.insert.new.self c.as_bytes.result.now c.loop-place.invariant c.loop-place-test.true c.index-links-place.is
    (c.as_bytes.ensures.value ∙ c.as_str.ensures) c.in_ok-insert.ensures.all
