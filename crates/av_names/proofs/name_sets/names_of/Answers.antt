use Rattle.av_names.proofs.Repeats.{one_more_of}
use Rattle.av_names.proofs.name_sets.names_of.Goals as goal

pub loop-item-preserved : goal.loop-item-preserved
loop-item-preserved g c =
    one_more_of g.T.HasName.name_of c.args.items.now c.loop-item.set c.put_name.new.set c.loop-item.item-index c.item-item.result c.loop-item-test.true c.item-item.is
    (rw c.name.ensures at c.in_ok-put_name.ensures.names) c.loop-item.invariant
