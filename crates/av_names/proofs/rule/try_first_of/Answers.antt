use Rattle.std.proofs.Common.{option_map}
use Rattle.av_names.proofs.Sooner.{first_more}
use Rattle.av_names.proofs.rule.try_first_of.Goals as goal

pub loop-item-preserved : goal.loop-item-preserved
loop-item-preserved g c = λ find says.
    let seen = option_map g.P.HasPlace.value in
    first_more g.P.HasPlace.place_of find c.args.items.now c.loop-item.item-index c.item-item.result (seen c.loop-item.first) (seen c.in_ok-next.next) (seen c.sooner-first.result)
    c.loop-item-test.true c.item-item.is (c.loop-item.invariant find says) (says c.item-item.result c.in_ok-next.next c.in_ok-next.ensures) c.sooner-first.ensures
