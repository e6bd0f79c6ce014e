use Rattle.std.proofs.Common.{refl, option_map}
use Rattle.std.proofs.lemmas.List.Elements.{Contains-get_or}
use Rattle.av_names.proofs.Sooner.{first_more}
use Rattle.av_names.proofs.rule.first_of.Goals as goal

pub fault-next-requires : goal.fault-next-requires
fault-next-requires g c = λ k. (
  (refl, tt),
  c.requires c.item-item.result (rw c.item-item.is (Contains-get_or c.args.items.now c.loop-item.item-index c.item-item.result c.loop-item-test.true)),
)

pub loop-item-preserved : goal.loop-item-preserved
loop-item-preserved g c = λ find says.
    let seen = option_map g.P.HasPlace.value in
    first_more g.P.HasPlace.place_of find c.args.items.now c.loop-item.item-index c.item-item.result (seen c.loop-item.first) (seen c.fault-next.result) (seen c.sooner-first.result)
    c.loop-item-test.true c.item-item.is (c.loop-item.invariant find says) (says c.item-item.result c.fault-next.result c.fault-next.ensures) c.sooner-first.ensures
