use Rattle.std.proofs.Common.{get_or, length, sym, subst, arith}
use Rattle.std.proofs.lemmas.Grind.{common_steps}
use Rattle.av_net.specs.Names.{all_names}
use Rattle.av_net.proofs.Settles.{names_distinct}
use Rattle.av_clock.specs.Gates.{AreStepped}
use Rattle.av_clock.specs.Merged.{merged}
use Rattle.av_clock.proofs.Edges.{no_flip_flop, for_read}
use Rattle.av_clock.proofs.Readings.{steps_more, steps_read}
use Rattle.av_clock.proofs.Settling.{reading_within}
use Rattle.av_clock.proofs.readers.steps_reading.Goals as goal

pub enter_reading-requires : goal.enter_reading-requires
enter_reading-requires c =
    let net = merged c.args.of.now c.args.merged.now.sources.items in
    let for = for_read net c.deref-flip_flop-items.result.now c.loop-i.i (subst (AreStepped net (length net.steps)) (sym c.deref-flip_flop-items.ensures.value) c.requires.flip_flops) c.loop-i-test.true in
    reading_within (all_names net) _ for.step.next (get_or c.deref-flip_flop-items.result.now c.loop-i.i no_flip_flop).next c.loop-i.invariant.count for.stepped.next

pub loop-i-preserved : goal.loop-i-preserved
loop-i-preserved c =
    let net = merged c.args.of.now c.args.merged.now.sources.items in
    let for = for_read net c.deref-flip_flop-items.result.now c.loop-i.i (subst (AreStepped net (length net.steps)) (sym c.deref-flip_flop-items.ensures.value) c.requires.flip_flops) c.loop-i-test.true in
    steps_more net c.loop-i.i for.step c.loop-i.lists.items c.enter_reading.new.lists.items c.requires.safe for.within for.at
    (c.in_ok-enter_reading.ensures.entered (all_names net) for.step.next (names_distinct net c.requires.safe) c.loop-i.invariant.count for.stepped.next) c.loop-i.invariant

pub returns : goal.returns
returns c =
    let net = merged c.args.of.now c.args.merged.now.sources.items in
    steps_read net c.deref-flip_flop-items.result.now c.loop-i.i c.loop-i.lists.items (subst (AreStepped net (length net.steps)) (sym c.deref-flip_flop-items.ensures.value) c.requires.flip_flops) c.loop-i.auto.i-end c.loop-i-test.false c.loop-i.invariant

pub loop-i-init : goal.loop-i-init
loop-i-init c = grind (arith, common_steps)
