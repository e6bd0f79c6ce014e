use Rattle.std.proofs.Common.{length, sym, subst, arith}
use Rattle.std.proofs.lemmas.Grind.{common_steps}
use Rattle.av_net.specs.Names.{all_names, width_of}
use Rattle.av_net.proofs.Settles.{names_distinct}
use Rattle.av_clock.specs.Gates.{AreAssigned}
use Rattle.av_clock.specs.Merged.{merged}
use Rattle.av_clock.proofs.Readings.{drives_more, drives_read}
use Rattle.av_clock.proofs.Settling.{for_items, gate_within}
use Rattle.av_clock.proofs.readers.drives_reading.Goals as goal

pub enter_gate-requires : goal.enter_gate-requires
enter_gate-requires c =
    let net = merged c.args.of.now c.args.merged.now.sources.items in
    let for = for_items net c.loop-i.i c.args.merged.now.assignments.items _ c.assignment-item.result c.deref-assignment-items.ensures.value c.requires.assignments c.loop-i-test.true c.assignment-item.is in
    gate_within (width_of net) (all_names net) _ for.drive.operation c.assignment-item.result.gate c.loop-i.invariant.count for.assigned.gate

pub loop-i-preserved : goal.loop-i-preserved
loop-i-preserved c =
    let net = merged c.args.of.now c.args.merged.now.sources.items in
    let for = for_items net c.loop-i.i c.args.merged.now.assignments.items _ c.assignment-item.result c.deref-assignment-items.ensures.value c.requires.assignments c.loop-i-test.true c.assignment-item.is in
    drives_more net c.loop-i.i for.drive c.loop-i.lists.items c.enter_gate.new.lists.items c.requires.safe for.within for.at
    (c.in_ok-enter_gate.ensures (width_of net) (all_names net) for.drive.operation (names_distinct net c.requires.safe) c.loop-i.invariant.count for.assigned.gate) c.loop-i.invariant

pub returns : goal.returns
returns c =
    let net = merged c.args.of.now c.args.merged.now.sources.items in
    drives_read net c.deref-assignment-items.result.now c.loop-i.i c.loop-i.lists.items (subst (AreAssigned net (length net.drives)) (sym c.deref-assignment-items.ensures.value) c.requires.assignments) c.loop-i.auto.i-end c.loop-i-test.false c.loop-i.invariant

pub loop-i-init : goal.loop-i-init
loop-i-init c = grind (arith, common_steps)
