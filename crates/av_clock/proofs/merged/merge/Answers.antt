use Rattle.std.proofs.Common.{◌<◌, ◌+◌, List, length, sym, subst, arith}
use Rattle.av_net.specs.Names.{all_names, width_of}
use Rattle.av_clock.specs.declared.gate.Assignment.{Assignment}
use Rattle.av_clock.specs.inner.Choices.{IsSource}
use Rattle.av_clock.proofs.Merging.{SoFar, none_yet, merges_more, source_within, all_merged, all_assigned, target_in, end_of}
use Rattle.av_clock.proofs.Settling.{is_for, gate_within}
use Rattle.av_clock.proofs.merged.merge.Goals as goal

pub loop-assignment-init : goal.loop-assignment-init
loop-assignment-init c = subst (SoFar c.args.of.now 0 c.args.sources.now) (sym c.new-merged.ensures.items) (none_yet c.args.of.now c.args.sources.now c.requires.sound c.requires.size c.requires.own)

pub at_sources-read-requires : goal.at_sources-read-requires
at_sources-read-requires c =
    let for = is_for c.args.of.now c.loop-assignment.assignment-index c.args.assignments.now c.assignment-item.result c.requires.assigned c.loop-assignment-test.true c.assignment-item.is in
    gate_within (width_of c.args.of.now) (all_names c.args.of.now) (length c.loop-assignment.sources) for.drive.operation c.assignment-item.result.gate c.loop-assignment.invariant.size for.assigned.gate

pub bounds-sources-read : goal.bounds-sources-read
bounds-sources-read c =
    let for = is_for c.args.of.now c.loop-assignment.assignment-index c.args.assignments.now c.assignment-item.result c.requires.assigned c.loop-assignment-test.true c.assignment-item.is in
    target_in c.args.of.now c.loop-assignment.assignment-index c.loop-assignment.sources c.assignment-item.result c.at_sources-read.result for c.at_sources-read.ensures c.loop-assignment.invariant.size

pub offset_bounds-sources-read : goal.offset_bounds-sources-read
offset_bounds-sources-read c =
    let for = is_for c.args.of.now c.loop-assignment.assignment-index c.args.assignments.now c.assignment-item.result c.requires.assigned c.loop-assignment-test.true c.assignment-item.is in
    let lt : c.at_sources-read.result.target < length c.loop-assignment.sources =
    target_in c.args.of.now c.loop-assignment.assignment-index c.loop-assignment.sources c.assignment-item.result c.at_sources-read.result for c.at_sources-read.ensures c.loop-assignment.invariant.size in
    omega arith

pub loop-assignment-preserved : goal.loop-assignment-preserved
loop-assignment-preserved c =
    let for = is_for c.args.of.now c.loop-assignment.assignment-index c.args.assignments.now c.assignment-item.result c.requires.assigned c.loop-assignment-test.true c.assignment-item.is in
    let choice : IsSource (length c.args.of.now.inputs) c.loop-assignment.merged.items c.at_sources-read.result c.source_of-source.result =
    subst (λ n. IsSource n c.loop-assignment.merged.items c.at_sources-read.result c.source_of-source.result) c.inputs_of_module-inputs.ensures
    (subst (λ (xs : List Assignment). IsSource c.inputs_of_module-inputs.result xs c.at_sources-read.result c.source_of-source.result) c.deref.ensures.value c.source_of-source.ensures) in
    let inside = source_within c.args.of.now c.loop-assignment.assignment-index c.loop-assignment.sources c.loop-assignment.merged.items c.assignment-item.result c.at_sources-read.result c.source_of-source.result c.requires.sound for c.at_sources-read.ensures choice
    c.loop-assignment.invariant in
    subst (SoFar c.args.of.now (c.loop-assignment.assignment-index + 1) _) (sym c.in_ok-push.ensures.items)
    (merges_more c.args.of.now c.loop-assignment.assignment-index c.loop-assignment.sources c.loop-assignment.merged.items c.assignment-item.result c.at_sources-read.result c.with_source.result c.source_of-source.result c.requires.sound for
    c.at_sources-read.ensures choice c.with_source.ensures.own c.with_source.ensures.other inside c.loop-assignment.invariant)

pub returns-clause-merged : goal.returns-clause-merged
returns-clause-merged c =
    all_merged c.args.of.now c.loop-assignment.assignment-index c.loop-assignment.sources c.loop-assignment.merged.items c.requires.sound (end_of c.args.of.now c.args.assignments.now c.loop-assignment.merged.items c.loop-assignment.sources c.loop-assignment.assignment-index c.requires.assigned c.loop-assignment-test.false c.loop-assignment.invariant) c.loop-assignment.invariant

pub returns-clause-assigned : goal.returns-clause-assigned
returns-clause-assigned c =
    all_assigned c.args.of.now c.loop-assignment.assignment-index c.loop-assignment.sources c.loop-assignment.merged.items (end_of c.args.of.now c.args.assignments.now c.loop-assignment.merged.items c.loop-assignment.sources c.loop-assignment.assignment-index c.requires.assigned c.loop-assignment-test.false c.loop-assignment.invariant) c.loop-assignment.invariant
