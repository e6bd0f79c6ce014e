use Rattle.std.proofs.Common.{subst, length}
use Rattle.av_net.specs.declared.netlist.Module.{Module}
use Rattle.av_clock.specs.Readers.{HaveDrives, HaveSteps}
use Rattle.av_clock.proofs.Readings.{drives_within, steps_within, drives_marked, steps_marked, drives_others, drives_ahead}
use Rattle.av_clock.proofs.circuit.Circuit.mark_readers.Goals as goal

pub set_all-requires : goal.set_all-requires
set_all-requires c =
    drives_within c.args.self.now c.self.inside.drives_reading.items c.args.place c.as_slice.result.now c.args.stale.now (subst (λ (m : Module). HaveDrives m (length m.drives) c.self.inside.drives_reading.items) c.self.view_is c.self.invariant.drives_reading)
    c.requires.place c.requires.stale (rw c.as_slice.ensures c.index.ensures)

pub set_all-requires-2 : goal.set_all-requires-2
set_all-requires-2 c =
    steps_within c.args.self.now c.self.inside.steps_reading.items c.args.place c.as_slice-2.result.now c.args.due.now (subst (λ (m : Module). HaveSteps m (length m.steps) c.self.inside.steps_reading.items) c.self.view_is c.self.invariant.steps_reading)
    c.requires.place c.requires.due (rw c.as_slice-2.ensures c.index-2.ensures)

pub returns-clause-drives : goal.returns-clause-drives
returns-clause-drives c =
    drives_marked c.args.self.now c.self.inside.drives_reading.items c.args.place c.as_slice.result.now c.args.stale.now c.set_all.new.marks (subst (λ (m : Module). HaveDrives m (length m.drives) c.self.inside.drives_reading.items) c.self.view_is c.self.invariant.drives_reading)
    c.requires.place (rw c.as_slice.ensures c.index.ensures) c.set_all.ensures.marked

pub returns-clause-steps : goal.returns-clause-steps
returns-clause-steps c =
    steps_marked c.args.self.now c.self.inside.steps_reading.items c.args.place c.as_slice-2.result.now c.args.due.now c.set_all-2.new.marks (subst (λ (m : Module). HaveSteps m (length m.steps) c.self.inside.steps_reading.items) c.self.view_is c.self.invariant.steps_reading)
    c.requires.place (rw c.as_slice-2.ensures c.index-2.ensures) c.set_all-2.ensures.marked

pub returns-clause-ahead : goal.returns-clause-ahead
returns-clause-ahead c =
    drives_ahead c.args.self.now c.self.inside.drives_reading.items c.args.place c.as_slice.result.now c.args.stale.now c.set_all.new.marks (subst (λ (m : Module). HaveDrives m (length m.drives) c.self.inside.drives_reading.items) c.self.view_is c.self.invariant.drives_reading)
    c.requires.place (rw c.as_slice.ensures c.index.ensures) c.set_all.ensures.others

pub returns-clause-others : goal.returns-clause-others
returns-clause-others c =
    drives_others c.args.self.now c.self.inside.drives_reading.items c.args.place c.as_slice.result.now c.args.stale.now c.set_all.new.marks (subst (λ (m : Module). HaveDrives m (length m.drives) c.self.inside.drives_reading.items) c.self.view_is c.self.invariant.drives_reading)
    c.requires.place (rw c.as_slice.ensures c.index.ensures) c.set_all.ensures.others
