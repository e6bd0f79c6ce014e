use Rattle.std.proofs.Common.{refl, ap, subst, sym, ℕ, ◌≤◌}
use Rattle.std.specs.Prelude.{Err}
use Rattle.av_data.specs.Inputs.{words_of}
use Rattle.av_commands.specs.Written.{nothing_put}
use Rattle.av_commands.proofs.Fed.{is_for}
use Rattle.av_commands.proofs.Outputs.{dump_put, dump_failed}
use Rattle.av_commands.proofs.runs.put_wave.Goals as goal

pub feed-requires-clause-words : goal.feed-requires-clause-words
feed-requires-clause-words g c = c.requires.clockable.fitting (words_of c.args.inputs.now) c.requires.inputs

pub write_run-requires-clause-spelled : goal.write_run-requires-clause-spelled
write_run-requires-clause-spelled g c =
    let sound = c.requires.clockable.sound in
    record {
      module_name = sound.module_name;
      names = sound.names;
      widths = sound.widths;
      drive_literals = sound.drive_literals;
      step_literals = sound.step_literals;
      widenings = sound.widenings;
    }

pub write_run-requires-clause-stimulus : goal.write_run-requires-clause-stimulus
write_run-requires-clause-stimulus g c =
    let x = words_of c.args.inputs.now in
    is_for c.args.compiled.now.design x c.in-Ok.stimulus c.in-Ok.ensures.values (c.requires.clockable.fitting x c.requires.inputs) (subst (λ (n : ℕ). n ≤ 4096) (sym c.in-Ok.ensures.cycles) c.requires.cycles)

pub returns-in-Ok-write_run : goal.returns-in-Ok-write_run
returns-in-Ok-write_run g c =
    let compiled = c.args.compiled.now in
    dump_put compiled.timed compiled.cells compiled.plan compiled.design (words_of c.args.inputs.now) c.in-Ok.stimulus c.requires.clockable.sound.sound c.in-Ok.ensures.values c.in-Ok.ensures.cycles
    c.in-Ok-write_run.ensures.added

pub returns-in-Err-Memory : goal.returns-in-Err-Memory
returns-in-Err-Memory g c = nothing_put refl (c.in-Err-Memory.ensures.memory (ap Err c.in-Err-Memory.field-0-is))

pub returns : goal.returns
returns g c =
    let compiled = c.args.compiled.now in
    let write = ap Err c.in-Err-Write.field-0-is in
    dump_failed compiled.timed compiled.cells compiled.plan compiled.design (words_of c.args.inputs.now) c.in-Ok.stimulus c.requires.clockable.sound.sound c.in-Ok.ensures.values c.in-Ok.ensures.cycles
    (c.in-Err-Write.ensures.fault write) (c.in-Err-Write.ensures.front write)
