use Rattle.std.proofs.Common.{refl}
use Rattle.av_data.specs.Inputs.{words_of}
use Rattle.av_commands.proofs.Fed.{left}
use Rattle.av_commands.proofs.Outputs.{trace_put, trace_failed}
use Rattle.av_commands.proofs.runs.put_trace.Goals as goal

pub feed-requires-clause-words : goal.feed-requires-clause-words
feed-requires-clause-words g c = c.requires.clockable.fitting (words_of c.args.inputs.now) c.requires.inputs

pub write_trace-requires-clause-left : goal.write_trace-requires-clause-left
write_trace-requires-clause-left g c =
    let x = words_of c.args.inputs.now in
    left c.args.compiled.now.design x c.in-Ok.stimulus.values c.in-Ok.ensures.values (c.requires.clockable.fitting x c.requires.inputs)

pub returns-in-Ok-write_trace : goal.returns-in-Ok-write_trace
returns-in-Ok-write_trace g c =
    let compiled = c.args.compiled.now in
    trace_put compiled.timed compiled.cells compiled.plan compiled.design (words_of c.args.inputs.now) c.in-Ok.stimulus c.requires.clockable.sound.sound c.in-Ok.ensures.values c.in-Ok.ensures.cycles c.in-Ok-write_trace.ensures.added

pub returns : goal.returns
returns g c =
    let compiled = c.args.compiled.now in
    trace_failed compiled.timed compiled.cells compiled.plan compiled.design (words_of c.args.inputs.now) c.in-Ok.stimulus c.requires.clockable.sound.sound c.in-Ok.ensures.values c.in-Ok.ensures.cycles
    (c.in-Err-write_trace.ensures.fault refl) c.in-Err-write_trace.ensures.front
