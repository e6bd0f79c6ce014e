use Rattle.std.proofs.Common.{◌∙◌, length, refl, sym, ap}
use Rattle.av_data.specs.Inputs.{words_of}
use Rattle.av_commands.proofs.Outputs.{shown_long, results_put, results_failed}
use Rattle.av_commands.proofs.runs.put_results.Goals as goal

pub shown-requires-clause-words : goal.shown-requires-clause-words
shown-requires-clause-words g c = c.requires.clockable.fitting (words_of c.args.inputs.now) c.requires.inputs

pub write_results-requires : goal.write_results-requires
write_results-requires g c =
    ap length c.as_slice.ensures ∙ shown_long c.args.compiled.now.design (words_of c.args.inputs.now) c.in-Ok.words c.in-Ok.ensures ∙ sym (ap length c.as_slice-lines.ensures)

pub returns-in-Ok-write_results : goal.returns-in-Ok-write_results
returns-in-Ok-write_results g c =
    let compiled = c.args.compiled.now in
    results_put compiled.timed compiled.cells compiled.plan compiled.design (words_of c.args.inputs.now) c.in-Ok.words c.as_slice.result.now c.as_slice-lines.result.now c.as_slice-lines.ensures c.as_slice.ensures c.in-Ok.ensures c.in-Ok-write_results.ensures.added

pub returns : goal.returns
returns g c =
    let compiled = c.args.compiled.now in
    results_failed compiled.timed compiled.cells compiled.plan compiled.design (words_of c.args.inputs.now) c.in-Ok.words c.as_slice.result.now c.as_slice-lines.result.now c.as_slice-lines.ensures c.as_slice.ensures c.in-Ok.ensures
    (c.in-Err-write_results.ensures.fault refl) c.in-Err-write_results.ensures.front
