use Rattle.std.proofs.Common.{refl}
use Rattle.std.proofs.lemmas.List.Elements.{All-weaker}
use Rattle.av_flat.specs.Trees.{view_system}
use Rattle.av_net.specs.Presented.{HaveFittingWords}
use Rattle.av_data.specs.Inputs.{InputWords, words_of}
use Rattle.av_flat.specs.OneSolution.{AreInputs}
use Rattle.av_commands.proofs.SetOutputs.{all_long, sets_put, sets_failed}
use Rattle.av_commands.proofs.eight.put_sets.Goals as goal

pub shown_in_lanes-requires-clause-words : goal.shown_in_lanes-requires-clause-words
shown_in_lanes-requires-clause-words g c =
    let compiled = c.args.compiled.now in
    All-weaker (λ (x : InputWords). AreInputs (view_system compiled.timed.flat) (words_of x)) (λ (x : InputWords). HaveFittingWords compiled.design (words_of x))
    (λ x are. c.requires.clockable.fitting (words_of x) are) c.args.inputs.now c.requires.inputs

pub write_sets-requires : goal.write_sets-requires
write_sets-requires g c =
    all_long c.args.compiled.now.design c.args.inputs.now c.in-Ok.columns c.as_slice.result.now c.as_slice-lines.result.now c.as_slice.ensures c.as_slice-lines.ensures c.in-Ok.ensures.count c.in-Ok.ensures.shown

pub returns-in-Ok-write_sets : goal.returns-in-Ok-write_sets
returns-in-Ok-write_sets g c =
    let compiled = c.args.compiled.now in
    sets_put compiled.timed compiled.design c.args.inputs.now c.in-Ok.columns c.as_slice.result.now c.as_slice-lines.result.now c.as_slice.ensures c.as_slice-lines.ensures c.in-Ok.ensures.count c.in-Ok.ensures.shown
    c.in-Ok-write_sets.ensures.added

pub returns : goal.returns
returns g c =
    let compiled = c.args.compiled.now in
    sets_failed compiled.timed compiled.design c.args.inputs.now c.in-Ok.columns c.as_slice.result.now c.as_slice-lines.result.now c.as_slice.ensures c.as_slice-lines.ensures c.in-Ok.ensures.count c.in-Ok.ensures.shown
    (c.in-Err-write_sets.ensures.fault refl) c.in-Err-write_sets.ensures.front
