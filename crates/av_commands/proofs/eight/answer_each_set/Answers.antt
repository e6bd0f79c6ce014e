use Rattle.std.proofs.Common.{List, All, map, sym, subst}
use Rattle.av_data.specs.declared.fault.DataFault.TheVariants as data_fault
use Rattle.av_data.specs.Inputs.{InputWords, words_of}
use Rattle.av_flat.specs.OneSolution.{AreInputs}
use Rattle.av_flat.specs.Trees.{view_system}
use Rattle.av_commands.specs.inner.Eighting.{GivesEightOf, AreResultsOfSets}
use Rattle.av_commands.specs.Written.{PutsOneOf}
use Rattle.av_commands.proofs.EightAnswers.{set_refused, sets_answered}
use Rattle.av_commands.proofs.eight.answer_each_set.Goals as goal

pub put_sets-requires-clause-inputs : goal.put_sets-requires-clause-inputs
put_sets-requires-clause-inputs g c =
    subst (λ (xs : List InputWords). All (λ (x : InputWords). AreInputs (view_system c.args.compiled.now.timed.flat) (words_of x)) xs) (sym c.as_slice.ensures) c.in-Ok.ensures.words

pub returns-in-Err : goal.returns-in-Err
returns-in-Err g c =
    let made = c.args.compiled.now in
    set_refused made.timed c.args.sets.now c.in-Err.fault (GivesEightOf made.timed made.design c.args.sets.now) c.in-Err.ensures.fault c.put_data_refusal.ensures.memory c.put_data_refusal.ensures.refused

pub returns-in-Ok : goal.returns-in-Ok
returns-in-Ok g c =
    let made = c.args.compiled.now in
    let S = g.K.Sink.state in
    sets_answered made.timed made.design c.args.sets.now c.in-Ok.inputs c.in-Ok.ensures.spelled c.in-Ok.ensures.words
    (subst (λ (xs : List InputWords). PutsOneOf (AreResultsOfSets made.timed made.design (map words_of xs)) (S c.args.sink.now) (S c.put_sets.new.sink) c.put_sets.result) c.as_slice.ensures c.put_sets.ensures)
