use Rattle.std.proofs.Common.{◌≡◌, ◌∙◌, ◌+◌, ◌<◌, List, All, length, map, ap, sym, subst, arith}
use Rattle.av_data.specs.declared.fault.DataFault.TheVariants as data_fault
use Rattle.av_data.specs.declared.sets.DataSet.{DataSet}
use Rattle.av_data.specs.Inputs.{InputWords, words_of}
use Rattle.av_flat.specs.Trees.{view_system}
use Rattle.av_flat.specs.OneSolution.{AreInputs}
use Rattle.av_commands.specs.Streams.{stream_cycles, AreSpelled, IsFirstBadSet}
use Rattle.av_commands.specs.inner.Streaming.{GivesSets, IsStreamOn}
use Rattle.av_commands.specs.Written.{PutsOneOf}
use Rattle.av_commands.proofs.StreamAnswers.{some_set, as_many_inputs, cycles_of_inputs, sets_long, sets_bad, sets_given}
use Rattle.av_commands.proofs.streams.stream_on.Goals as goal

pub stream_cycles-cycles-requires : goal.stream_cycles-cycles-requires
stream_cycles-cycles-requires g c =
    let some = some_set c.args.bytes.now c.args.first_line c.in-Ok.sets c.in-Ok.ensures.sets in
    let same = ap length c.as_slice.ensures in
    omega (arith, some, same)

pub read_sets-requires-clause-lines : goal.read_sets-requires-clause-lines
read_sets-requires-clause-lines g c = subst (λ (xs : List DataSet). All (λ (set : DataSet). set.first_line + length set.bytes.now < 4294967295) xs) (sym c.as_slice-2.ensures) c.in-Ok.ensures.within

pub returns-then-cycles-gt-MOST_CYCLES : goal.returns-then-cycles-gt-MOST_CYCLES
returns-then-cycles-gt-MOST_CYCLES g c =
    let a = c.args.array.now in
    let period = c.period-period.result in
    let sets = c.in-Ok.sets in
    let many : c.stream_cycles-cycles.result ≡ stream_cycles a.cells.cycles period (length sets) = c.stream_cycles-cycles.ensures ∙ ap (λ (xs : List DataSet). stream_cycles a.cells.cycles period (length xs)) c.as_slice.ensures in
    sets_long a c.args.first_line c.args.bytes.now period c.stream_cycles-cycles.result sets (GivesSets a c.args.first_line c.args.bytes.now) c.period-period.ensures c.in-Ok.ensures.sets many c.if-cycles-gt-MOST_CYCLES.true c.put_cycles_refusal.ensures

pub returns-in-Err-read_sets : goal.returns-in-Err-read_sets
returns-in-Err-read_sets g c =
    let a = c.args.array.now in
    let period = c.period-period.result in
    let sets = c.in-Ok.sets in
    let f = c.in-Err-read_sets.fault in
    let many : c.stream_cycles-cycles.result ≡ stream_cycles a.cells.cycles period (length sets) = c.stream_cycles-cycles.ensures ∙ ap (λ (xs : List DataSet). stream_cycles a.cells.cycles period (length xs)) c.as_slice.ensures in
    sets_bad a c.args.first_line c.args.bytes.now period c.stream_cycles-cycles.result sets f (GivesSets a c.args.first_line c.args.bytes.now) c.period-period.ensures c.in-Ok.ensures.sets many c.if-cycles-gt-MOST_CYCLES.false
    (subst (λ (xs : List DataSet). (f ≡ data_fault.Memory → ⊥) → IsFirstBadSet (view_system a.timed.flat) xs f) c.as_slice-2.ensures c.in-Err-read_sets.ensures.fault) c.put_data_refusal.ensures.memory c.put_data_refusal.ensures.refused

pub put_stream-requires-clause-words : goal.put_stream-requires-clause-words
put_stream-requires-clause-words g c =
    subst (λ (xs : List InputWords). All (λ (x : InputWords). AreInputs (view_system c.args.array.now.timed.flat) (words_of x)) xs) (sym c.as_slice-in-Ok-read_sets.ensures) c.in-Ok-read_sets.ensures.words

pub put_stream-requires-clause-short : goal.put_stream-requires-clause-short
put_stream-requires-clause-short g c = λ other has.
    let a = c.args.array.now in
    let period = c.period-period.result in
    let sets = c.in-Ok.sets in
    let inputs = c.in-Ok-read_sets.inputs in
    let many : c.stream_cycles-cycles.result ≡ stream_cycles a.cells.cycles period (length sets) = c.stream_cycles-cycles.ensures ∙ ap (λ (xs : List DataSet). stream_cycles a.cells.cycles period (length xs)) c.as_slice.ensures in
    let spelled = subst (λ (xs : List DataSet). AreSpelled (view_system a.timed.flat) xs (map words_of inputs)) c.as_slice-2.ensures c.in-Ok-read_sets.ensures.spelled in
    let same = as_many_inputs (view_system a.timed.flat) sets inputs spelled in
    subst (λ (xs : List InputWords). c.stream_cycles-cycles.result ≡ stream_cycles a.cells.cycles other (length xs)) (sym c.as_slice-in-Ok-read_sets.ensures)
    (cycles_of_inputs a period other c.stream_cycles-cycles.result sets inputs c.period-period.ensures has many same)

pub put_stream-requires-clause-few : goal.put_stream-requires-clause-few
put_stream-requires-clause-few g c =
    let a = c.args.array.now in
    let sets = c.in-Ok.sets in
    let inputs = c.in-Ok-read_sets.inputs in
    let spelled = subst (λ (xs : List DataSet). AreSpelled (view_system a.timed.flat) xs (map words_of inputs)) c.as_slice-2.ensures c.in-Ok-read_sets.ensures.spelled in
    let same = as_many_inputs (view_system a.timed.flat) sets inputs spelled in
    let some = some_set c.args.bytes.now c.args.first_line sets c.in-Ok.ensures.sets in
    let all = ap length c.as_slice-in-Ok-read_sets.ensures in
    let short = c.if-cycles-gt-MOST_CYCLES.false in
    (omega (arith, same, some, all), omega (arith, short))

pub returns : goal.returns
returns g c =
    let a = c.args.array.now in
    let period = c.period-period.result in
    let cycles = c.stream_cycles-cycles.result in
    let sets = c.in-Ok.sets in
    let inputs = c.in-Ok-read_sets.inputs in
    let many : cycles ≡ stream_cycles a.cells.cycles period (length sets) = c.stream_cycles-cycles.ensures ∙ ap (λ (xs : List DataSet). stream_cycles a.cells.cycles period (length xs)) c.as_slice.ensures in
    let spelled = subst (λ (xs : List DataSet). AreSpelled (view_system a.timed.flat) xs (map words_of inputs)) c.as_slice-2.ensures c.in-Ok-read_sets.ensures.spelled in
    sets_given a c.args.first_line c.args.bytes.now period cycles sets (map words_of inputs) c.period-period.ensures c.in-Ok.ensures.sets many c.if-cycles-gt-MOST_CYCLES.false spelled
    (subst (λ (xs : List InputWords). PutsOneOf (IsStreamOn a cycles (map words_of xs)) (g.K.Sink.state c.args.sink.now) (g.K.Sink.state c.put_stream.new.sink) c.put_stream.result) c.as_slice-in-Ok-read_sets.ensures c.put_stream.ensures)
