use Rattle.std.proofs.Common.{List, ℕ, refl, sym, subst}
use Rattle.av_data.specs.Inputs.{words_of}
use Rattle.av_commands.specs.declared.runs.Report.{Report}
use Rattle.av_commands.specs.inner.Reported.{GivesReported, IsReport}
use Rattle.av_commands.proofs.Outputs.{data_refused, puts_given}
use Rattle.av_commands.proofs.runs.report_compiled.Goals as goal

pub returns-in-Err : goal.returns-in-Err
returns-in-Err g c =
    let compiled = c.args.compiled.now in
    data_refused compiled.timed c.args.first_line c.args.bytes.now (GivesReported c.args.report compiled.timed compiled.cells compiled.plan compiled.design c.args.bytes.now) c.in-Err.fault (c.in-Err.ensures.fault c.in-Err.fault refl)
    c.put_data_refusal.ensures.memory c.put_data_refusal.ensures.refused

pub returns-in-Results : goal.returns-in-Results
returns-in-Results g c =
    let compiled = c.args.compiled.now in
    let x = words_of c.in-Ok.inputs in
    puts_given (λ (out : List ℕ) told. record {
      inputs = x;
      spelled = c.in-Ok.ensures.found;
      are = c.in-Ok.ensures.inputs;
      reports = subst (λ (r : Report). IsReport r compiled.timed compiled.cells compiled.plan compiled.design x out) (sym c.in-Results.is) told;
    }) c.put_results.ensures

pub returns-in-Trace : goal.returns-in-Trace
returns-in-Trace g c =
    let compiled = c.args.compiled.now in
    let x = words_of c.in-Ok.inputs in
    puts_given (λ (out : List ℕ) told. record {
      inputs = x;
      spelled = c.in-Ok.ensures.found;
      are = c.in-Ok.ensures.inputs;
      reports = subst (λ (r : Report). IsReport r compiled.timed compiled.cells compiled.plan compiled.design x out) (sym c.in-Trace.is) told;
    }) c.put_trace.ensures

pub returns : goal.returns
returns g c =
    let compiled = c.args.compiled.now in
    let x = words_of c.in-Ok.inputs in
    puts_given (λ (out : List ℕ) told. record {
      inputs = x;
      spelled = c.in-Ok.ensures.found;
      are = c.in-Ok.ensures.inputs;
      reports = subst (λ (r : Report). IsReport r compiled.timed compiled.cells compiled.plan compiled.design x out) (sym c.in-Wave.is) told;
    }) c.put_wave.ensures
