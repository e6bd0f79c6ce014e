use Rattle.std.proofs.Common.{◌++◌, subst}
use Rattle.std.specs.Prelude.{codes}
use Rattle.av_base.specs.Outside.{Adds, AddsPrefix}
use Rattle.av_base.proofs.Moves.{on_err, Adds-more}
use Rattle.av_net.specs.declared.netlist.Module.{Module}
use Rattle.av_net.specs.Clocked.{Stream, Run, IsRun}
use Rattle.av_net.specs.PlanTexts.{text2}
use Rattle.av_wave.specs.Simulated.{IsStimulated, run_lines}
use Rattle.av_commands.proofs.Outputs.{front_more, front_after, on_ok_from, on_err_from}
use Rattle.av_commands.proofs.runs.write_trace.Goals as goal

pub returns-in_err-write_plan-clause-front : goal.returns-in_err-write_plan-clause-front
returns-in_err-write_plan-clause-front g c =
    let S = g.K.Sink.state in
    let h = (S c.args.sink.now).held in
    let h1 = (S c.write_plan.new.sink).held in
    let first = text2 c.args.compiled.now.plan in
    on_err c.from_residual.result
    (λ stream run stimulated is. front_more h h1 (first ++ codes "%%\n") (run_lines c.args.compiled.now.design.module run.in_cycle c.args.stimulus.now.cycles) (front_more h h1 first (codes "%%\n") c.in_err-write_plan.ensures.front))

pub returns-in_err-write_all-clause-front : goal.returns-in_err-write_all-clause-front
returns-in_err-write_all-clause-front g c =
    let S = g.K.Sink.state in
    let h = (S c.args.sink.now).held in
    let h1 = (S c.write_plan.new.sink).held in
    let h2 = (S c.write_all.new.sink).held in
    let first = text2 c.args.compiled.now.plan in
    let mark : AddsPrefix h1 h2 (codes "%%\n") = subst (AddsPrefix h1 h2) c.as_bytes.ensures.value c.in_err-write_all.ensures.front in
    on_err c.from_residual-in_err-write_all.result
    (λ stream run stimulated is. front_more h h2 (first ++ codes "%%\n") (run_lines c.args.compiled.now.design.module run.in_cycle c.args.stimulus.now.cycles) (front_after h h1 h2 first (codes "%%\n") c.in_ok-write_plan.ensures.added mark))

pub returns-clause-added : goal.returns-clause-added
returns-clause-added g c =
    let S = g.K.Sink.state in
    let h = (S c.args.sink.now).held in
    let h1 = (S c.write_plan.new.sink).held in
    let h2 = (S c.write_all.new.sink).held in
    let h3 = (S c.run.new.sink).held in
    let s = c.args.stimulus.now in
    let first = text2 c.args.compiled.now.plan in
    let mark : Adds h1 h2 (codes "%%\n") = subst (Adds h1 h2) c.as_bytes.ensures.value c.in_ok-write_all.ensures.added in
    on_ok_from c.run.result
    (λ adds stream run stimulated is.
    let all = subst (λ (m : Module). (stream : Stream) (run : Run) → IsStimulated m s stream → IsRun m s.cycles stream run → Adds h2 h3 (run_lines m run.in_cycle s.cycles)) c.requires.prepared.clock adds in
    Adds-more h h2 h3 (first ++ codes "%%\n") (run_lines c.args.compiled.now.design.module run.in_cycle s.cycles) (Adds-more h h1 h2 first (codes "%%\n") c.in_ok-write_plan.ensures.added mark) (all stream run stimulated is))
    c.run.ensures.added

pub returns-clause-front : goal.returns-clause-front
returns-clause-front g c =
    let S = g.K.Sink.state in
    let h = (S c.args.sink.now).held in
    let h1 = (S c.write_plan.new.sink).held in
    let h2 = (S c.write_all.new.sink).held in
    let h3 = (S c.run.new.sink).held in
    let s = c.args.stimulus.now in
    let first = text2 c.args.compiled.now.plan in
    let mark : Adds h1 h2 (codes "%%\n") = subst (Adds h1 h2) c.as_bytes.ensures.value c.in_ok-write_all.ensures.added in
    on_err_from c.run.result
    (λ adds stream run stimulated is.
    let all = subst (λ (m : Module). (stream : Stream) (run : Run) → IsStimulated m s stream → IsRun m s.cycles stream run → AddsPrefix h2 h3 (run_lines m run.in_cycle s.cycles)) c.requires.prepared.clock adds in
    front_after h h2 h3 (first ++ codes "%%\n") (run_lines c.args.compiled.now.design.module run.in_cycle s.cycles) (Adds-more h h1 h2 first (codes "%%\n") c.in_ok-write_plan.ensures.added mark) (all stream run stimulated is))
    c.run.ensures.front
