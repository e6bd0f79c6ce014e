use Rattle.std.proofs.Common.{refl, sym, subst, List, arith}
use Rattle.av_names.specs.declared.size.Size.{Size}
use Rattle.av_net.specs.declared.design.Design.{Design}
use Rattle.av_compile.specs.Mapped.{IsMapped, IsUnmapped}
use Rattle.av_compile.specs.Headline.{Headline}
use Rattle.av_commands.specs.Runs.{no_mark}
use Rattle.av_commands.specs.Written.{refused}
use Rattle.av_commands.specs.WithWords.{GivesReportWith}
use Rattle.av_commands.specs.inner.Reported.{IsClockable}
use Rattle.av_commands.proofs.Reporting.{clockable, few_cycles, run_refused, report_answered}
use Rattle.av_commands.proofs.runs.answer_run.Goals as goal

pub report_on-requires-clause-plan : goal.report_on-requires-clause-plan
report_on-requires-clause-plan g c = c.in-Ok-compile.ensures.headline.plan.is_plan.sound

pub report_on-requires-clause-clockable : goal.report_on-requires-clause-clockable
report_on-requires-clause-clockable g c =
    let made = c.in-Ok-compile.compiled in
    subst (λ (d : Design). IsClockable made.timed d) (sym c.in-Ok-compile.ensures.design)
    (clockable c.in-Some.parts.text.now c.as_slice.result.now c.args.width.bits c.args.reach.size made.timed made.cells made.plan c.in-Ok-compile.ensures.headline c.in-Ok-compile.ensures.mapped)

pub report_on-requires-clause-cycles : goal.report_on-requires-clause-cycles
report_on-requires-clause-cycles g c =
    let made = c.in-Ok-compile.compiled in
    few_cycles c.in-Some.parts.text.now c.as_slice.result.now c.args.width.bits c.args.reach.size made.timed made.cells c.in-Ok-compile.ensures.mapped

pub returns-in_default : goal.returns-in_default
returns-in_default g c = refused (record { sizes = c.in-Ok.sizes; give = c.in-Ok.ensures.given; refuses = no_mark c.in_default.ensures.none refl }) c.put.ensures

pub returns-in-Err-compile : goal.returns-in-Err-compile
returns-in-Err-compile g c =
    let refusal = c.in-Err-compile.refusal in
    let bits = c.args.width.bits in
    let box = c.args.reach.size in
    run_refused (GivesReportWith c.args.report c.args.words.now bits box c.args.bytes.now) c.args.words.now c.in-Ok.sizes bits box c.in-Some.parts.text.now c.in-Some.parts.rest.now c.args.bytes.now c.in-Some.parts.first_line refusal
    c.in-Some.ensures.some c.in-Ok.ensures.given
    (λ some. subst (λ (xs : List Size). IsUnmapped c.in-Some.parts.text.now xs bits box refusal) c.as_slice.ensures (c.in-Err-compile.ensures.refused refusal refl some))
    c.put_alpha_refusal.ensures.memory c.put_alpha_refusal.ensures.refused

pub returns : goal.returns
returns g c =
    let made = c.in-Ok-compile.compiled in
    let bits = c.args.width.bits in
    let box = c.args.reach.size in
    let text = c.in-Some.parts.text.now in
    report_answered text c.in-Ok.sizes bits box made.timed made.cells made.plan (omega (arith, c.in-Some.ensures.within, c.requires)) c.args.width.least
    (subst (λ (xs : List Size). Headline text xs bits box made.timed made.cells made.plan) c.as_slice.ensures c.in-Ok-compile.ensures.headline)
    (subst (λ (xs : List Size). IsMapped text xs bits box made.timed made.cells) c.as_slice.ensures c.in-Ok-compile.ensures.mapped)
    made.design c.in-Ok-compile.ensures.design c.args.words.now c.args.report c.in-Some.parts.rest.now c.args.bytes.now c.in-Some.parts.first_line c.in-Some.ensures.some c.in-Ok.ensures.given c.report_on.ensures
