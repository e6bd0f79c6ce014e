use Rattle.std.proofs.Common.{ℕ, ◌+◌, ◌<◌, refl, sym, subst, List, All, length, arith}
use Rattle.av_names.specs.declared.size.Size.{Size}
use Rattle.av_net.specs.declared.design.Design.{Design}
use Rattle.av_data.specs.declared.sets.DataSet.{DataSet}
use Rattle.av_compile.specs.Headline.{Headline}
use Rattle.av_compile.specs.Mapped.{IsMapped, IsUnmapped}
use Rattle.av_commands.specs.declared.status.Status.TheVariants.{Refused}
use Rattle.av_commands.specs.Refusals.{refusal_line}
use Rattle.av_commands.specs.Eights.{no_mark, sets_reason}
use Rattle.av_commands.specs.WithWords.{GivesEightWith}
use Rattle.av_commands.specs.inner.Eighting.{RefusesBadSet, GivesEightOf}
use Rattle.av_commands.specs.inner.Reported.{IsClockable}
use Rattle.av_commands.specs.Written.{IsPut, IsAnswered, refused}
use Rattle.av_commands.proofs.EightAnswers.{many_refused, eight_refused, eight_given}
use Rattle.av_commands.proofs.Reporting.{clockable}
use Rattle.av_commands.proofs.eight.run8.Goals as goal

pub answer_sets-requires-clause-clockable : goal.answer_sets-requires-clause-clockable
answer_sets-requires-clause-clockable g c =
    let made = c.in-Ok-compile.compiled in
    subst (λ (d : Design). IsClockable made.timed d) (sym c.in-Ok-compile.ensures.design)
    (clockable c.in-Some.parts.text.now c.as_slice.result.now c.args.width.bits c.args.reach.size made.timed made.cells made.plan c.in-Ok-compile.ensures.headline c.in-Ok-compile.ensures.mapped)

pub answer_sets-requires-clause-lines : goal.answer_sets-requires-clause-lines
answer_sets-requires-clause-lines g c =
    subst (λ (xs : List DataSet). All (λ (set : DataSet). set.first_line + length set.bytes.now < 4294967295) xs) (sym c.as_slice-in-Ok-compile.ensures) c.in-Ok-data_sets.ensures.within

pub returns-in_default : goal.returns-in_default
returns-in_default g c = refused (record { sizes = c.in-Ok.sizes; give = c.in-Ok.ensures.given; refuses = no_mark c.in_default.ensures.none refl }) c.put.ensures

pub returns-then-len-gt-MOST_SETS : goal.returns-then-len-gt-MOST_SETS
returns-then-len-gt-MOST_SETS g c =
    let bits = c.args.width.bits in
    let box = c.args.reach.size in
    let S = g.K.Sink.state in
    many_refused (GivesEightWith c.args.words.now bits box c.args.bytes.now) c.args.words.now c.in-Ok.sizes bits box c.in-Some.parts.text.now c.in-Some.parts.rest.now c.args.bytes.now c.in-Some.parts.first_line c.in-Ok-data_sets.sets
    c.in-Some.ensures.some c.in-Ok.ensures.given c.in-Ok-data_sets.ensures.sets (omega arith)
    (subst (λ (n : ℕ). IsPut (S c.args.sink.now) (S c.put_sets_refusal.new.sink) (refusal_line (sets_reason n)) Refused c.put_sets_refusal.result) c.len-then-len-gt-MOST_SETS.ensures.count c.put_sets_refusal.ensures)

pub returns-in-Err-compile : goal.returns-in-Err-compile
returns-in-Err-compile g c =
    let refusal = c.in-Err-compile.refusal in
    let bits = c.args.width.bits in
    let box = c.args.reach.size in
    eight_refused (GivesEightWith c.args.words.now bits box c.args.bytes.now) c.args.words.now c.in-Ok.sizes bits box c.in-Some.parts.text.now c.in-Some.parts.rest.now c.args.bytes.now c.in-Some.parts.first_line c.in-Ok-data_sets.sets refusal
    c.in-Some.ensures.some c.in-Ok.ensures.given c.in-Ok-data_sets.ensures.sets (omega arith)
    (λ some. subst (λ (xs : List Size). IsUnmapped c.in-Some.parts.text.now xs bits box refusal) c.as_slice.ensures (c.in-Err-compile.ensures.refused refusal refl some))
    c.put_alpha_refusal.ensures.memory c.put_alpha_refusal.ensures.refused

pub returns : goal.returns
returns g c =
    let made = c.in-Ok-compile.compiled in
    let bits = c.args.width.bits in
    let box = c.args.reach.size in
    let text = c.in-Some.parts.text.now in
    let S = g.K.Sink.state in
    eight_given text c.in-Ok.sizes bits box made.timed made.cells made.plan (omega (arith, c.in-Some.ensures.within, c.requires)) c.args.width.least
    (subst (λ (xs : List Size). Headline text xs bits box made.timed made.cells made.plan) c.as_slice.ensures c.in-Ok-compile.ensures.headline)
    (subst (λ (xs : List Size). IsMapped text xs bits box made.timed made.cells) c.as_slice.ensures c.in-Ok-compile.ensures.mapped)
    made.design c.in-Ok-compile.ensures.design c.in-Some.parts.rest.now c.args.bytes.now c.in-Some.parts.first_line c.in-Ok-data_sets.sets c.in-Some.ensures.some c.in-Ok-data_sets.ensures.sets (omega arith) c.args.words.now c.in-Ok.ensures.given
    (subst (λ (xs : List DataSet). IsAnswered (RefusesBadSet made.timed xs) (GivesEightOf made.timed made.design xs) (S c.args.sink.now) (S c.answer_sets.new.sink) c.answer_sets.result) c.as_slice-in-Ok-compile.ensures c.answer_sets.ensures)
