use Rattle.std.proofs.Common.{refl, subst, List, arith}
use Rattle.av_names.specs.declared.size.Size.{Size}
use Rattle.av_compile.specs.Mapped.{IsMapped, IsUnmapped}
use Rattle.av_compile.specs.Scheduled.{HasOneSolutionEach}
use Rattle.av_commands.specs.Streams.{no_mark}
use Rattle.av_commands.specs.Written.{refused}
use Rattle.av_commands.specs.WithWords.{GivesStreamWith}
use Rattle.av_commands.proofs.StreamAnswers.{text_refused, text_answered}
use Rattle.av_commands.proofs.streams.stream.Goals as goal

pub stream_on-requires-clause-legal : goal.stream_on-requires-clause-legal
stream_on-requires-clause-legal g c = c.in-Ok-mapped.ensures.found.pipelined.legal

pub stream_on-requires-clause-whole : goal.stream_on-requires-clause-whole
stream_on-requires-clause-whole g c = c.in-Ok-mapped.ensures.found.whole

pub stream_on-requires-clause-within : goal.stream_on-requires-clause-within
stream_on-requires-clause-within g c = c.in-Ok-mapped.ensures.found.no_cause

pub returns-in_default : goal.returns-in_default
returns-in_default g c = refused (record { sizes = c.in-Ok.sizes; give = c.in-Ok.ensures.given; refuses = no_mark c.in_default.ensures.none refl }) c.put.ensures

pub returns-in-Err-mapped : goal.returns-in-Err-mapped
returns-in-Err-mapped g c =
    let refusal = c.in-Err-mapped.refusal in
    let bits = c.args.width.bits in
    let box = c.args.reach.size in
    text_refused (GivesStreamWith c.args.words.now bits box c.args.bytes.now) c.args.words.now c.in-Ok.sizes bits box c.in-Some.parts.text.now c.in-Some.parts.rest.now c.args.bytes.now c.in-Some.parts.first_line refusal
    c.in-Some.ensures.some c.in-Ok.ensures.given
    (λ some. subst (λ (xs : List Size). IsUnmapped c.in-Some.parts.text.now xs bits box refusal) c.as_slice.ensures (c.in-Err-mapped.ensures.refused refusal refl some))
    c.put_alpha_refusal.ensures.memory c.put_alpha_refusal.ensures.refused

pub returns : goal.returns
returns g c =
    let a = c.in-Ok-mapped.array in
    let bits = c.args.width.bits in
    let box = c.args.reach.size in
    let text = c.in-Some.parts.text.now in
    text_answered text c.in-Ok.sizes bits box a (omega (arith, c.in-Some.ensures.within, c.requires)) c.args.width.least
    (subst (λ (xs : List Size). IsMapped text xs bits box a.timed a.cells) c.as_slice.ensures c.in-Ok-mapped.ensures.found)
    (subst (λ (xs : List Size). HasOneSolutionEach text xs bits) c.as_slice.ensures c.in-Ok-mapped.ensures.one_solution)
    c.args.words.now c.in-Some.parts.rest.now c.args.bytes.now c.in-Some.parts.first_line c.in-Some.ensures.some c.in-Ok.ensures.given c.stream_on.ensures
