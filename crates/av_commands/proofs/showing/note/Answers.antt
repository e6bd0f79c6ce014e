use Rattle.std.proofs.Common.{◌∙◌, ap, length}
use Rattle.std.proofs.lemmas.List.{length-map, length-set}
use Rattle.av_base.specs.declared.word.Word.{Word}
use Rattle.av_clock.specs.Seen.{carried}
use Rattle.av_commands.specs.inner.Watching.{bits_of}
use Rattle.av_commands.proofs.Fed.{at_index}
use Rattle.av_commands.proofs.Watched.{tap_within, mixed_all, note_taken, note_passed}
use Rattle.av_commands.proofs.showing.note.Goals as goal
use Rattle.av_commands.proofs.showing.note.Goals.{then-line-cycle, else-line-cycle}

pub value-requires-clause-place : goal.value-requires-clause-place
value-requires-clause-place c =
    let lines = c.args.lines.now in
    tap_within c.args.clock.now.of lines c.args.taps.now c.loop-k.k c.index-lines-k.result c.requires.taps (at_index lines c.loop-k.k c.index-lines-k.result c.loop-k-test.true c.index-lines-k.is)

pub loop-k-preserved : goal.loop-k-preserved
loop-k-preserved c =
    let lines = c.args.lines.now in
    let v = carried c.args.clock.now in
    let k = c.loop-k.k in
    let line = c.index-lines-k.result in
    let inv = c.loop-k.invariant in
    elim c.if-line-cycle.branch [
      | then-line-cycle w ↦ (
        note_taken c.args.clock.now.of lines c.args.taps.now v c.args.cycle k w.value.result line c.args.words.now c.loop-k.words c.if-line-cycle.words c.requires.taps c.loop-k-test.true c.index-lines-k.is c.requires.room inv.0
            w.if-line-cycle.true w.value.ensures.word (w.words-is ∙ w.set.ensures),
        ap length (w.words-is ∙ w.set.ensures) ∙ length-set c.loop-k.words k (record { bits = w.value.result }) ∙ inv.1,
      )
      | else-line-cycle w ↦ (
        note_passed lines v c.args.cycle k line c.args.words.now c.loop-k.words c.if-line-cycle.words c.loop-k-test.true c.index-lines-k.is c.requires.room inv.0 w.if-line-cycle.false w.words-is,
        ap length w.words-is ∙ inv.1,
      )
    ]

pub returns : goal.returns
returns c =
    let start = c.args.words.now in
    c.loop-k.invariant.0 ∙ mixed_all (carried c.args.clock.now) c.args.cycle c.loop-k.k c.args.lines.now (bits_of start) c.loop-k-test.false (length-map start (λ (w : Word). w.bits) ∙ c.requires.room)
