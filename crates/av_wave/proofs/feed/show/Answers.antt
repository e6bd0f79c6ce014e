use Rattle.std.proofs.Common.{◌≡◌, ◌+◌, length, take, ap, ◌∙◌}
use Rattle.std.proofs.lemmas.List.{length-set}
use Rattle.av_clock.specs.Seen.{carried}
use Rattle.av_wave.specs.Simulated.{header_ports}
use Rattle.av_wave.proofs.Presenting.{wire_within, shows_more}
use Rattle.av_wave.proofs.feed.show.Goals as goal

pub value-requires-clause-place : goal.value-requires-clause-place
value-requires-clause-place c = wire_within c.args.clock.now.of c.args.wires.now c.loop-i.i c.requires.wires c.loop-i-test.true

pub loop-i-preserved : goal.loop-i-preserved
loop-i-preserved c =
    let inv = c.loop-i.invariant in
    let room : length c.loop-i.words ≡ length (header_ports c.args.clock.now.of) = inv.1 ∙ c.requires.room in (
      ap (take (c.args.inputs + (c.loop-i.i + 1))) c.set.ensures
          ∙ shows_more c.args.clock.now.of (carried c.args.clock.now) c.args.wires.now c.loop-i.words c.args.inputs c.loop-i.i c.value.result c.requires.wires c.loop-i-test.true c.requires.count room inv.0 c.value.ensures.word,
      ap length c.set.ensures ∙ length-set c.loop-i.words (c.args.inputs + c.loop-i.i) c.value.result ∙ inv.1,
    )
