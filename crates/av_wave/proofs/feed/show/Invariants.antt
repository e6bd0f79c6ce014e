use Rattle.std.proofs.Common.{◌≡◌, ◌+◌, ◌++◌, length, take}
use Rattle.av_clock.specs.Seen.{carried}
use Rattle.av_wave.specs.Simulated.{port_words}
use Rattle.av_wave.proofs.feed.show.Given as goal

abbrev pub invariant-loop-i : goal.invariant-loop-i
invariant-loop-i l =
    (take (l.inputs + l.i) l.words ≡ port_words (carried l.clock) (l.clock.of.inputs ++ take l.i l.clock.of.outputs))
    × (length l.words ≡ length l.fn.words)
