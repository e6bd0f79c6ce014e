use Rattle.std.proofs.Common.{◌≡◌, ◌≤◌, length, drop}
use Rattle.av_net.specs.Names.{names_of}
use Rattle.av_net.specs.Settled.{Agree}
use Rattle.av_clock.specs.Seen.{carried}
use Rattle.av_wave.specs.Clocking.{AreLeft, ArePresented}
use Rattle.av_wave.proofs.feed.present.Given as goal

abbrev pub invariant-loop-port : goal.invariant-loop-port
invariant-loop-port l =
    (l.clock.of ≡ l.fn.clock.of)
    × ArePresented l.fn.clock.of l.given l.cycle l.port (carried l.clock) l.words
    × Agree (names_of l.fn.clock.of.registers) (carried l.fn.clock) (carried l.clock)
    × AreLeft l.fn.clock.of.inputs l.given l.cycle l.port (drop l.next l.given)
    × (l.next ≤ length l.given)
    × (length l.words ≡ length l.fn.words)
