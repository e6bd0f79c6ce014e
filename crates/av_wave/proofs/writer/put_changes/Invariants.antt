use Rattle.std.proofs.Common.{◌≡◌, take}
use Rattle.av_page.specs.Pages.{Puts}
use Rattle.av_wave.specs.Dumps.{joined}
use Rattle.av_wave.specs.inner.Written.{lines_to, last_cycle}
use Rattle.av_wave.proofs.writer.put_changes.Given as goal

abbrev pub invariant-loop-change : goal.invariant-loop-change
invariant-loop-change g l =
    let S = g.K.Sink.state in
    Puts (S l.fn.sink) (S l.sink) l.fn.page l.page (joined (lines_to l.ports 0 (take l.change-index l.changes))) × (l.cycle ≡ last_cycle 0 (take l.change-index l.changes))
