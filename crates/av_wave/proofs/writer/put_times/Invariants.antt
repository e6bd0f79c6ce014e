use Rattle.std.proofs.Common.{◌≡◌, ◌≤◌, ◌⊎◌}
use Rattle.av_page.specs.Pages.{Puts}
use Rattle.av_wave.specs.Dumps.{joined}
use Rattle.av_wave.specs.inner.Written.{times}
use Rattle.av_wave.proofs.writer.put_times.Given as goal

abbrev pub invariant-loop-cycle : goal.invariant-loop-cycle
invariant-loop-cycle g l =
    let S = g.K.Sink.state in
    Puts (S l.fn.sink) (S l.sink) l.fn.page l.page (joined (times l.from l.cycle)) × ((l.cycle ≡ l.from) ⊎ (l.cycle ≤ l.to))
