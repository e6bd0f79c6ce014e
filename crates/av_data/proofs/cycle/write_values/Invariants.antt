use Rattle.std.proofs.Common.{take}
use Rattle.av_page.specs.Pages.{Puts}
use Rattle.av_data.specs.Cycles.{values_text}
use Rattle.av_data.proofs.cycle.write_values.Given as goal

abbrev pub invariant-loop-i : goal.invariant-loop-i
invariant-loop-i g l =
    let S = g.K.Sink.state in
    Puts (S l.fn.sink) (S l.sink) l.fn.page l.page (values_text (take l.i l.ports) (take l.i l.values))
