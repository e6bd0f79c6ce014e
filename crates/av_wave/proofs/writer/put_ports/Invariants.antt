use Rattle.std.proofs.Common.{take}
use Rattle.av_page.specs.Pages.{Puts}
use Rattle.av_wave.specs.Dumps.{joined, port_lines}
use Rattle.av_wave.proofs.writer.put_ports.Given as goal

abbrev pub invariant-loop-number : goal.invariant-loop-number
invariant-loop-number g l =
    let S = g.K.Sink.state in
    Puts (S l.fn.sink) (S l.sink) l.fn.page l.page (joined (port_lines 0 (take l.number l.ports)))
