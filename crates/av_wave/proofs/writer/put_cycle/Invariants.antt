use Rattle.av_page.specs.Pages.{Puts}
use Rattle.av_wave.specs.Dumps.{joined}
use Rattle.av_wave.proofs.News.{news_lines}
use Rattle.av_wave.proofs.writer.put_cycle.Given as goal

abbrev pub invariant-loop-port : goal.invariant-loop-port
invariant-loop-port g l =
    let S = g.K.Sink.state in
    Puts (S l.fn.sink) (S l.sink) l.fn.page l.page (joined (news_lines l.ports l.cycle l.before l.words l.port))
