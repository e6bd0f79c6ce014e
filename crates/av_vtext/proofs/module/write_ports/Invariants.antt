use Rattle.std.proofs.Common.{take}
use Rattle.std.specs.List.{flat_map}
use Rattle.av_net.specs.Texts.{port_text}
use Rattle.av_page.specs.Pages.{Puts}
use Rattle.av_vtext.proofs.module.write_ports.Given as goal

abbrev pub invariant-loop-port : goal.invariant-loop-port
invariant-loop-port g l =
    let S = g.K.Sink.state in
    Puts (S l.fn.sink) (S l.sink) l.fn.page l.page (flat_map (port_text l.direction) (take l.port-index l.ports))
