use Rattle.std.proofs.Common.{take}
use Rattle.std.specs.List.{flat_map}
use Rattle.av_net.specs.Texts.{step_line}
use Rattle.av_page.specs.Pages.{Puts}
use Rattle.av_vtext.proofs.module.write_steps.Given as goal

abbrev pub invariant-loop-step : goal.invariant-loop-step
invariant-loop-step g l =
    let S = g.K.Sink.state in
    Puts (S l.fn.sink) (S l.sink) l.fn.page l.page (flat_map (step_line l.registers) (take l.step-index l.steps))
