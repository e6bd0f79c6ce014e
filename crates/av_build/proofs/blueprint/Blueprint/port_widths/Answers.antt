use Rattle.std.proofs.Common.{get_or, refl}
use Rattle.av_base.specs.declared.width.Width.{Width}
use Rattle.av_space.specs.declared.cells.InPort.{InPort}
use Rattle.av_build.specs.inner.Blueprints.{seen}
use Rattle.av_build.specs.inner.Built.{IsPortWidth}
use Rattle.av_build.proofs.Pairwise.{next_pair, all_pairs}
use Rattle.av_build.proofs.blueprint.Blueprint.port_widths.Goals as goal

abbrev none : InPort
none = record { cell = 0; piece = 0; site = 0 }

pub loop-port-preserved : goal.loop-port-preserved
loop-port-preserved c =
    let a = seen c.args.self.now.array in
    let ports = c.args.ports.now in
    let n = c.loop-port.port-index in
    let next = next_pair (λ (port : InPort) (w : Width). IsPortWidth a port w) ports c.loop-port.widths c.push.new.self n none (get_or ports n none) c.port_width.result c.loop-port-test.true refl
    c.loop-port.invariant.one_each c.loop-port.invariant.each c.port_width.ensures c.in_ok-push.ensures.ok in
    record { one_each = next.0; each = next.1 }

pub returns : goal.returns
returns c =
    let a = seen c.args.self.now.array in
    let all = all_pairs (λ (port : InPort) (w : Width). IsPortWidth a port w) a.ports c.args.ports.now c.loop-port.widths c.loop-port.port-index c.requires.ports
    c.loop-port.invariant.one_each c.loop-port.auto.port-index-end c.loop-port-test.false c.loop-port.invariant.each in
    record { one_each = all.0; each = all.1 }
