use Rattle.std.proofs.Common.{◌≡◌, length}
use Rattle.av_base.specs.declared.width.Width.{Width}
use Rattle.av_space.specs.declared.cells.InPort.{InPort}
use Rattle.av_build.specs.inner.Blueprints.{seen}
use Rattle.av_build.specs.inner.Built.{IsPortWidth}
use Rattle.av_build.proofs.Pairwise.{ArePairs}
use Rattle.av_build.proofs.blueprint.Blueprint.port_widths.Given as goal

abbrev pub invariant-loop-port : goal.invariant-loop-port
invariant-loop-port l = record {
  one_each : length l.widths ≡ l.port-index;
  each : ArePairs (λ (port : InPort) (w : Width). IsPortWidth (seen l.self.array) port w) l.ports l.widths;
}
