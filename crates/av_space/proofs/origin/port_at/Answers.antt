use Rattle.std.proofs.Common.{◌<◌, ◌≤◌, ◌+◌, ◌-◌, ◌/◌, ℕ, length, arith, get_or}
use Rattle.std.proofs.lemmas.Option.{slice_get-get_or}
use Rattle.av_space.specs.declared.cells.InPort.{InPort}
use Rattle.av_space.specs.Ports.{IsPortBefore}
use Rattle.av_space.proofs.Located.{higher, lower, found}
use Rattle.av_space.proofs.PortOrder.{ports_in_turn}
use Rattle.av_space.proofs.origin.port_at.Goals as goal

abbrev none : InPort
none = record { cell = 0; piece = 0; site = 0 }

halved : (low high n : ℕ) → low < high → high ≤ n → (low + (high - low) / 2 < high) × (low + (high - low) / 2 < n)
halved low high n l m = (omega (arith, l), omega (arith, l, m))

pub is_port_before-requires-clause-first : goal.is_port_before-requires-clause-first
is_port_before-requires-clause-first c =
    let ports = c.args.ports.now in
    let low = c.loop-low.low in
    let high = c.loop-low.high in
    let h = halved low high (length ports) c.loop-low-test.true c.loop-low.invariant.fits in
    c.requires.cells (low + (high - low) / 2) none h.1

pub loop-low-preserved-then-is_port_before : goal.loop-low-preserved-then-is_port_before
loop-low-preserved-then-is_port_before c =
    let cells = c.args.cells.now in
    let ports = c.args.ports.now in
    let low = c.loop-low.low in
    let high = c.loop-low.high in
    let m = low + (high - low) / 2 in
    let h = halved low high (length ports) c.loop-low-test.true c.loop-low.invariant.fits in
    record {
      between = higher InPort (IsPortBefore cells) (ports_in_turn cells) ports c.args.port.now c.requires.order (get_or ports m none) low high m (slice_get-get_or ports m none h.1) (c.is_port_before.ensures.0 c.if-is_port_before.true) c.loop-low.invariant.between;
      fits = c.loop-low.invariant.fits;
    }

pub loop-low-preserved : goal.loop-low-preserved
loop-low-preserved c =
    let cells = c.args.cells.now in
    let ports = c.args.ports.now in
    let low = c.loop-low.low in
    let high = c.loop-low.high in
    let m = low + (high - low) / 2 in
    let h = halved low high (length ports) c.loop-low-test.true c.loop-low.invariant.fits in
    let f = c.if-is_port_before.false in
    let k = h.1 in
    record {
      between = lower InPort (IsPortBefore cells) (ports_in_turn cells) ports c.args.port.now c.requires.order (get_or ports m none) low high m (slice_get-get_or ports m none h.1) (λ b. let t = c.is_port_before.ensures.1 b in cc) c.loop-low.invariant.between;
      fits = omega (arith, k);
    }

pub returns : goal.returns
returns c =
    found InPort (IsPortBefore c.args.cells.now) (ports_in_turn c.args.cells.now) c.args.ports.now c.args.port.now c.requires.order c.loop-low.low c.loop-low.high c.loop-low-test.false c.requires.there c.loop-low.invariant.between
