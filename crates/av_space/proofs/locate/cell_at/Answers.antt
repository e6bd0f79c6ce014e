use Rattle.std.proofs.Common.{◌∙◌, ◌<◌, ◌≤◌, ◌+◌, ◌-◌, ◌/◌, ℕ, Some, length, arith, sym, ap}
use Rattle.std.proofs.lemmas.Option.{slice_get-get_or}
use Rattle.av_space.specs.declared.cells.Cell.{Cell}
use Rattle.av_space.specs.Occupancy.{IsCellBefore}
use Rattle.av_space.proofs.OneArray.{cells_in_turn}
use Rattle.av_space.proofs.Located.{higher, lower, found}
use Rattle.av_space.proofs.locate.cell_at.Goals as goal

halved : (low high n : ℕ) → low < high → high ≤ n → (low + (high - low) / 2 < high) × (low + (high - low) / 2 < n)
halved low high n l m = (omega (arith, l), omega (arith, l, m))

pub loop-low-preserved-then-is_cell_before : goal.loop-low-preserved-then-is_cell_before
loop-low-preserved-then-is_cell_before c =
    let cells = c.args.cells.now in
    let own : Cell = record { node = c.args.node.0; at = c.args.at.now } in
    let low = c.loop-low.low in
    let high = c.loop-low.high in
    let m = low + (high - low) / 2 in
    let h = halved low high (length cells) c.loop-low-test.true c.loop-low.invariant.fits in
    let x = c.index-cells-middle.result in
    record {
      between = higher Cell IsCellBefore cells_in_turn cells own c.requires.order x low high m (slice_get-get_or cells m x h.1 ∙ ap Some (sym c.index-cells-middle.is)) (c.is_cell_before.ensures.0 c.if-is_cell_before.true) c.loop-low.invariant.between;
      fits = c.loop-low.invariant.fits;
    }

pub loop-low-preserved : goal.loop-low-preserved
loop-low-preserved c =
    let cells = c.args.cells.now in
    let own : Cell = record { node = c.args.node.0; at = c.args.at.now } in
    let low = c.loop-low.low in
    let high = c.loop-low.high in
    let m = low + (high - low) / 2 in
    let h = halved low high (length cells) c.loop-low-test.true c.loop-low.invariant.fits in
    let x = c.index-cells-middle.result in
    let f = c.if-is_cell_before.false in
    let k = h.1 in
    record {
      between = lower Cell IsCellBefore cells_in_turn cells own c.requires.order x low high m (slice_get-get_or cells m x h.1 ∙ ap Some (sym c.index-cells-middle.is)) (λ b. let t = c.is_cell_before.ensures.1 b in cc) c.loop-low.invariant.between;
      fits = omega (arith, k);
    }

pub returns : goal.returns
returns c = found Cell IsCellBefore cells_in_turn c.args.cells.now (record { node = c.args.node.0; at = c.args.at.now }) c.requires.order c.loop-low.low c.loop-low.high c.loop-low-test.false c.requires.there c.loop-low.invariant.between
