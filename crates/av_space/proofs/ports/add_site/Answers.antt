use Rattle.std.proofs.Common.{rules, ◌≡◌, ◌<◌, ◌≤◌, ℕ, subst, arith}
use Rattle.av_space.specs.inner.NodePieces.{ArePortsAt}
use Rattle.av_space.proofs.PieceParts.{own_points, one_cell_of_own}
use Rattle.av_space.proofs.ports.add_site.Goals as goal

pub add_port-requires-clause-points : goal.add_port-requires-clause-points
add_port-requires-clause-points c =
    let at = c.args.at.now in
    let p = c.loop-cell.cell in
    let low : at.first ≤ p = search rules in
    let high : p < at.last = search rules in
    own_points at c.requires.at c.args.number.0 c.args.site.now c.requires.site p low high c.own_slots-slots.result.now c.own_slots-slots.ensures

pub add_port-requires-clause-few : goal.add_port-requires-clause-few
add_port-requires-clause-few c = c.loop-cell.invariant.few

pub loop-cell-preserved : goal.loop-cell-preserved
loop-cell-preserved c =
    let at = c.args.at.now in
    let p = c.loop-cell.cell in
    let low : at.first ≤ p = search rules in
    let high : p < at.last = search rules in
    one_cell_of_own at c.requires.at c.args.number.0 c.args.site.now c.requires.site p low high c.own_slots-slots.result.now c.own_slots-slots.ensures c.loop-cell.ports c.add_port.new.ports c.loop-cell.invariant c.in_ok-add_port.ensures.ports
    c.in_ok-add_port.ensures.few

pub returns : goal.returns
returns c =
    let at = c.args.at.now in
    let over : at.last ≤ c.loop-cell.cell = search rules in
    let few : c.loop-cell.cell ≤ at.last = c.loop-cell.auto.cell-end c.requires.at.ordered in
    let same : c.loop-cell.cell ≡ at.last = omega (arith, over, few) in
    subst (λ (p : ℕ). ArePortsAt at c.args.number.0 p c.loop-cell.ports) same c.loop-cell.invariant
