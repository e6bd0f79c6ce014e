use Rattle.std.proofs.Common.{rules, ◌≡◌, ◌<◌, ◌≤◌, length, refl, subst, arith}
use Rattle.av_space.specs.declared.cells.Cell.{Cell}
use Rattle.av_space.proofs.ByPlace.{read_at}
use Rattle.av_space.proofs.FirstCells.{ends_at, ends_all}
use Rattle.av_space.proofs.ports.end_of.Goals as goal

pub returns-then-cells-number-clause-last : goal.returns-then-cells-number-clause-last
returns-then-cells-number-clause-last c =
    let cells = c.args.cells.now in
    let k = c.loop-number.number in
    let x = c.index-cells-number.result in
    let l : k < length cells = search rules in
    let le : c.args.first ≤ k = search rules in
    let other : x.node ≡ c.args.node.0 → ⊥ = λ e. c.if-cells-number.true (subst (λ (y : Cell). y.node ≡ c.args.node.0) c.index-cells-number.is e) in
    ends_at cells c.args.node.0 c.args.first k x c.requires.order c.requires.first c.loop-number.invariant le (read_at cells cells k x refl l c.index-cells-number.is) other

pub returns-clause-last : goal.returns-clause-last
returns-clause-last c =
    let cells = c.args.cells.now in
    let over : length cells ≤ c.loop-number.number = search rules in
    let few : c.loop-number.number ≤ length cells = search rules in
    ends_all cells c.args.node.0 c.args.first c.loop-number.number c.requires.first c.loop-number.invariant (omega (arith, over, few))
