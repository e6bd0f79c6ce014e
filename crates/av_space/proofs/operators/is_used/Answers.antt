use Rattle.av_space.proofs.OffCells.{none_any}
use Rattle.av_space.proofs.operators.is_used.Goals as goal

pub returns-then-are_apart : goal.returns-then-are_apart
returns-then-are_apart c =
    let none = c.are_apart.ensures c.if-are_apart.true in
    ((λ t. absurd cc), (λ any. absurd (none_any c.args.piece.now.domain c.args.slots.now none any)))
