use Rattle.std.proofs.Common.{[], sym, subst, ◌∙◌}
use Rattle.av_flat.specs.Trees.{Tree, view}
use Rattle.av_flat.specs.Pieces.{parts}
use Rattle.av_normal.specs.inner.Numbered.{part_at, signatures_of}
use Rattle.av_normal.specs.inner.Making.{StandsIn}
use Rattle.av_normal.proofs.Making.{itself, a_constant}
use Rattle.av_normal.proofs.Outcomes.{if_ok}
use Rattle.av_normal.proofs.all_pieces.needed_tree.Goals as goal

pub returns-then-is_idle : goal.returns-then-is_idle
returns-then-is_idle c =
    let whole = (part_at (parts (signatures_of c.args.vars.now) [] (view c.args.tree.now)) c.args.number).tree in
    a_constant c.args.domain.now whole 0 (c.is_idle.ensures.none c.if-is_idle.true) (sym c.requires.folds ∙ c.is_idle.ensures.plain c.if-is_idle.true)

pub returns-else-is_idle : goal.returns-else-is_idle
returns-else-is_idle c =
    let d = c.args.domain.now in
    let whole = (part_at (parts (signatures_of c.args.vars.now) [] (view c.args.tree.now)) c.args.number).tree in
    if_ok c.tree_at.result c.tree_at.ensures (λ u e. subst (λ (t : Tree). StandsIn d whole t) (sym e) (itself d whole))
