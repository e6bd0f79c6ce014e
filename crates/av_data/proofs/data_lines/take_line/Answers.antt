use Rattle.av_flat.specs.Trees.{view_system}
use Rattle.std.proofs.Common.{sym, ◌∙◌}
use Rattle.av_data.proofs.Gathered.{line_passed}
use Rattle.av_data.proofs.data_lines.take_line.Goals as goal

pub returns-else-is_filled-clause-ok : goal.returns-else-is_filled-clause-ok
returns-else-is_filled-clause-ok c = λ lines was.
    line_passed (view_system c.args.flat.now) c.requires.readable c.args.words.now lines c.args.text.now (sym c.is_filled.ensures ∙ c.if-is_filled.false) was
