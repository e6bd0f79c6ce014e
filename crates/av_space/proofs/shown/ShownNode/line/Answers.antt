use Rattle.std.proofs.Common.{arith}
use Rattle.std.proofs.lemmas.Option.{slice_get_within}
use Rattle.std.proofs.lemmas.Grind.{common_steps}
use Rattle.av_space.proofs.shown.ShownNode.line.Goals as goal

pub wire-requires-clause-cell : goal.wire-requires-clause-cell
wire-requires-clause-cell c =
    let h = c.locate-located.ensures in slice_get_within c.args.self.now.scheduled.now.layout.cells c.locate-located.result.cell.0 h.cell h.is_cell

pub returns : goal.returns
returns c = grind (arith, common_steps)
