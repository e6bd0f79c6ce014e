use Rattle.std.proofs.Common.{◌++◌, length, ap, ◌∙◌}
use Rattle.std.specs.Prelude.{codes, decimal}
use Rattle.av_page.proofs.Putting.{Puts-more, Puts-is}
use Rattle.av_data.proofs.Tabled.{joined}
use Rattle.av_data.proofs.table.write_totals.Goals as goal

pub returns : goal.returns
returns g c =
    let cells = ap length c.as_slice.ensures in
    let links = ap length c.as_slice-2.ensures in
    let a = c.args.cells.now in
    Puts-is (Puts-more (Puts-more (Puts-more (Puts-more c.write_total.ensures c.write_total-2.ensures) c.write_total-3.ensures) c.write_total-4.ensures) c.put.ensures)
    (joined (codes "cycles ") (decimal a.cycles) (codes " cells ") (decimal (length c.as_slice.result.now)) (codes " delays ") (decimal a.delays) (codes " links ") (decimal (length c.as_slice-2.result.now)) (codes "\n")
    ∙ ap (λ n. codes "cycles " ++ decimal a.cycles ++ codes " cells " ++ decimal n ++ codes " delays " ++ decimal a.delays ++ codes " links " ++ decimal (length c.as_slice-2.result.now) ++ codes "\n") cells
    ∙ ap (λ n. codes "cycles " ++ decimal a.cycles ++ codes " cells " ++ decimal (length a.cells) ++ codes " delays " ++ decimal a.delays ++ codes " links " ++ decimal n ++ codes "\n") links)
