use Rattle.std.proofs.Common.{ap, ◌∙◌, ◌++◌, append_assoc, codes}
use Rattle.std.specs.Prelude.{decimal}
use Rattle.av_page.proofs.Putting.{Puts-more, Puts-is}
use Rattle.av_commands.proofs.refusals.put_place.Goals as goal

pub returns : goal.returns
returns g c =
    let words = c.args.words.now in
    let line = decimal c.args.place.line in
    let column = decimal c.args.place.column in
    Puts-is (Puts-more (Puts-more (Puts-more c.put.ensures c.put_number.ensures) c.put-2.ensures) c.put_number-2.ensures)
    (ap (λ z. z ++ column) (append_assoc words line (codes ":")) ∙ append_assoc words (line ++ codes ":") column)
