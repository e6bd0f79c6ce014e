use Rattle.std.proofs.Common.{◌++◌, ◌∙◌, ap, append_assoc, codes, sym}
use Rattle.std.specs.Prelude.{decimal}
use Rattle.av_page.proofs.Putting.{Puts-more, Puts-is}
use Rattle.av_commands.proofs.alpha_refusals.put_limit.Goals as goal

pub returns : goal.returns
returns g c =
    let amount = decimal c.args.amount in
    Puts-is (Puts-more (Puts-more c.put.ensures c.put-2.ensures) c.put_amount.ensures)
    (sym (append_assoc (codes "limit " ++ _) (codes " ") amount) ∙ ap (λ w. codes "limit " ++ w ++ codes " " ++ amount) c.quantity_word.ensures)
