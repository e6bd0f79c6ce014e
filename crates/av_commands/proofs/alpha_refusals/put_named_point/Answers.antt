use Rattle.std.proofs.Common.{append_assoc, codes, ◌++◌, ◌∙◌, ap}
use Rattle.av_net.specs.Texts.{point_text}
use Rattle.av_page.proofs.Putting.{Puts-more, Puts-is}
use Rattle.av_commands.proofs.alpha_refusals.put_named_point.Goals as goal

pub returns : goal.returns
returns g c =
    let words = c.args.words.now in
    let name = c.args.name.now in
    let point = point_text c.args.point.now in
    Puts-is (Puts-more (Puts-more c.put_name.ensures c.put.ensures) c.write_point.ensures) (ap (λ z. z ++ point) (append_assoc words name (codes " ")) ∙ append_assoc words (name ++ codes " ") point)
