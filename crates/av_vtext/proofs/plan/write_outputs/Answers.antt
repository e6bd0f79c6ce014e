use Rattle.std.proofs.Common.{map, codes, sym, ap, ◌∙◌}
use Rattle.av_net.specs.PlanTexts.{joined, directed_text}
use Rattle.av_page.proofs.Putting.{Puts-none, Puts-more, Puts-is}
use Rattle.av_vtext.proofs.Joined.{outputs_alone}
use Rattle.av_vtext.proofs.Links.{whole, empty}
use Rattle.av_vtext.proofs.plan.write_outputs.Goals as goal

pub returns-in-len1-up : goal.returns-in-len1-up
returns-in-len1-up g c =
    let outputs = whole c.args.outputs.now c.first-item.result c.in-len1-up.len_at_least c.first-item.is in
    Puts-is (Puts-more c.write_directed.ensures c.write_ports.ensures) (outputs_alone (codes "output") c.first-item.result _ ∙ sym (ap (λ ports. joined (map (directed_text (codes "output")) ports)) outputs))

pub returns-in_default : goal.returns-in_default
returns-in_default g c = Puts-is (Puts-none _ _) (sym (ap (λ ports. joined (map (directed_text (codes "output")) ports)) (empty c.args.outputs.now c.in_default.len_below)))
