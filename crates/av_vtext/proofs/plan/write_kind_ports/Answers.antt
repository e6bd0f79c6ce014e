use Rattle.std.proofs.Common.{◌++◌, map, codes, sym, ap, ◌∙◌}
use Rattle.av_net.specs.PlanTexts.{joined, directed_text}
use Rattle.av_page.proofs.Putting.{Puts-more, Puts-is}
use Rattle.av_vtext.proofs.Joined.{with_inputs}
use Rattle.av_vtext.proofs.Links.{whole, empty}
use Rattle.av_vtext.proofs.plan.write_kind_ports.Goals as goal

pub returns-in-len1-up : goal.returns-in-len1-up
returns-in-len1-up g c =
    let inputs = whole c.args.inputs.now c.first-item.result c.in-len1-up.len_at_least c.first-item.is in
    Puts-is (Puts-more (Puts-more c.write_directed.ensures c.write_ports.ensures) c.write_ports-in-len1-up.ensures)
    (with_inputs (codes "input") (codes "output") c.first-item.result _ c.args.outputs.now ∙ sym (ap (λ ports. joined (map (directed_text (codes "input")) ports ++ map (directed_text (codes "output")) c.args.outputs.now)) inputs))

pub returns-in-empty : goal.returns-in-empty
returns-in-empty g c =
    let inputs = empty c.args.inputs.now c.in-empty.len_below in
    Puts-is c.write_outputs.ensures (sym (ap (λ ports. joined (map (directed_text (codes "input")) ports ++ map (directed_text (codes "output")) c.args.outputs.now)) inputs))
