use Rattle.av_page.proofs.Putting.{Puts-more, Puts-is}
use Rattle.av_vtext.proofs.Links.{whole, all_links}
use Rattle.av_vtext.proofs.plan.write_all_links.Goals as goal

pub returns-in-len1-up-operands : goal.returns-in-len1-up-operands
returns-in-len1-up-operands g c =
    let ports = whole c.args.ports.now c.port-item.result c.in-len1-up.len_at_least c.port-item.is in
    let operands = whole c.args.operands.now c.operand-item.result c.in-len1-up-operands.len_at_least c.operand-item.is in
    Puts-is (Puts-more (Puts-more c.write_link.ensures c.write_more_links.ensures) c.write_more_names.ensures)
    (all_links c.args.ports.now _ c.args.operands.now _ c.args.outputs.now c.args.names.now c.port-item.result c.operand-item.result ports operands)
