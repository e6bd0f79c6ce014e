use Rattle.std.proofs.Common.{map, sym, ap, ◌∙◌}
use Rattle.av_net.specs.declared.operation.Operand.TheVariants.{Name}
use Rattle.av_net.specs.PlanTexts.{joined, link_texts}
use Rattle.av_page.proofs.Putting.{Puts-none, Puts-more, Puts-is}
use Rattle.av_vtext.proofs.Links.{whole, empty, no_operand, name_links}
use Rattle.av_vtext.proofs.plan.write_name_links.Goals as goal

pub returns-in_default : goal.returns-in_default
returns-in_default g c = Puts-is (Puts-none _ _) (sym (ap (λ ports. joined (link_texts ports (map Name c.args.names.now))) (empty c.args.ports.now c.in_default.len_below)))

pub returns-in_default-names : goal.returns-in_default-names
returns-in_default-names g c =
    Puts-is (Puts-none _ _) (sym (ap (λ names. joined (link_texts c.args.ports.now (map Name names))) (empty c.args.names.now c.in_default-names.len_below) ∙ ap joined (no_operand c.args.ports.now)))

pub returns-in-len1-up-names : goal.returns-in-len1-up-names
returns-in-len1-up-names g c =
    let ports = whole c.args.ports.now c.port-item.result c.in-len1-up.len_at_least c.port-item.is in
    let names = whole c.args.names.now c.name-item.result c.in-len1-up-names.len_at_least c.name-item.is in
    Puts-is (Puts-more c.write_name_link.ensures c.write_more_names.ensures) (name_links c.args.ports.now _ c.args.names.now _ c.port-item.result c.name-item.result ports names)
