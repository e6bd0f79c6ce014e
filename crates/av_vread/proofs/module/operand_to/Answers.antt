use Rattle.std.proofs.Common.{◌≡◌, Some, None, map, sym, ap, subst, ◌∙◌, arith}
use Rattle.std.specs.Prelude.{IfOk}
use Rattle.av_net.specs.declared.operation.Operand.TheVariants.{Name}
use Rattle.av_net.specs.Rows.{operand_or}
use Rattle.av_vparse.specs.declared.parsed.PortLink.{PortLink}
use Rattle.av_vparse.specs.Said.{said_link}
use Rattle.av_vread.specs.inner.Numbered.{place_of}
use Rattle.av_vread.proofs.PlacedInstances.{link_there, link_none, link_within}
use Rattle.av_vread.proofs.module.operand_to.Goals as goal

pub bounds-links-place : goal.bounds-links-place
bounds-links-place c =
    let key = c.as_bytes.result.now in
    let there : place_of key (map said_link c.args.links.now) ≡ Some c.in-Some.place = sym (c.requires key) ∙ sym c.get.ensures ∙ c.in-Some.is in
    link_within c.args.links.now key c.in-Some.place there

pub offset_bounds-links-place : goal.offset_bounds-links-place
offset_bounds-links-place c =
    let key = c.as_bytes.result.now in
    let there : place_of key (map said_link c.args.links.now) ≡ Some c.in-Some.place = sym (c.requires key) ∙ sym c.get.ensures ∙ c.in-Some.is in
    let within = link_within c.args.links.now key c.in-Some.place there in
    omega (arith, within)

pub returns-in-Some : goal.returns-in-Some
returns-in-Some c =
    let key = c.as_bytes.result.now in
    let links = c.args.links.now in
    let link = c.index-links-place.result in
    let name : key ≡ c.args.port.now.name = c.as_bytes.ensures.value ∙ c.as_str.ensures in
    let there : place_of key (map said_link links) ≡ Some c.in-Some.place = sym (c.requires key) ∙ sym c.get.ensures ∙ c.in-Some.is in
    let named : place_of c.args.port.now.name (map said_link links) ≡ Some c.in-Some.place = ap (λ q. place_of q (map said_link links)) (sym name) ∙ there in
    let same = ap (λ (l : PortLink). l.operand) (sym c.index-links-place.is) ∙ sym (ap operand_or (link_there links c.args.port.now.name c.in-Some.place link named c.index-links-place.is)) in
    subst (λ z. IfOk c.copied.result (λ operand. operand ≡ z)) same c.copied.ensures

pub returns-in_ok-new-in-None : goal.returns-in_ok-new-in-None
returns-in_ok-new-in-None c =
    let key = c.as_bytes.result.now in
    let links = map said_link c.args.links.now in
    let name : key ≡ c.args.port.now.name = c.as_bytes.ensures.value ∙ c.as_str.ensures in
    let none : place_of c.args.port.now.name links ≡ None = ap (λ q. place_of q links) (sym name) ∙ sym (c.requires key) ∙ sym c.get.ensures ∙ c.in-None.is in
    ap (λ n. Name n) c.in_ok-new-in-None.ensures ∙ sym (ap operand_or (link_none links c.args.port.now.name none))
