use Rattle.std.proofs.Common.{◌≡◌, ◌++◌, map, not, sym, ap, subst, ◌∙◌}
use Rattle.std.specs.Prelude.{IfOk, find, option_map}
use Rattle.av_net.specs.Names.{names_of}
use Rattle.av_net.specs.Rows.{is_in, kind_named}
use Rattle.av_vread.proofs.KindTables.{unlinked_there}
use Rattle.av_vread.proofs.rows.unlinked_item.Goals as goal

pub returns-in-Some : goal.returns-in-Some
returns-in-Some c =
    let kinds = c.args.kinds.now in
    let kind = c.in-Some.kind.now in
    let text = c.text.result.now in
    let named = ap (kind_named kinds) (sym c.as_str.ensures) ∙ sym c.named.ensures ∙ ap (option_map (λ kind. kind.now)) c.in-Some.is in
    let same = ap (λ links. find (λ port. not (is_in (map (λ link. link.port) links) port)) (names_of text.inputs ++ names_of text.outputs)) c.as_slice.ensures ∙ unlinked_there kinds c.in-Instance.of kind text named c.text.ensures in
    rw c.in-Instance.is (subst (λ z. IfOk c.unlinked_in.result (λ r. option_map (λ name. name.now) r ≡ z)) same c.unlinked_in.ensures)
