use Rattle.std.proofs.Common.{◌≡◌, ◌∙◌, sym, ap, subst, map}
use Rattle.std.specs.Prelude.{IfOk, option_map}
use Rattle.av_net.specs.Rows.{first_from, first_some, unlinked_in}
use Rattle.av_vparse.specs.Said.{said_item}
use Rattle.av_vnames.proofs.SeenMentions.{untold}
use Rattle.av_vread.proofs.rows.undriven_in.Goals as goal

pub returns-in-Some : goal.returns-in-Some
returns-in-Some c =
    let unlinked = first_some (unlinked_in c.args.kinds.now) (map said_item c.args.of.now.items) in
    sym (ap (λ o. first_from o unlinked) (sym c.in_ok-name.ensures ∙ ap (option_map (λ name. name.now)) c.in-Some.is))

pub returns : goal.returns
returns c =
    let kinds = c.args.kinds.now in
    let unlinked = first_some (unlinked_in kinds) (map said_item c.args.of.now.items) in
    let none = untold c.in_ok-name.field-0 c.in_default.not-Some in
    let same = ap (λ z. first_some (unlinked_in kinds) (map said_item z)) c.as_slice.ensures ∙ sym (ap (λ o. first_from o unlinked) (sym c.in_ok-name.ensures ∙ ap (option_map (λ name. name.now)) none)) in
    subst (λ z. IfOk c.first_unlinked.result (λ r. option_map (λ name. name.now) r ≡ z)) same c.first_unlinked.ensures
