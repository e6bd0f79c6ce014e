use Rattle.std.proofs.Common.{◌≡◌, ◌∙◌, ap, map, not}
use Rattle.std.specs.Prelude.{find}
use Rattle.av_net.specs.Rows.{is_in, driven_names}
use Rattle.av_vparse.specs.Said.{said_item}
use Rattle.av_vnames.specs.Scoped.{Bytes, texts}
use Rattle.av_vread.proofs.RowWalks.{missing_same}
use Rattle.av_vread.proofs.rows.undriven_here.Goals as goal

pub returns : goal.returns
returns c =
    let kinds = c.args.kinds.now in
    let all = driven_names kinds (map said_item c.args.of.now.items) in
    let driven : (q : Bytes) → is_in c.in_ok-driven.driven q ≡ is_in all q = λ q. c.in_ok-driven.ensures q ∙ ap (λ z. is_in (driven_names kinds (map said_item z)) q) c.as_slice.ensures in
    let names = ap texts c.as_slice-2.ensures.value ∙ c.in_ok-names.ensures in
    c.first_missing.ensures ∙ missing_same c.in_ok-driven.driven all (texts c.as_slice-2.result.now) driven ∙ ap (λ z. find (λ name. not (is_in all name)) z) names
