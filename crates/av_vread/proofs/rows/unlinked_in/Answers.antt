use Rattle.std.proofs.Common.{map, not, ap, ◌∙◌}
use Rattle.std.specs.Prelude.{find}
use Rattle.av_net.specs.Rows.{is_in}
use Rattle.av_vnames.specs.Scoped.{texts}
use Rattle.av_vread.proofs.RowWalks.{missing_same}
use Rattle.av_vread.proofs.rows.unlinked_in.Goals as goal

pub returns : goal.returns
returns c =
    c.first_missing.ensures ∙ missing_same c.in_ok-linked.linked (map (λ link. link.port) c.args.links.now) (texts c.as_slice.result.now) c.in_ok-linked.ensures
    ∙ ap (find (λ port. not (is_in (map (λ link. link.port) c.args.links.now) port))) (ap texts c.as_slice.ensures.value ∙ c.in_ok-names.ensures)
