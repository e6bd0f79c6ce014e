use Rattle.std.proofs.Common.{ap, ◌∙◌, ◌++◌, [], ◌≡◌}
use Rattle.std.proofs.lemmas.Result.{on_ok_weaker}
use Rattle.av_vnames.specs.Scoped.{Bytes}
use Rattle.av_vnames.specs.inner.Scoped.{width_found}
use Rattle.av_vnames.proofs.KindTables.{two_walks}
use Rattle.av_vnames.proofs.scope.insert_kind.Goals as goal

pub returns : goal.returns
returns c =
    let kind = c.args.kind.now in
    on_ok_weaker c.insert_ports-2.result
    (λ (last : (q : Bytes) → width_found c.insert_ports-2.new.widths q ≡ width_found (c.insert_ports.new.widths ++ c.as_slice-2.result.now) q).
    two_walks c.insert_ports.new.widths c.insert_ports-2.new.widths kind.inputs kind.outputs
    (λ q. c.in_ok-insert_ports.ensures q ∙ ap (λ z. width_found (z ++ c.as_slice.result.now) q) c.requires ∙ ap (λ z. width_found ([] ++ z) q) c.as_slice.ensures)
    (λ q. last q ∙ ap (λ z. width_found (c.insert_ports.new.widths ++ z) q) c.as_slice-2.ensures)) c.insert_ports-2.ensures
