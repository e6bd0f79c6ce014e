use Rattle.std.proofs.Common.{◌≡◌, List, ap, subst, ◌∙◌}
use Rattle.std.specs.Prelude.{IfOk}
use Rattle.av_net.specs.Rows.{is_in}
use Rattle.av_vnames.specs.Scoped.{Bytes, texts}
use Rattle.av_vread.proofs.rows.linked_set.Goals as goal

pub returns : goal.returns
returns c =
    subst (λ (names : List Bytes). IfOk c.set_of.result (λ set. (q : Bytes) → is_in set q ≡ is_in names q)) (ap texts c.as_slice.ensures.value ∙ c.in_ok-ports.ensures) c.set_of.ensures
