use Rattle.std.proofs.Common.{List, map, ap, subst, ◌∙◌}
use Rattle.std.specs.Prelude.{IfOk, option_map}
use Rattle.av_net.specs.Rows.{declares}
use Rattle.av_vnames.specs.Scoped.{Bytes, texts}
use Rattle.av_vnames.specs.inner.Seen.{Stands, Tells}
use Rattle.av_vnames.proofs.twice.Seen.declarations.Goals as goal

pub returns : goal.returns
returns c =
    subst (λ (names : List Bytes). IfOk c.declares_all.result (λ r. Tells Stands c.args.self.now c.declares_all.new.self (map declares names) (option_map (λ name. name.now) r)))
    (ap texts c.as_slice.ensures.value ∙ c.in_ok-names.ensures) c.declares_all.ensures
