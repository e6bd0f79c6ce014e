use Rattle.std.proofs.Common.{◌≡◌, ◌++◌, ◌∷◌, map, ap, subst, ◌∙◌}
use Rattle.std.specs.Prelude.{IfOk}
use Rattle.av_net.specs.Names.{clk, rst}
use Rattle.av_net.specs.Rows.{is_in}
use Rattle.av_vparse.specs.Said.{said_item, said_module}
use Rattle.av_vnames.specs.Scoped.{Bytes, texts}
use Rattle.av_vnames.specs.inner.Scoped.{instances_named, own_names}
use Rattle.av_vnames.specs.inner.Seen.{own_declared}
use Rattle.av_vnames.proofs.twice.top_names.Goals as goal

pub returns : goal.returns
returns c =
    let x = said_module c.args.top.now in
    let all : texts c.push_top.new.names.items ≡ own_names x =
    c.in_ok-push_top.ensures ∙ ap (λ z. z ++ clk ∷ rst ∷ instances_named (map said_item c.as_slice.result.now)) c.in_ok-names.ensures
    ∙ ap (λ z. own_declared x ++ clk ∷ rst ∷ instances_named (map said_item z)) c.as_slice.ensures in
    subst (λ z. IfOk c.set_of.result (λ set. (q : Bytes) → is_in set q ≡ is_in z q)) (ap texts c.as_slice-2.ensures.value ∙ all) c.set_of.ensures
