use Rattle.std.proofs.Common.{◌++◌, sym, ap, ◌∙◌}
use Rattle.av_wave.proofs.Parting.{name_some, name_none}
use Rattle.av_wave.proofs.forms.name_in.Goals as goal

pub returns-in_err-name-clause-none : goal.returns-in_err-name-clause-none
returns-in_err-name-clause-none c = rw c.from_residual.ensures (λ name named e. c.in_err-name.ensures name (e ∙ ap (λ piece. name ++ piece) (sym c.as_slice.ensures)))

pub returns-then-is_name-clause-some : goal.returns-then-is_name-clause-some
returns-then-is_name-clause-some c =
    let name = c.in_ok-name.name.now in
    name_some c.args.text.now name c.is_name.result (c.in_ok-name.ensures ∙ ap (λ piece. name ++ piece) c.as_slice.ensures) c.is_name.ensures c.if-is_name.true

pub returns-else-is_name-clause-none : goal.returns-else-is_name-clause-none
returns-else-is_name-clause-none c =
    let name = c.in_ok-name.name.now in
    name_none c.args.text.now name c.is_name.result (c.in_ok-name.ensures ∙ ap (λ piece. name ++ piece) c.as_slice.ensures) c.is_name.ensures c.if-is_name.false
