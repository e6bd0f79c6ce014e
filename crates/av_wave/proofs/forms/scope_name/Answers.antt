use Rattle.std.proofs.Common.{◌++◌, sym, ap, ◌∙◌}
use Rattle.std.specs.Prelude.{codes}
use Rattle.std.proofs.lemmas.Option.{IfSome_then}
use Rattle.av_wave.proofs.Nones.{none_then}
use Rattle.av_wave.proofs.Parting.{scope_parts, scope_some, scope_rest}
use Rattle.av_wave.proofs.forms.scope_name.Goals as goal

pub returns-in_err-behind-clause-none : goal.returns-in_err-behind-clause-none
returns-in_err-behind-clause-none c =
    rw c.from_residual.ensures
    (λ name named e.
    let rest = name ++ codes " $end\n" in
    c.in_err-behind.ensures rest (e ∙ scope_parts name ∙ ap (λ piece. piece ++ rest) (sym c.as_slice.ensures)))

pub returns-clause-some : goal.returns-clause-some
returns-clause-some c =
    let rest = c.in_ok-behind.field-0.now in
    let is = c.in_ok-behind.ensures ∙ ap (λ piece. piece ++ rest) c.as_slice.ensures in
    IfSome_then c.name_in.result c.name_in.ensures.some (λ name found. (found.0, scope_some c.args.line.now rest name.now is found.1))

pub returns-clause-none : goal.returns-clause-none
returns-clause-none c =
    let rest = c.in_ok-behind.field-0.now in
    let is = c.in_ok-behind.ensures ∙ ap (λ piece. piece ++ rest) c.as_slice.ensures in
    none_then c.name_in.result c.name_in.ensures.none (λ none name named e. none name named (scope_rest c.args.line.now rest name is e))
