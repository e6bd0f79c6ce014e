use Rattle.std.proofs.Common.{refl, inl, inr, ap, Err, ◌∙◌, ⊎_elim}
use Rattle.av_normal.proofs.compose.step.Goals as goal

pub returns-in-Ok-clause-narrow : goal.returns-in-Ok-clause-narrow
returns-in-Ok-clause-narrow c = λ kind n h. ⊎_elim
    (λ k. let e = (c.compose.ensures.coefficient n).1 (k.1, k.2) in let f = c.in-Ok.is in absurd cc)
    (λ k. let e = (c.compose.ensures.constant n).1 (k.1, k.2, k.3) in let f = c.in-Ok.is in absurd cc)
    h

pub returns-in-Err-Coefficient-clause-wide : goal.returns-in-Err-Coefficient-clause-wide
returns-in-Err-Coefficient-clause-wide c =
    let e = (c.compose.ensures.coefficient c.in-Err-Coefficient.n).0 (c.in-Err-Coefficient.is ∙ ap Err c.in-Err-Coefficient.field-0-is) in
    inl (refl, e.0, e.1)

pub returns-in-Err-Constant-clause-wide : goal.returns-in-Err-Constant-clause-wide
returns-in-Err-Constant-clause-wide c =
    let e = (c.compose.ensures.constant c.in-Err-Constant.n).0 (c.in-Err-Constant.is ∙ ap Err c.in-Err-Constant.field-0-is) in
    inr (refl, e.0, e.1, e.2)
