use Rattle.std.proofs.Common.{refl, ap, inl, inr, Err}
use Rattle.av_vparse.specs.Said.{said}
use Rattle.av_vread.proofs.check.checked.Goals as goal

pub returns-in-Ok : goal.returns-in-Ok
returns-in-Ok c = inl (record { said = said c.in-Ok.parsed.text; line = c.in-Ok.parsed.line; says = c.in-Ok.ensures.found; answers = c.checked_text.ensures })

pub returns-in-Err : goal.returns-in-Err
returns-in-Err c = inr (record { fault = c.in-Err.fault; is = c.in-Err.ensures.fault c.in-Err.fault refl; told = ap (λ z. Err z) c.of.ensures })
