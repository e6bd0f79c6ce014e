use Rattle.std.proofs.Common.{sym, ◌∙◌}
use Rattle.av_wave.specs.Dumps.{binary}
use Rattle.av_wave.proofs.Digits.{binary_digits, blank_once}
use Rattle.av_wave.proofs.numbers.value_in.Goals as goal

pub returns-in_err-parts-clause-none : goal.returns-in_err-parts-clause-none
returns-in_err-parts-clause-none c = rw c.from_residual.ensures (λ value rest small e. c.in_err-parts.ensures.none (binary value) rest (binary_digits value) e)

pub returns-in_err-binary_in-clause-none : goal.returns-in_err-binary_in-clause-none
returns-in_err-binary_in-clause-none c =
    let parts = c.in_ok-parts.ensures.some in
    rw c.from_residual-in_err-binary_in.ensures (λ value rest small e. c.in_err-binary_in.ensures.none value small (blank_once _ (binary value) _ rest parts.0 (binary_digits value) (sym parts.1 ∙ e)).0)
