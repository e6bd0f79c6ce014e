use Rattle.std.proofs.Common.{◌≡◌, ◌<◌, ◌≤◌, ◌^◌, ℕ, List, sym, ap, ◌∙◌, arith, true≢false}
use Rattle.av_wave.specs.Dumps.{binary}
use Rattle.av_wave.specs.inner.Codes.{binary_value}
use Rattle.av_wave.proofs.Digits.{binary_read}
use Rattle.av_wave.proofs.binary.binary_in.Goals as goal

too_great : (digits : List ℕ) (value : ℕ) → 2 ^ 64 ≤ binary_value digits → value < 2 ^ 64 → digits ≡ binary value → ⊥
too_great digits value above small e = let is : binary_value digits ≡ value = ap binary_value e ∙ binary_read value small in omega arith

pub returns-in_err-value-clause-none : goal.returns-in_err-value-clause-none
returns-in_err-value-clause-none c = rw c.from_residual.ensures (λ value small e. too_great c.args.digits.now value c.in_err-value.ensures.none small e)

pub returns-else-are_digits_of-clause-none : goal.returns-else-are_digits_of-clause-none
returns-else-are_digits_of-clause-none c = λ value small e.
    let is : c.in_ok-value.value ≡ value = c.in_ok-value.ensures.some ∙ ap binary_value e ∙ binary_read value small in
    true≢false (sym (c.are_digits_of.ensures.no (e ∙ ap (λ (n : ℕ). binary n) (sym is))) ∙ c.if-are_digits_of.false)
