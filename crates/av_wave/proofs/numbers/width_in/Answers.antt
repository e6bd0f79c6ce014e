use Rattle.std.proofs.Common.{◌≡◌, ◌≤◌, ◌<◌, ◌^◌, ◌⊎◌, inl, inr, ℕ, sym, ◌∙◌, arith}
use Rattle.std.specs.Prelude.{decimal}
use Rattle.std.proofs.lemmas.Fmt.{decimal_injective}
use Rattle.av_base.specs.declared.width.Width.{Width}
use Rattle.av_wave.proofs.Digits.{decimal_digits, blank_once}
use Rattle.av_wave.proofs.numbers.width_in.Goals as goal

small_width : (w : Width) → w.bits < 2 ^ 64
small_width w = let most : w.bits ≤ 64 = w.most in omega arith

no_width : (w : Width) (n : ℕ) → n ≡ w.bits → (n ≡ 0) ⊎ (64 < n) → ⊥
no_width w n e (inl none) = let least : 1 ≤ w.bits = w.least in omega arith
no_width w n e (inr most) = let above : w.bits ≤ 64 = w.most in omega arith

pub returns-in_err-parts-clause-none : goal.returns-in_err-parts-clause-none
returns-in_err-parts-clause-none c = rw c.from_residual.ensures (λ width rest e. c.in_err-parts.ensures.none (decimal width.bits) rest (decimal_digits width.bits (small_width width)) e)

pub returns-in_err-small_number-clause-none : goal.returns-in_err-small_number-clause-none
returns-in_err-small_number-clause-none c =
    let parts = c.in_ok-parts.ensures.some in
    rw c.from_residual-in_err-small_number.ensures
    (λ width rest e.
    let most : width.bits ≤ 64 = width.most in
    c.in_err-small_number.ensures.none width.bits (omega arith) (blank_once _ (decimal width.bits) _ rest parts.0 (decimal_digits width.bits (small_width width)) (sym parts.1 ∙ e)).0)

pub returns-in_err-width-clause-none : goal.returns-in_err-width-clause-none
returns-in_err-width-clause-none c =
    let parts = c.in_ok-parts.ensures.some in
    rw c.from_residual-in_err-width.ensures
    (λ width rest e.
    let same = (blank_once _ (decimal width.bits) _ rest parts.0 (decimal_digits width.bits (small_width width)) (sym parts.1 ∙ e)).0 in
    no_width width c.in_ok-small_number.field-0 (decimal_injective c.in_ok-small_number.field-0 width.bits (omega arith) (small_width width) (sym c.in_ok-small_number.ensures.some ∙ same)) c.in_err-width.ensures.none)
