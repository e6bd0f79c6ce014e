use Rattle.std.proofs.Common.{◌≡◌, ◌<◌, ◌≤◌, ◌∷◌, [], ℕ, List, length, get_or, sym, ap, ◌∙◌, arith, refl}
use Rattle.std.specs.Prelude.{decimal}
use Rattle.std.proofs.lemmas.Fmt.{decimal_digit}
use Rattle.std.proofs.lemmas.Option.{IfSome_then}
use Rattle.av_wave.proofs.Digits.{one_of, count_of}
use Rattle.av_wave.proofs.Nones.{none_then}
use Rattle.av_wave.proofs.numbers.small_number.Goals as goal

single : (digits : List ℕ) → 1 ≤ length digits → length digits < 2 → digits ≡ get_or digits 0 0 ∷ []
single [] some few = absurd (omega arith)
single (d ∷ []) some few = refl
single (d ∷ e ∷ digits) some few = absurd (omega arith)

other_count : (digits : List ℕ) (number : ℕ) → number < 100 → digits ≡ decimal number → (0 < length digits) × (length digits < 3)
other_count digits number small e = let n : length digits ≡ length (decimal number) = ap length e in let c = count_of number small in (omega (arith, c.0), omega (arith, c.1))

pub returns-in-len1-clause-some : goal.returns-in-len1-clause-some
returns-in-len1-clause-some c =
    let is = single c.args.digits.now (omega arith) (omega arith) in
    IfSome_then c.digit.result c.digit.ensures.some (λ value digit. is ∙ ap (λ (d : ℕ). d ∷ []) digit.1 ∙ sym (decimal_digit value digit.0))

pub returns-in-len1-clause-none : goal.returns-in-len1-clause-none
returns-in-len1-clause-none c =
    let is = single c.args.digits.now (omega arith) (omega arith) in
    none_then c.digit.result c.digit.ensures.none (λ none number small e. let one = one_of number _ small (sym e ∙ is) in none number one.0 one.1)

pub returns-in_default-clause-none : goal.returns-in_default-clause-none
returns-in_default-clause-none c = λ number small e. let count = other_count c.args.digits.now number small e in omega (arith, count.0)

pub returns-in_default-2-clause-none : goal.returns-in_default-2-clause-none
returns-in_default-2-clause-none c = λ number small e. let count = other_count c.args.digits.now number small e in omega (arith, count.1)
