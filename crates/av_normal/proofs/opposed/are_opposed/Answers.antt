use Rattle.std.proofs.Common.{rules, ◌≡◌, ◌∙◌, sym, subst, ℤ, pos, ◌+ℤ◌, IsTrue, arith, FitsSigned, to_z, of_z, to_z-of_z, w64, refl, true, false}
use Rattle.std.specs.Prelude.{int_lt}
use Rattle.std.proofs.lemmas.Int.{ints, fits_signed_from_abs}
use Rattle.std.proofs.lemmas.Slice.Eq.{slice_eq-Decides}
use Rattle.std.proofs.lemmas.Bool.{true_from_ne_false}
use Rattle.std.proofs.lemmas.Bool.Decides.{Decides-int_eq}
use Rattle.av_normal.proofs.Opposing.{opposed}
use Rattle.av_normal.proofs.opposed.are_opposed.Goals as goal

pub returns-then-eq-clause-none : goal.returns-then-eq-clause-none
returns-then-eq-clause-none c = λ t z h k.
    let a = c.args.some.now.constant in
    let b = c.args.other.now.constant in
    let f : FitsSigned w64 a = search rules in
    let g : FitsSigned w64 b = search rules in
    let s : FitsSigned w64 (a +ℤ b) = fits_signed_from_abs w64 _ (omega (arith, ints, c.requires.some.constant, c.requires.other.constant)) in
    let d : to_z w64 (of_z w64 (to_z w64 (of_z w64 a) +ℤ to_z w64 (of_z w64 b))) ≡ a +ℤ b = simp to_z-of_z in
    let below : IsTrue (int_lt (a +ℤ b) (pos 0)) = subst (λ (x : ℤ). IsTrue (int_lt x (pos 0))) d t in
    let e : c.turned.result ≡ c.args.other.now.coef = (slice_eq-Decides Decides-int_eq c.turned.result c.args.other.now.coef true c.if-eq.ensures).0 refl in
    opposed c.args.some.now c.args.other.now z (sym e ∙ c.turned.ensures) (omega (arith, ints, below)) h k

pub returns-then-eq-clause-complete : goal.returns-then-eq-clause-complete
returns-then-eq-clause-complete c = λ h.
    let a = c.args.some.now.constant in
    let b = c.args.other.now.constant in
    let f : FitsSigned w64 a = search rules in
    let g : FitsSigned w64 b = search rules in
    let s : FitsSigned w64 (a +ℤ b) = fits_signed_from_abs w64 _ (omega (arith, ints, c.requires.some.constant, c.requires.other.constant)) in
    let d : to_z w64 (of_z w64 (to_z w64 (of_z w64 a) +ℤ to_z w64 (of_z w64 b))) ≡ a +ℤ b = simp to_z-of_z in
    let less = h.constants in
    subst (λ (x : ℤ). IsTrue (int_lt x (pos 0))) (sym d) (true_from_ne_false (int_lt (a +ℤ b) (pos 0)) (λ no. omega (arith, ints, no, less)))

pub returns-else-eq-clause-complete : goal.returns-else-eq-clause-complete
returns-else-eq-clause-complete c = λ h.
    (slice_eq-Decides Decides-int_eq c.turned.result c.args.other.now.coef false c.if-eq.ensures).1 (c.turned.ensures ∙ sym h.coefficients)
