use Rattle.std.proofs.Common.{◌≡◌, pos, [], ◌∷◌, true, refl, arith, rules, FitsSigned, w64}
use Rattle.std.proofs.lemmas.Slice.Eq.{slice_eq-Decides}
use Rattle.std.proofs.lemmas.Bool.Decides.{Decides-int_eq}
use Rattle.std.proofs.lemmas.Int.{ints}
use Rattle.av_poly.proofs.LeftOut.{no_coefficients}
use Rattle.av_poly.proofs.trivial.is_trivial.Goals as goal

pub returns-then-eq : goal.returns-then-eq
returns-then-eq c =
    let row = c.args.row.now in
    let f : FitsSigned w64 row.constant = search rules in
    let e : row.coef ≡ pos 0 ∷ pos 0 ∷ pos 0 ∷ pos 0 ∷ [] = (slice_eq-Decides Decides-int_eq row.coef (pos 0 ∷ pos 0 ∷ pos 0 ∷ pos 0 ∷ []) true c.if-eq.ensures).0 refl in
    λ h. record { no_coefficients = no_coefficients c.args.dim row e; holds = grind (arith, ints, h, f) }
