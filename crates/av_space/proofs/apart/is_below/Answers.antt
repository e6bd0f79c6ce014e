use Rattle.std.proofs.Common.{rules, ◌≡◌, ℤ, pos, IsTrue, arith, FitsSigned, to_z, of_z, to_z-of_z, subst}
use Rattle.std.specs.Prelude.{int_lt}
use Rattle.std.specs.Int.{w64}
use Rattle.std.proofs.lemmas.Int.{ints}
use Rattle.av_space.proofs.apart.is_below.Goals as goal

pub returns : goal.returns
returns c = λ t h.
    let f : FitsSigned w64 c.at.result = search rules in
    let same : to_z w64 (of_z w64 c.at.result) ≡ c.at.result = simp to_z-of_z in
    let below : IsTrue (int_lt c.at.result (pos 0)) = subst (λ (x : ℤ). IsTrue (int_lt x (pos 0))) same t in
    let value = c.at.ensures.value in
    omega (arith, ints, below, value, h)
