use Rattle.std.proofs.Common.{rules, arith, ◌≡◌, w64, FitsSigned, to_z-of_z, ℤ, pos, ◌-ℤ◌, sym, subst, Option}
use Rattle.std.proofs.lemmas.Int.{ints}
use Rattle.std.proofs.Math.IntN.{neg_ℤ}
use Rattle.av_sched.specs.inner.Starts.{IsSpanned, IsLeastValue}
use Rattle.av_sched.proofs.placing.start_of.Goals as goal

pub returns : goal.returns
returns c =
    let set = c.args.var.now.domain in
    let a = c.args.linear.now in
    let x : ℤ = c.in-Some.value in
    let h : IsSpanned set a x x = subst (λ (o : Option ℤ). IsLeastValue set a o) c.in-Some.is c.in_ok-value.ensures in
    let small = h.value_small in
    let f : FitsSigned w64 x = search rules in
    let g : FitsSigned w64 (pos 0 -ℤ x) = omega (arith, ints, small) in
    let e : neg_ℤ (pos 0 -ℤ x) ≡ x = omega (arith, ints) in
    simp to_z-of_z (subst (λ (y : ℤ). IsSpanned set a y y) (sym e) h)
