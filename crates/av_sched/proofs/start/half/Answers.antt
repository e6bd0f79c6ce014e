use Rattle.std.proofs.Common.{◌≡◌, ◌∙◌, rules, arith, [], ◌∷◌, refl, sym, subst, All, unsigned_abs, ◌≤◌, ◌^◌, w64, FitsSigned, to_z-of_z}
use Rattle.std.proofs.lemmas.Int.{ints}
use Rattle.std.proofs.lemmas.List.Elements.{All-cons, All-nil, All-weaker}
use Rattle.av_poly.specs.Points.{IsSmall}
use Rattle.av_sched.proofs.start.half.Goals as goal

pub invariant_of-result : goal.invariant_of-result
invariant_of-result c =
    let row = c.row_of.result in
    let e : c.push.new.self ≡ row ∷ [] = c.in_ok-push.ensures.ok ∙ rw c.new-rows.ensures refl in
    let g : FitsSigned w64 c.args.most = search rules in
    let f : row.constant ≡ c.args.most = simp to_z-of_z at c.row_of.ensures.constant in
    let m = c.requires.most in
    let small : IsSmall row = record {
      coefficients = All-weaker (λ x. unsigned_abs x ≤ 4) (λ x. unsigned_abs x ≤ 2 ^ 40) (λ x h. omega (arith, h)) row.coef c.row_of.ensures.small;
      constant = omega (arith, ints, f, m);
    } in
    subst (All IsSmall) (sym e) (All-cons IsSmall row [] small (All-nil IsSmall))
