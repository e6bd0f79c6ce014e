use Rattle.std.proofs.Common.{arith, rules, ◌≡◌, ◌<◌, ◌-◌, ℕ, zero, suc, ◌∙◌, ap, ℤ, ◌*ℤ◌, neg_ℤ, FitsSigned, to_z-of_z, w64, List}
use Rattle.std.proofs.lemmas.Int.{ints}
use Rattle.std.proofs.lemmas.Grind.{common_steps}
use Rattle.av_affine.specs.Completion.{entry}
use Rattle.av_affine.specs.Cells.{skip, one_solved}
use Rattle.av_affine.proofs.Blocks.{one_at}
use Rattle.av_affine.proofs.cells.inverse_beside_one.Goals as goal

later : (v : List ℤ) (p j : ℕ) → 0 < j → one_solved v p j ≡ neg_ℤ (entry v p *ℤ entry v (skip p (j - 1)))
later v p zero m = absurd (omega arith)
later v p (suc j) m = let e : j ≡ suc j - 1 = omega arith in ap (λ n. neg_ℤ (entry v p *ℤ entry v (skip p n))) e

pub returns-then-row-p-2 : goal.returns-then-row-p-2
returns-then-row-p-2 c =
    let v = c.args.vector.now in
    let p = c.args.p in
    let index = c.args.index in
    let fa : FitsSigned w64 (entry v p) = search rules in
    let fb : FitsSigned w64 (entry v c.nth_other-other.result) = search rules in
    let d = simp to_z-of_z at c.product.ensures.value in
    let e = d ∙ ap (λ k. entry v p *ℤ entry v k) c.nth_other-other.ensures.value in
    let l = one_at v p c.args.row index c.if-row-p-2.true ∙ later v p index (omega arith) in
    omega (arith, ints, e, l, c.product.ensures.small)

pub overflow_sub-result : goal.overflow_sub-result
overflow_sub-result c = grind (arith, common_steps)

pub product-requires-clause-second : goal.product-requires-clause-second
product-requires-clause-second c = grind (arith, common_steps)
