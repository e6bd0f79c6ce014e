use Rattle.std.proofs.Common.{arith, rules, ◌≡◌, ◌<◌, ◌-◌, ℕ, zero, suc, ◌∙◌, ap, ℤ, ◌*ℤ◌, neg_ℤ, FitsSigned, to_z-of_z, w64, List}
use Rattle.std.proofs.lemmas.Int.{ints}
use Rattle.std.proofs.lemmas.Grind.{common_steps}
use Rattle.av_affine.specs.Completion.{entry}
use Rattle.av_affine.specs.Cells.{skip, two_solved}
use Rattle.av_affine.proofs.cells.solved.Goals as goal

later : (v : List ℤ) (p r : ℕ) (h s : ℤ) (j : ℕ) → 1 < j → two_solved v p r h s j ≡ neg_ℤ (h *ℤ entry v (skip p (skip r (j - 2))))
later v p r h s zero m = absurd (omega arith)
later v p r h s (suc zero) m = absurd (omega arith)
later v p r h s (suc (suc j)) m = let e : j ≡ suc (suc j) - 2 = omega arith in ap (λ n. neg_ℤ (h *ℤ entry v (skip p (skip r n)))) e

pub returns-else-index-eq1 : goal.returns-else-index-eq1
returns-else-index-eq1 c =
    let v = c.args.vector.now in
    let x = entry v c.nth_other-else-index-eq1.result in
    let fh : FitsSigned w64 c.args.head = c.ranges.head in
    let fx : FitsSigned w64 x = search rules in
    let d = simp to_z-of_z at c.product.ensures.value in
    let e : c.nth_other-else-index-eq1.result ≡ skip c.args.p (skip c.args.r (c.args.index - 2)) = c.nth_other-else-index-eq1.ensures.value ∙ ap (skip c.args.p) c.nth_other.ensures.value in
    let l = later v c.args.p c.args.r c.args.head c.args.second c.args.index (omega arith) in
    omega (arith, ints, d ∙ ap (λ k. c.args.head *ℤ entry v k) e, l, c.product.ensures.small)

pub overflow_sub-result : goal.overflow_sub-result
overflow_sub-result c = grind (arith, common_steps)
