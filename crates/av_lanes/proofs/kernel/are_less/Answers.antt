use Rattle.std.proofs.Common.{◌<◌, ◌≤◌, ◌^◌, ◌∙◌, ℕ, List, ap, arith, get_or, pow_mono}
use Rattle.av_lanes.proofs.kernel.are_less.Goals.{then-width-lt64, else-width-lt64}
use Rattle.av_lanes.proofs.kernel.are_less.Goals as goal

-- a word of fewer than 64 bits
small : (w n : ℕ) → w < 64 → n < 2 ^ w → n < 2 ^ 63
small w n lt fits =
    let few : w ≤ 63 = omega arith in
    let most : 2 ^ w ≤ 2 ^ 63 = pow_mono few in
    omega (arith, most)

pub returns : goal.returns
returns c k lt fx fy =
    let w = c.args.width.bits in
    elim c.if-width-lt64.branch [
      | then-width-lt64 b ↦
          let few : w < 64 = b.if-width-lt64.true in
          ap (λ (xs : List ℕ). get_or xs k 0) b.result-is ∙ b.small_are_less.ensures k lt (small w (get_or c.args.left k 0) few fx) (small w (get_or c.args.right k 0) few fy)
      | else-width-lt64 b ↦ ap (λ (xs : List ℕ). get_or xs k 0) b.result-is ∙ b.any_are_less.ensures k lt
    ]
