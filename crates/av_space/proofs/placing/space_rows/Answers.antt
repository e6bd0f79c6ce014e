use Rattle.std.proofs.Common.{◌≡◌, ◌∙◌, ◌∷◌, take, map, sym, ap, arith, subst, ℕ}
use Rattle.std.proofs.lemmas.Grind.{common_steps}
use Rattle.av_affine.specs.Completion.{first_row, rows_of, IsCompletion}
use Rattle.av_space.proofs.placing.space_rows.Goals as goal

pub returns : goal.returns
returns c =
    let m = c.complete-completed.result.m in
    let q = c.complete-completed.ensures in
    let some = c.requires.not_zero.2 in
    let size : c.loop-k.k ≡ m.size = omega (arith, c.loop-k-test.false, c.loop-k.auto.k, c.loop-k.auto.k-end, c.complete-completed.ensures.sizes.0, some) in
    let rows : first_row m ∷ c.loop-k.rows ≡ rows_of m = c.loop-k.invariant ∙ ap (λ (n : ℕ). map (take m.size) (take n m.cells)) size in
    record {
      vector = first_row m;
      gcd = c.complete-completed.result.gcd;
      positive = q.gcd;
      divided = q.vector;
      primitive = q.primitive;
      rule = subst (IsCompletion (first_row m)) (sym rows) q.rule;
    }

pub loop-k-preserved : goal.loop-k-preserved
loop-k-preserved c = grind (arith, common_steps)

pub from_slice-requires : goal.from_slice-requires
from_slice-requires c = grind (arith, common_steps)
