use Rattle.std.proofs.Common.{◌≡◌, ◌<◌, ◌≤◌, ℕ, length, rules, sym, ap, subst, ◌∙◌, arith}
use Rattle.av_affine.specs.Squares.{product, identity}
use Rattle.av_affine.specs.Completion.{first_row}
use Rattle.av_space.proofs.Inverse.{square_keeps}
use Rattle.av_stream.proofs.StandingPoints.{divisor_small}
use Rattle.av_stream.proofs.standing.matrix_of.Goals as goal

pub returns-else-is_empty : goal.returns-else-is_empty
returns-else-is_empty c =
    let linear = c.args.time.now.linear in
    let p = c.complete.result in
    let q = c.complete.ensures in
    let m_rows : length p.m.cells ≡ 4 = search rules in
    let inverse_rows : length p.inverse.cells ≡ 4 = search rules in
    let few : length linear ≤ 4 = omega (arith, c.as_slice.ensures.fits, ap length c.as_slice.ensures.value) in
    let filled : 0 < length c.as_slice.result.now = (let t = c.if-is_empty.false in let e = c.is_empty.ensures in grind (arith, t, e)) in
    let some : 0 < length linear = omega (arith, filled, ap length c.as_slice.ensures.value) in
    record {
      few = few;
      size = q.sizes.0;
      size_of_inverse = q.sizes.1;
      positive = q.gcd;
      small_gcd = divisor_small linear (first_row p.m) p.gcd q.gcd (c.requires.not_zero some) c.requires.small q.vector;
      divided = q.vector;
      primitive = q.primitive;
      rule = q.rule;
      undone = λ z l. square_keeps p.m p.inverse inverse_rows m_rows (omega (arith, q.sizes.0, few)) (q.sizes.1 ∙ sym q.sizes.0) q.left z (l ∙ sym q.sizes.0);
      undoes = λ w l. square_keeps p.inverse p.m m_rows inverse_rows (omega (arith, q.sizes.1, few)) (q.sizes.0 ∙ sym q.sizes.1) (subst (λ (n : ℕ). product p.m p.inverse ≡ identity n) (q.sizes.0 ∙ sym q.sizes.1) q.right) w (l ∙ sym q.sizes.1);
      small = q.small.1;
    }
