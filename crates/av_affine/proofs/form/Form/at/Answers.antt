use Rattle.std.proofs.Common.{length, arith, ap}
use Rattle.std.proofs.lemmas.Int.{ints}
use Rattle.std.proofs.lemmas.Grind.{common_steps}
use Rattle.av_affine.specs.Numbers.{dot}
use Rattle.av_affine.proofs.Dots.{dot_most}
use Rattle.av_affine.proofs.form.Form.at.Goals as goal

pub returns-clause-small : goal.returns-clause-small
returns-clause-small c =
    let z = c.args.z.now in
    let f = c.args.self.now in
    let most = dot_most f.coef z 1024 4095 c.requires.form.coefficients c.requires.point in
    let short = ap length c.as_slice.ensures.value in
    let same = ap (dot f.coef) c.as_slice.ensures.value in
    omega (arith, ints, most, short, same, c.requires.form.constant)

pub returns-clause-value : goal.returns-clause-value
returns-clause-value c = grind (arith, common_steps)
