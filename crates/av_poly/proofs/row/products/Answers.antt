use Rattle.std.proofs.Common.{◌^◌, arith}
use Rattle.std.proofs.lemmas.Int.{ints}
use Rattle.av_affine.proofs.Dots.{dot_most}
use Rattle.av_poly.proofs.row.products.Goals as goal

pub returns-clause-small : goal.returns-clause-small
returns-clause-small c =
    let most = dot_most c.args.coef c.args.numbers.now (2 ^ 40) (2 ^ 25) c.requires.coef c.requires.numbers in
    omega (arith, ints, most, c.dot.ensures.value, c.requires.fits)
