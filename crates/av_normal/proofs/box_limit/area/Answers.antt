use Rattle.std.proofs.Common.{◌^◌, ◌*ℤ◌, FitsSigned, to_z-of_z, lit<}
use mir.Syntax.{w128}
use Rattle.std.proofs.lemmas.Int.{fits_signed_mul}
use Rattle.av_affine.proofs.Dots.{abs_product}
use Rattle.av_normal.proofs.box_limit.area.Goals as goal

pub returns-clause-value : goal.returns-clause-value
returns-clause-value c =
    let fa : FitsSigned w128 c.args.first = c.ranges.first in
    let fb : FitsSigned w128 c.args.second = c.ranges.second in
    let fp : FitsSigned w128 (c.args.first *ℤ c.args.second) = fits_signed_mul w128 c.args.first c.args.second (2 ^ 13) (2 ^ 13) c.requires.first c.requires.second (lit< tt) in
    simp to_z-of_z

pub returns-clause-small : goal.returns-clause-small
returns-clause-small c =
    let fa : FitsSigned w128 c.args.first = c.ranges.first in
    let fb : FitsSigned w128 c.args.second = c.ranges.second in
    let fp : FitsSigned w128 (c.args.first *ℤ c.args.second) = fits_signed_mul w128 c.args.first c.args.second (2 ^ 13) (2 ^ 13) c.requires.first c.requires.second (lit< tt) in
    simp to_z-of_z (abs_product c.args.first c.args.second (2 ^ 13) (2 ^ 13) c.requires.first c.requires.second)
