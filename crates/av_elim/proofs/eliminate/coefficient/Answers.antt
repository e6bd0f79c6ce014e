use Rattle.std.proofs.Common.{rules, FitsSigned, to_z-of_z, arith, w64, get_or, pos, suc}
use Rattle.av_elim.proofs.eliminate.coefficient.Goals as goal

pub small_number-requires-clause-low : goal.small_number-requires-clause-low
small_number-requires-clause-low c =
    let f : FitsSigned w64 (get_or c.args.below.now.coef c.args.other (pos 0)) = search rules in
    simp to_z-of_z (c.requires.below.coefficients (suc c.args.other) (omega arith))

pub small_number-requires-clause-high : goal.small_number-requires-clause-high
small_number-requires-clause-high c =
    let f : FitsSigned w64 (get_or c.args.above.now.coef c.args.other (pos 0)) = search rules in
    simp to_z-of_z (c.requires.above.coefficients (suc c.args.other) (omega arith))

pub small_number-requires-clause-below : goal.small_number-requires-clause-below
small_number-requires-clause-below c =
    let f : FitsSigned w64 (get_or c.args.below.now.coef c.args.index (pos 0)) = search rules in
    let h = c.requires.below.coefficients (suc c.args.index) (omega arith) in
    simp to_z-of_z (omega (arith, h))

pub small_number-requires-clause-above : goal.small_number-requires-clause-above
small_number-requires-clause-above c =
    let f : FitsSigned w64 (get_or c.args.above.now.coef c.args.index (pos 0)) = search rules in
    let h = c.requires.above.coefficients (suc c.args.index) (omega arith) in
    simp to_z-of_z (omega (arith, h))
