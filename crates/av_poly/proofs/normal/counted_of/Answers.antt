use Rattle.std.proofs.Common.{rules, ◌≡◌, length, FitsSigned, to_z-of_z, w64}
use Rattle.av_poly.proofs.Fours.{four_counted}
use Rattle.av_poly.proofs.normal.counted_of.Goals as goal

pub returns : goal.returns
returns c =
    let r = c.args.coef in
    let l : length r ≡ 4 = search rules in
    let fa : FitsSigned w64 c.counted_at.result = search rules in
    let fb : FitsSigned w64 c.counted_at-2.result = search rules in
    let fc : FitsSigned w64 c.counted_at-3.result = search rules in
    let fd : FitsSigned w64 c.counted_at-4.result = search rules in
    simp to_z-of_z (four_counted c.args.dim r _ _ _ _ l c.counted_at.ensures c.counted_at-2.ensures c.counted_at-3.ensures c.counted_at-4.ensures)
