use Rattle.std.proofs.Common.{rules, FitsSigned, w64, to_z-of_z, pos, get_or}
use Rattle.av_space.proofs.PointsBefore.{one_entry_more}
use Rattle.av_space.proofs.reading.before.Goals as goal

pub loop-k-preserved : goal.loop-k-preserved
loop-k-preserved c =
    let z = c.as_slice-own.result.now in
    let w = c.as_slice-steps.result.now in
    let x = c.step_back.result in
    let f : FitsSigned w64 x = search rules in
    let fz : FitsSigned w64 (get_or z c.loop-k.k (pos 0)) = search rules in
    let v = simp to_z-of_z at c.step_back.ensures.value in
    let e = simp to_z-of_z at c.push.ensures.items in
    one_entry_more z w c.loop-k.entries.items c.push.new.self.items c.loop-k.k x c.loop-k-test.true v c.step_back.ensures.small e c.loop-k.invariant
