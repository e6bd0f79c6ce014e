use Rattle.std.proofs.Common.{rules, ◌≡◌, ◌<◌, ◌+◌, ◌≤ℤ◌, pos, length, sym, ap, arith, subst, FitsSigned, to_z, of_z, to_z-of_z}
use Rattle.std.specs.Int.{w128}
use Rattle.std.specs.Prelude.{max, unsigned_abs}
use Rattle.std.proofs.lemmas.Int.{ints}
use Rattle.std.proofs.lemmas.List.Elements.{All-take}
use Rattle.av_tree.specs.Points.{Point}
use Rattle.av_flat.specs.Schedules.{cycle}
use Rattle.av_space.proofs.Counts.{IsUnder, under_more, least_more, whole_list}
use Rattle.av_space.proofs.cycles.raised.Goals as goal

pub loop-point-preserved : goal.loop-point-preserved
loop-point-preserved c =
    let time = c.args.time.now in
    let points = c.args.points.now in
    let k = c.loop-point.point-index in
    let z = c.point-item.result in
    let l : k < length points = search rules in
    let starts : pos 0 ≤ℤ cycle time z = subst (λ (w : Point). pos 0 ≤ℤ cycle time w) (sym c.point-item.is) (c.requires.starts k z l) in
    let v = c.unsigned_abs-next.ensures.value in
    let e = ap unsigned_abs c.cycle_of.ensures.value in
    let small = c.cycle_of.ensures.small in
    let f : FitsSigned w128 c.cycle_of.result = omega (arith, ints, small) in
    let t : to_z w128 (of_z w128 c.cycle_of.result) ≡ c.cycle_of.result = simp to_z-of_z in
    let v = rw t at v in
    let next : c.max-most.result ≡ max c.loop-point.most (unsigned_abs (cycle time z) + 1) = omega (arith, ints, v, e, t, c.max-most.ensures) in
    record {
      from = omega (arith, next, c.loop-point.invariant.from);
      above = under_more time points k z l c.point-item.is starts c.loop-point.most c.max-most.result next c.loop-point.invariant.above;
      least = least_more time points k z l c.point-item.is starts c.args.count c.loop-point.most c.max-most.result next c.loop-point.invariant.least;
      fits = omega (arith, v, e, c.max-most.ensures, small, c.loop-point.invariant.fits);
    }

pub returns-clause-above : goal.returns-clause-above
returns-clause-above c = whole_list (IsUnder c.args.time.now c.loop-point.most) c.args.points.now c.loop-point.point-index (search rules) c.loop-point.invariant.above

pub returns-clause-least : goal.returns-clause-least
returns-clause-least c = λ m l h. c.loop-point.invariant.least m l (All-take (IsUnder c.args.time.now m) c.loop-point.point-index c.args.points.now h)
