use Rattle.std.proofs.Common.{rules, ◌≡◌, ◌∙◌, arith, w64, FitsSigned, to_z-of_z, pos, ◌-ℤ◌, [], refl, ap₂}
use Rattle.std.proofs.lemmas.Int.{ints}
use Rattle.std.specs.Prelude.{slice_index_or}
use Rattle.av_affine.specs.Numbers.{dot}
use Rattle.av_sched.specs.Offsets.{part}
use Rattle.av_sched.proofs.pool.arc_at.Goals as goal
use Rattle.av_base.proofs.Lists.{same_default}

pub returns : goal.returns
returns c =
    let component = c.args.component.now in
    let linear = c.args.linear.now in
    let witness = c.args.witness.now in
    let x = c.products-ahead.result in
    let y = c.products-behind.result in
    let sx = c.products-ahead.ensures.small in
    let sy = c.products-behind.ensures.small in
    let fx : FitsSigned w64 x = search rules in
    let fy : FitsSigned w64 y = search rules in
    let fd : FitsSigned w64 (x -ℤ y) = omega (arith, ints, sx, sy) in
    let fe : FitsSigned w64 (pos 1 -ℤ (x -ℤ y)) = omega (arith, ints, sx, sy) in
    let n = slice_index_or component witness.reader 0 in
    let m = slice_index_or component witness.read 0 in
    let a : c.as_slice.result.now ≡ part linear n = c.as_slice.ensures.value ∙ c.index-linear-component.is ∙ same_default linear n c.index-linear-component.result [] c.requires.consumer_within in
    let b : c.as_slice-3.result.now ≡ part linear m = c.as_slice-3.ensures.value ∙ c.index-linear-component-2.is ∙ same_default linear m c.index-linear-component-2.result [] c.requires.producer_within in
    let ex : x ≡ dot (part linear n) witness.point = c.products-ahead.ensures.value ∙ ap₂ (λ p q. dot p q) a c.as_slice-2.ensures.value in
    let ey : y ≡ dot (part linear m) witness.image = c.products-behind.ensures.value ∙ ap₂ (λ p q. dot p q) b c.as_slice-4.ensures.value in
    simp to_z-of_z (record {
      reader = refl;
      read = refl;
      weight = omega (arith, ints, ex, ey);
      small = omega (arith, ints, sx, sy);
    })
