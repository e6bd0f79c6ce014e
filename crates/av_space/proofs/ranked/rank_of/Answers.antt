use Rattle.std.proofs.Common.{rules, ◌≡◌, ◌∙◌, ◌<◌, pos, ◌+ℤ◌, length, get_or, sym, ap, arith, subst, FitsSigned, to_z, of_z, to_z-of_z, w64}
use Rattle.std.proofs.lemmas.Int.{ints}
use Rattle.std.proofs.lemmas.List.{drop_more}
use Rattle.std.proofs.lemmas.Grind.{common_steps}
use Rattle.av_affine.specs.Numbers.{AtMost}
use Rattle.av_affine.proofs.Dots.{entry_most}
use Rattle.av_space.specs.inner.Laying.{rank_from}
use Rattle.av_space.proofs.Ranks.{wide, narrow, power_more}
use Rattle.av_space.proofs.ranked.rank_of.Goals as goal

pub overflow_add-rank : goal.overflow_add-rank
overflow_add-rank c =
    let xs = c.as_slice-entries.result.now in
    let k = c.loop-k.k in
    let e = get_or xs k (pos 0) in
    let small = entry_most 16380 xs k (subst (AtMost 16380) (sym c.as_slice-entries.ensures.value) c.requires) in
    let f : FitsSigned w64 e = search rules in
    let t : to_z w64 (of_z w64 e) ≡ e = simp to_z-of_z in
    let g : FitsSigned w64 (e +ℤ pos 32768) = omega (arith, ints, small) in
    let u : to_z w64 (of_z w64 (e +ℤ pos 32768)) ≡ e +ℤ pos 32768 = simp to_z-of_z in
    let n = narrow k (omega (arith, c.loop-k-test.true, c.as_slice-entries.ensures.fits)) in
    let b = c.loop-k.invariant.fits in
    rw t (rw u (omega (arith, ints, small, n, b)))

pub loop-k-preserved : goal.loop-k-preserved
loop-k-preserved c =
    let xs = c.as_slice-entries.result.now in
    let k = c.loop-k.k in
    let e = get_or xs k (pos 0) in
    let small = entry_most 16380 xs k (subst (AtMost 16380) (sym c.as_slice-entries.ensures.value) c.requires) in
    let f : FitsSigned w64 e = search rules in
    let t : to_z w64 (of_z w64 e) ≡ e = simp to_z-of_z in
    let g : FitsSigned w64 (e +ℤ pos 32768) = omega (arith, ints, small) in
    let u : to_z w64 (of_z w64 (e +ℤ pos 32768)) ≡ e +ℤ pos 32768 = simp to_z-of_z in
    let b = c.loop-k.invariant.fits in
    let p = power_more k in
    let l : k < length xs = c.loop-k-test.true in
    record {
      value = rw t (rw u (sym (ap (rank_from c.loop-k.rank) (drop_more xs k (pos 0) l)) ∙ c.loop-k.invariant.value));
      fits = rw t (rw u (omega (arith, ints, small, p, b)));
    }

pub returns-clause-fits : goal.returns-clause-fits
returns-clause-fits c = (let w = wide c.loop-k.k (omega (arith, c.loop-k.auto.k-end, c.as_slice-entries.ensures.fits)) in let b = c.loop-k.invariant.fits in omega (arith, w, b))

pub overflow_cast-digit : goal.overflow_cast-digit
overflow_cast-digit c = grind (arith, common_steps)
