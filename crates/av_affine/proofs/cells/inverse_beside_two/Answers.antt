use Rattle.std.proofs.Common.{arith, rules, ◌≡◌, ℕ, sym, ◌∙◌, ap, ap₂, subst, pos, ◌-ℤ◌, ◌*ℤ◌, neg_ℤ, FitsSigned, to_z-of_z, w64, get_or}
use Rattle.std.specs.Int.{int_signum}
use Rattle.std.proofs.lemmas.Int.{ints, fits_signed_from_abs}
use Rattle.std.proofs.lemmas.Grind.{common_steps}
use Rattle.av_affine.specs.Completion.{entry}
use Rattle.av_affine.specs.Cells.{skip, turn, two_solved}
use Rattle.av_affine.proofs.Blocks.{two_at, two_at_other}
use Rattle.av_affine.proofs.cells.inverse_beside_two.Goals as goal

pub returns-then-row-p : goal.returns-then-row-p
returns-then-row-p c =
    let v = c.args.vector.now in
    let p = c.args.p in
    let r = c.args.r in
    let a = entry v p in
    let b = entry v c.nth_other-q.result in
    let h = c.turned.result in
    let k = c.turned-then-row-p.result in
    let fa : FitsSigned w64 a = search rules in
    let fb : FitsSigned w64 b = search rules in
    let fs : FitsSigned w64 c.signum.result = search rules in
    let fh : FitsSigned w64 h = search rules in
    let fk : FitsSigned w64 k = search rules in
    let fn : FitsSigned w64 (pos 0 -ℤ k) = fits_signed_from_abs w64 (pos 0 -ℤ k) (omega (arith, ints, c.turned-then-row-p.ensures.small)) in
    let fr : FitsSigned w64 c.solved.result = search rules in
    let s = simp to_z-of_z at c.signum.ensures.value in
    let d = simp to_z-of_z at c.turned.ensures.value in
    let d' = d ∙ ap (λ x. turn a b *ℤ x) s in
    let e = simp to_z-of_z at c.turned-then-row-p.ensures.value in
    let q = c.nth_other-q.ensures.value in
    let head : h ≡ turn a (entry v (skip p r)) *ℤ int_signum (entry v (skip p r)) = subst (λ (l : ℕ). h ≡ turn a (entry v l) *ℤ int_signum (entry v l)) q d' in
    let second : k ≡ turn a (entry v (skip p r)) *ℤ entry v (skip p r) = subst (λ (l : ℕ). k ≡ turn a (entry v l) *ℤ entry v l) q e in
    let minus : pos 0 -ℤ k ≡ neg_ℤ (turn a (entry v (skip p r)) *ℤ entry v (skip p r)) = omega (arith, ints, second) in
    let row = simp to_z-of_z at c.solved.ensures in
    simp to_z-of_z (row ∙ ap₂ (λ x y. two_solved v p r x y c.args.index) head minus ∙ sym (two_at v p r c.args.row c.args.index c.if-row-p.true))

pub returns-then-row-q : goal.returns-then-row-q
returns-then-row-q c =
    let v = c.args.vector.now in
    let p = c.args.p in
    let r = c.args.r in
    let a = entry v p in
    let b = entry v c.nth_other-q.result in
    let h = c.turned-then-row-q.result in
    let k = c.turned-then-row-q-2.result in
    let fa : FitsSigned w64 a = search rules in
    let fb : FitsSigned w64 b = search rules in
    let fs : FitsSigned w64 c.signum-then-row-q.result = search rules in
    let fh : FitsSigned w64 h = search rules in
    let fk : FitsSigned w64 k = search rules in
    let fn : FitsSigned w64 (pos 0 -ℤ h) = fits_signed_from_abs w64 (pos 0 -ℤ h) (omega (arith, ints, c.turned-then-row-q.ensures.small)) in
    let fr : FitsSigned w64 c.solved-then-row-q.result = search rules in
    let s = simp to_z-of_z at c.signum-then-row-q.ensures.value in
    let d = simp to_z-of_z at c.turned-then-row-q.ensures.value in
    let d' = d ∙ ap (λ x. turn a b *ℤ x) s in
    let e = simp to_z-of_z at c.turned-then-row-q-2.ensures.value in
    let q = c.nth_other-q.ensures.value in
    let head : h ≡ turn a (entry v (skip p r)) *ℤ int_signum a = subst (λ (l : ℕ). h ≡ turn a (entry v l) *ℤ int_signum a) q d' in
    let second : k ≡ turn a (entry v (skip p r)) *ℤ a = subst (λ (l : ℕ). k ≡ turn a (entry v l) *ℤ a) q e in
    let minus : pos 0 -ℤ h ≡ neg_ℤ (turn a (entry v (skip p r)) *ℤ int_signum a) = omega (arith, ints, head) in
    let row = simp to_z-of_z at c.solved-then-row-q.ensures in
    simp to_z-of_z (row ∙ ap₂ (λ x y. two_solved v p r x y c.args.index) minus second ∙ sym (two_at_other v p r c.args.row c.args.index c.if-row-p.false (c.if-row-q.true ∙ q)))

pub turned-requires-clause-first : goal.turned-requires-clause-first
turned-requires-clause-first c =
    let f : FitsSigned w64 (get_or c.args.vector.now c.args.p (pos 0)) = search rules in
    simp to_z-of_z (c.requires.small c.args.p (pos 0) c.requires.pivot.0)

pub turned-requires-clause-second : goal.turned-requires-clause-second
turned-requires-clause-second c =
    let f : FitsSigned w64 (get_or c.args.vector.now c.nth_other-q.result (pos 0)) = search rules in
    simp to_z-of_z (c.requires.small c.nth_other-q.result (pos 0) (omega (arith, c.requires.pivot.1, c.nth_other-q.ensures.most)))

pub turned-requires-then-row-p-clause-first : goal.turned-requires-then-row-p-clause-first
turned-requires-then-row-p-clause-first c =
    let f : FitsSigned w64 (get_or c.args.vector.now c.args.p (pos 0)) = search rules in
    simp to_z-of_z (c.requires.small c.args.p (pos 0) c.requires.pivot.0)

pub turned-requires-then-row-p-clause-second : goal.turned-requires-then-row-p-clause-second
turned-requires-then-row-p-clause-second c =
    let f : FitsSigned w64 (get_or c.args.vector.now c.nth_other-q.result (pos 0)) = search rules in
    simp to_z-of_z (c.requires.small c.nth_other-q.result (pos 0) (omega (arith, c.requires.pivot.1, c.nth_other-q.ensures.most)))

pub turned-requires-then-row-q-clause-first : goal.turned-requires-then-row-q-clause-first
turned-requires-then-row-q-clause-first c =
    let f : FitsSigned w64 (get_or c.args.vector.now c.args.p (pos 0)) = search rules in
    simp to_z-of_z (c.requires.small c.args.p (pos 0) c.requires.pivot.0)

pub turned-requires-then-row-q-clause-second : goal.turned-requires-then-row-q-clause-second
turned-requires-then-row-q-clause-second c =
    let f : FitsSigned w64 (get_or c.args.vector.now c.nth_other-q.result (pos 0)) = search rules in
    simp to_z-of_z (c.requires.small c.nth_other-q.result (pos 0) (omega (arith, c.requires.pivot.1, c.nth_other-q.ensures.most)))

pub turned-requires-then-row-q-2-clause-first : goal.turned-requires-then-row-q-2-clause-first
turned-requires-then-row-q-2-clause-first c =
    let f : FitsSigned w64 (get_or c.args.vector.now c.args.p (pos 0)) = search rules in
    simp to_z-of_z (c.requires.small c.args.p (pos 0) c.requires.pivot.0)

pub turned-requires-then-row-q-2-clause-second : goal.turned-requires-then-row-q-2-clause-second
turned-requires-then-row-q-2-clause-second c =
    let f : FitsSigned w64 (get_or c.args.vector.now c.nth_other-q.result (pos 0)) = search rules in
    simp to_z-of_z (c.requires.small c.nth_other-q.result (pos 0) (omega (arith, c.requires.pivot.1, c.nth_other-q.ensures.most)))

pub turned-requires-then-row-p-clause-third : goal.turned-requires-then-row-p-clause-third
turned-requires-then-row-p-clause-third c =
    let f : FitsSigned w64 (get_or c.args.vector.now c.nth_other-q.result (pos 0)) = search rules in
    simp to_z-of_z (c.requires.small c.nth_other-q.result (pos 0) (omega (arith, c.requires.pivot.1, c.nth_other-q.ensures.most)))

pub turned-requires-then-row-q-2-clause-third : goal.turned-requires-then-row-q-2-clause-third
turned-requires-then-row-q-2-clause-third c =
    let f : FitsSigned w64 (get_or c.args.vector.now c.args.p (pos 0)) = search rules in
    simp to_z-of_z (c.requires.small c.args.p (pos 0) c.requires.pivot.0)

pub solved-requires-clause-small : goal.solved-requires-clause-small
solved-requires-clause-small c = c.requires.small

pub solved-requires-then-row-q-clause-small : goal.solved-requires-then-row-q-clause-small
solved-requires-then-row-q-clause-small c = c.requires.small

pub solved-requires-clause-head : goal.solved-requires-clause-head
solved-requires-clause-head c =
    let f : FitsSigned w64 c.turned.result = search rules in
    simp to_z-of_z c.turned.ensures.small

pub solved-requires-then-row-q-clause-head : goal.solved-requires-then-row-q-clause-head
solved-requires-then-row-q-clause-head c =
    let h = c.turned-then-row-q.result in
    let f : FitsSigned w64 h = search rules in
    let g : FitsSigned w64 (pos 0 -ℤ h) = fits_signed_from_abs w64 (pos 0 -ℤ h) (omega (arith, ints, c.turned-then-row-q.ensures.small)) in
    simp to_z-of_z (omega (arith, ints, c.turned-then-row-q.ensures.small))

pub overflow_sub-turned-then-row-q : goal.overflow_sub-turned-then-row-q
overflow_sub-turned-then-row-q c = grind (arith, common_steps)

pub overflow_sub-turned : goal.overflow_sub-turned
overflow_sub-turned c = grind (arith, common_steps)

pub returns-else-index-lt2 : goal.returns-else-index-lt2
returns-else-index-lt2 c = grind (arith, common_steps)
