use Rattle.std.proofs.Common.{rules, ◌≡◌, ◌∙◌, ap, List, map, ◌++◌, ◌∷◌, FitsSigned, w64, to_z-of_z, ℤ, pos}
use Rattle.av_tree.specs.Points.{Point}
use Rattle.av_sched.proofs.Vectoring.{prepended_first, prepended_more}
use Rattle.av_sched.proofs.vector.longer.Goals as goal

pub loop-size-init : goal.loop-size-init
loop-size-init c =
    let e : c.prepend_all.new.to.items ≡ map (λ (y : Point). pos 0 ∷ y) c.args.shorter.now = c.in_ok-prepend_all.ensures ∙ ap (λ (xs : List Point). xs ++ map (λ (y : Point). pos 0 ∷ y) c.args.shorter.now) c.new-to.ensures.items in
    prepended_first c.args.shorter.now c.prepend_all.new.to.items e

pub loop-size-preserved : goal.loop-size-preserved
loop-size-preserved c =
    let x : ℤ = c.entry_after-entry.result in
    let y : ℤ = c.turned-other.result in
    let fx : FitsSigned w64 x = search rules in
    let fy : FitsSigned w64 y = search rules in
    let e = simp to_z-of_z at c.in_ok-prepend_all-2.ensures in
    let f = simp to_z-of_z at c.in_ok-prepend_all-3.ensures in
    let g = simp to_z-of_z at c.turned-other.ensures in
    prepended_more c.args.shorter.now c.loop-size.to.items c.prepend_all-in-loop-size-2.new.to.items c.loop-size.size x y c.entry_after-entry.ensures g
    (f ∙ ap (λ (xs : List Point). xs ++ map (λ (z : Point). y ∷ z) c.args.shorter.now) e) c.loop-size.invariant
