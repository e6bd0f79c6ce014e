use Rattle.std.proofs.Common.{◌≡◌, ◌<◌, [], drop, length, arith, sym, subst}
use Rattle.std.proofs.lemmas.List.{drop_all, length-drop}
use Rattle.std.proofs.lemmas.Grind.{common_steps}
use Rattle.av_tree.specs.Points.{Point}
use Rattle.av_flat.specs.Order.{IsBefore}
use Rattle.av_space.proofs.Located.{none_before_empty, empty_before, some_after_empty}
use Rattle.av_space.proofs.locate.is_before.Goals as goal

pub returns-then-k-b : goal.returns-then-k-b
returns-then-k-b c =
    let a = c.args.a.now in
    let b = c.args.b.now in
    let k = c.loop-k.k in
    let t = c.if-k-b.true in
    let over : drop k b ≡ [] = drop_all k b (omega (arith, t)) in
    ((λ h. absurd cc), (λ h. absurd (none_before_empty (drop k a) (subst (IsBefore (drop k a)) over (c.loop-k.invariant.same.1 h)))))

pub returns : goal.returns
returns c =
    let a = c.args.a.now in
    let b = c.args.b.now in
    let k = c.loop-k.k in
    let t = c.loop-k-test.false in
    let u = c.loop-k.auto.k-end in
    let over : drop k a ≡ [] = drop_all k a t in
    let n = length-drop k b in (
      (λ h. c.loop-k.invariant.same.0 (subst (λ (xs : Point). IsBefore xs (drop k b)) (sym over) (empty_before (drop k b) (let m : length a < length b = grind (arith, h) in omega (arith, m, n, t, u))))),
      (λ h. let m = some_after_empty (drop k b) (subst (λ (xs : Point). IsBefore xs (drop k b)) over (c.loop-k.invariant.same.1 h)) in let l : length a < length b = omega (arith, m, n, t, u) in grind (arith, l)),
    )

pub loop-k-preserved : goal.loop-k-preserved
loop-k-preserved c = grind (arith, common_steps)

pub returns-then-a-k : goal.returns-then-a-k
returns-then-a-k c = grind (arith, common_steps)
