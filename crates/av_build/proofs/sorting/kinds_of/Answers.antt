use Rattle.std.proofs.Common.{◌≡◌, ◌∙◌, ◌+◌, ◌++◌, ◌∷◌, [], ℕ, List, length, get_or, arith, sym, ap, subst}
use Rattle.std.proofs.lemmas.Option.{get_or_from_slice_get}
use Rattle.std.proofs.lemmas.Grind.{common_steps}
use Rattle.av_base.proofs.Lists.{there_is}
use Rattle.av_build.specs.inner.Lanes.{HasNoKind, IsKind}
use Rattle.av_build.proofs.Pairwise.{element}
use Rattle.av_build.proofs.SortingSteps.{AreKindsTo, known_kind, new_kind, kinds_are}
use Rattle.av_build.proofs.sorting.kinds_of.Goals as goal
use Rattle.av_build.proofs.sorting.kinds_of.Goals.{in-Some, in-None+in_ok-push-in-None}

pub known-requires : goal.known-requires
known-requires c = λ k d lt.
    let firsts = c.loop-number.firsts in
    let same = ap (λ (l : List ℕ). length l) c.as_slice.ensures in
    let low = c.loop-number-test.true in
    let x = there_is firsts k (omega (arith, lt, same)) in
    let f = (c.loop-number.invariant.first_of k x.0 x.1).0 in
    let here : get_or c.as_slice.result.now k d ≡ x.0 = ap (λ (l : List ℕ). get_or l k d) c.as_slice.ensures ∙ get_or_from_slice_get firsts k x.0 d x.1 in
    omega (arith, here, f, low)

pub loop-number-preserved : goal.loop-number-preserved
loop-number-preserved c =
    let cells = c.args.cells.now in
    let firsts = c.loop-number.firsts in
    let kinds = c.loop-number.kinds in
    let n = c.loop-number.number in
    let cell = c.index-cells-number.result in
    let is_cell = element cells n cell cell c.loop-number-test.true c.index-cells-number.is in
    let pushed = c.in_ok-push.ensures.ok in
    elim c.match-known.branch [
      | in-Some w ↦ (
          let k = w.in-Some.kind in
          let made = known_kind cells firsts kinds n c.loop-number.invariant cell is_cell k (subst (λ (fs : List ℕ). IsKind cells fs cell k) c.as_slice.ensures w.in-Some.ensures) in
          subst (λ (fs : List ℕ). AreKindsTo cells fs c.push-in-loop-number.new.self (n + 1)) (sym w.firsts-is)
          (subst (λ (ks : List ℕ). AreKindsTo cells firsts ks (n + 1)) (sym (pushed ∙ ap (λ (i : ℕ). kinds ++ i ∷ []) w.kind-is)) made))
      | in-None+in_ok-push-in-None w ↦ (
          let none = subst (λ (fs : List ℕ). HasNoKind cells fs cell) c.as_slice.ensures w.in-None.ensures in
          let made = new_kind cells firsts kinds n c.loop-number.invariant cell is_cell none in
          subst (λ (fs : List ℕ). AreKindsTo cells fs c.push-in-loop-number.new.self (n + 1)) (sym (w.firsts-is ∙ w.in_ok-push-in-None.ensures.ok))
          (subst (λ (ks : List ℕ). AreKindsTo cells (firsts ++ n ∷ []) ks (n + 1))
          (sym (pushed ∙ ap (λ (i : ℕ). kinds ++ i ∷ []) (w.kind-is ∙ ap (λ (l : List ℕ). length l) w.as_slice-kind.ensures))) made))
    ]

pub returns : goal.returns
returns c =
    let low = c.loop-number.auto.number-end in
    let high = c.loop-number-test.false in
    kinds_are c.args.cells.now c.loop-number.firsts c.loop-number.kinds c.loop-number.number (omega (arith, low, high)) c.loop-number.invariant

pub loop-number-init : goal.loop-number-init
loop-number-init c = grind (arith, common_steps)
