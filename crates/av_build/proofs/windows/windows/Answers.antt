use Rattle.std.proofs.Common.{◌≡◌, None, ◌∙◌, ap, Some, ◌+◌, ◌++◌, List, Option, drop, sym, subst, get_or, false}
use Rattle.av_base.proofs.Lists.{same_default}
use Rattle.av_kinds.specs.declared.program.Window.{Window}
use Rattle.av_build.specs.declared.windows.CounterMark.{CounterMark}
use Rattle.av_build.specs.inner.Windows.{windows_from, windows_by}
use Rattle.av_build.proofs.WindowSteps.{more_begun, one_closed, last_closed}
use Rattle.av_build.proofs.windows.windows.Goals as goal
use Rattle.av_build.proofs.windows.windows.Goals.{then-mark, else-mark+in_ok-add_closed}

abbrev none : CounterMark
none = record { number = 0; holds = false }

pub loop-mark-preserved : goal.loop-mark-preserved
loop-mark-preserved c =
    let marks = c.args.marks.now in
    let all = windows_by marks in
    let n = c.loop-mark.mark-index in
    let m = get_or marks n none in
    let is = same_default marks n none m c.loop-mark-test.true in
    elim c.if-mark.branch [
      | then-mark w ↦
          subst (λ (l : List Window). l ++ windows_from c.if-mark.begun (drop (n + 1) marks) ≡ all) (sym w.windows-is)
          (subst (λ (b : Option Window). c.loop-mark.windows ++ windows_from b (drop (n + 1) marks) ≡ all) (ap (λ (i : Window). Some i) (sym w.extended.ensures) ∙ sym w.begun-is)
          (more_begun all c.loop-mark.windows c.loop-mark.begun marks n m c.loop-mark-test.true is w.if-mark.true c.loop-mark.invariant))
      | else-mark+in_ok-add_closed w ↦
          subst (λ (b : Option Window). c.if-mark.windows ++ windows_from b (drop (n + 1) marks) ≡ all) (sym w.begun-is)
          (subst (λ (l : List Window). l ++ windows_from None (drop (n + 1) marks) ≡ all) (sym w.windows-is)
          (one_closed all c.loop-mark.windows w.add_closed.new.windows c.loop-mark.begun marks n m c.loop-mark-test.true is w.if-mark.false w.in_ok-add_closed.ensures c.loop-mark.invariant))
    ]

pub returns : goal.returns
returns c = last_closed (windows_by c.args.marks.now) c.loop-mark.windows c.add_closed-2.new.windows c.loop-mark.begun c.args.marks.now c.loop-mark.mark-index c.loop-mark-test.false c.in_ok-add_closed-2.ensures c.loop-mark.invariant
