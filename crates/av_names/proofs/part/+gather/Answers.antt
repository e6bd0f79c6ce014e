use Rattle.std.proofs.Common.{refl, arith}
use Rattle.std.proofs.lemmas.Result.{on_ok_weaker}
use Rattle.std.proofs.lemmas.Grind.{common_steps}
use Rattle.av_names.specs.inner.Seen.{context as seen}
use Rattle.av_names.proofs.Cases.{case_parts, one_more_branch}
use Rattle.av_names.proofs.part.+gather.Goals as goal

pub gather-returns-in-Case : goal.gather-returns-in-Case
gather-returns-in-Case t c =
    on_ok_weaker c.gather_all.result (λ all. case_parts c.args.parts.now.items c.push.new.self.items c.gather_all.new.parts.items
    (record { context = c.args.context; reduced = c.args.reduced; expr = c.args.expr }) c.in-Case.branches c.args.expr.now c.in-Case.place
    c.in-Case.is c.in_ok-push.ensures.items refl (rw c.as_slice.ensures at all)) c.gather_all.ensures

pub gather_all-loop-branch-preserved : goal.gather_all-loop-branch-preserved
gather_all-loop-branch-preserved t c =
    one_more_branch c.args.parts.now.items c.loop-branch.parts.items c.gather.new.parts.items c.args.reduced (seen c.args.context) c.args.branches.now c.loop-branch.branch-index
    c.branch-item.result c.loop-branch-test.true c.branch-item.is c.loop-branch.invariant c.in_ok-gather.ensures

pub gather-returns-in_ok-gather-in-Choose-3 : goal.gather-returns-in_ok-gather-in-Choose-3
gather-returns-in_ok-gather-in-Choose-3 t c = grind (arith, common_steps)

pub gather_all-returns : goal.gather_all-returns
gather_all-returns t c = grind (arith, common_steps)

pub gather-returns-in_ok-gather-in-Binary : goal.gather-returns-in_ok-gather-in-Binary
gather-returns-in_ok-gather-in-Binary t c = grind (arith, common_steps)

pub gather-returns-in-Reduce : goal.gather-returns-in-Reduce
gather-returns-in-Reduce t c = grind (arith, common_steps)

pub gather-returns-in-Depend : goal.gather-returns-in-Depend
gather-returns-in-Depend t c = grind (arith, common_steps)

pub gather-returns-in-Ref-2 : goal.gather-returns-in-Ref-2
gather-returns-in-Ref-2 t c = grind (arith, common_steps)

pub gather-returns-in-Ref : goal.gather-returns-in-Ref
gather-returns-in-Ref t c = grind (arith, common_steps)

pub gather-returns-in-Restrict : goal.gather-returns-in-Restrict
gather-returns-in-Restrict t c = grind (arith, common_steps)
