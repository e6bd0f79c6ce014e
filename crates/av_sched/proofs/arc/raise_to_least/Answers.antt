use Rattle.std.proofs.Common.{rules, ◌≡◌, ◌∙◌, ◌+◌, refl, sym, ap, subst, true≢false, All, List, ℤ, length, arith}
use Rattle.std.proofs.lemmas.Grind.{common_steps}
use Rattle.av_sched.specs.Arcs.{IsLate}
use Rattle.av_sched.specs.inner.Rounds.{raised_all}
use Rattle.av_sched.proofs.Rounds.{IsKept, kept_first, kept_more}
use Rattle.av_sched.proofs.arc.raise_to_least.Goals as goal

pub loop-round-init : goal.loop-round-init
loop-round-init c =
    let same : c.extend_from_slice.new.self.items ≡ c.args.off.now.items = search rules in
    record {
      kept = kept_first c.args.arcs.now c.args.off.now.items c.args.off.now.items c.requires.arcs c.requires.low refl;
      same = ap length same;
    }

pub loop-round-preserved : goal.loop-round-preserved
loop-round-preserved c =
    let arcs = c.args.arcs.now in
    let low = c.args.off.now.items in
    let off = c.loop-round.off.items in
    let busy = λ (h : All (IsLate off) arcs). true≢false (sym (c.all_late.ensures.1 (rw c.deref-in-loop-round.ensures.value h)) ∙ c.if-all_late.false) in
    let same : c.copy_from_slice.new.self.items ≡ off = c.copy_from_slice.ensures.items ∙ c.deref-in-loop-round-2.ensures.value in
    let old : c.deref-in-loop-round-3.result.now ≡ off = c.deref-in-loop-round-3.ensures.value ∙ same in
    let new : c.raise_all.new.off.items ≡ raised_all off arcs off = c.raise_all.ensures ∙ ap (λ (o : List ℤ). raised_all o arcs off) old in
    record {
      kept = subst (IsKept arcs low (c.loop-round.round + 1)) (sym new) (kept_more arcs low off c.loop-round.round c.requires.arcs busy c.loop-round.invariant.kept);
      same = ap length same ∙ c.loop-round.invariant.kept.size;
    }

pub raise_all-requires-clause-old : goal.raise_all-requires-clause-old
raise_all-requires-clause-old c = grind (arith, common_steps)

pub all_late-requires-clause-off : goal.all_late-requires-clause-off
all_late-requires-clause-off c = grind (arith, common_steps)
