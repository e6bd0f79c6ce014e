use Rattle.std.proofs.Common.{List, ℕ, ◌∙◌, ◌<◌, ◌≤◌, true, ap, sym, subst, get_or, length, arith}
use Rattle.std.proofs.lemmas.Grind.{common_steps}
use Rattle.av_clock.specs.Gates.{AreTaken}
use Rattle.av_clock.proofs.Edges.{no_flip_flop, for_read, reset_more, taken_all, taken_itself}
use Rattle.av_clock.proofs.Views.{new_items}
use Rattle.av_clock.proofs.state.State.reset_words.Goals as goal

pub loop-i-preserved : goal.loop-i-preserved
loop-i-preserved c =
    let s = c.args.self.now in
    let m = s.circuit in
    let flip_flops = c.flip_flops-flip_flop-items.result.now in
    let for = for_read m flip_flops c.loop-i.i c.flip_flops-flip_flop-items.ensures c.loop-i-test.true in
    let within : c.loop-i.i < length m.steps = for.within in
    let long = c.loop-i.auto.taken ∙ ap length c.as_mut_slice-taken.ensures.value ∙ s.taken_size in (
      reset_more m c.loop-i.next c.loop-i.i (get_or flip_flops c.loop-i.i no_flip_flop) (c.loop-i.auto.next ∙ ap length c.as_mut_slice-next.ensures.value ∙ s.next_size) for c.loop-i.invariant.0,
      taken_itself c.loop-i.taken c.loop-i.i (omega (arith, within, long)) c.loop-i.invariant.1,
    )

pub returns-clause-words : goal.returns-clause-words
returns-clause-words c = λ old.
    let s = c.args.self.now in
    let past : length s.circuit.steps ≤ c.loop-i.i = (let count = c.flip_flops-flip_flop-items.ensures.count in let e = c.loop-i-test.false in omega (arith, count, e)) in
    subst (λ (ws : List ℕ). AreTaken s.circuit true old (length s.circuit.steps) ws) (sym (new_items s.next _ c.loop-i.next c.loop-i.auto.next c.as_mut_slice-next.ensures.value))
    (taken_all s.circuit true old c.loop-i.i c.loop-i.next past (c.loop-i.invariant.0 old))

pub invariant_of-self : goal.invariant_of-self
invariant_of-self c = grind (arith, common_steps)

pub returns-clause-steps : goal.returns-clause-steps
returns-clause-steps c = grind (arith, common_steps)
