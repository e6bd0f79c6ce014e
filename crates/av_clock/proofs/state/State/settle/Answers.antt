use Rattle.std.proofs.Common.{List, ℕ, ◌<◌, ◌∙◌, length, ap, sym, subst, arith}
use Rattle.std.proofs.lemmas.Grind.{common_steps}
use Rattle.av_net.specs.Names.{given_names}
use Rattle.av_net.specs.Settled.{Settled, Agree}
use Rattle.av_clock.specs.Named.{named}
use Rattle.av_clock.proofs.Computing.{one_of, computes_more, have_settled}
use Rattle.av_clock.proofs.Settling.{assignment_takes, target_within}
use Rattle.av_clock.proofs.Views.{new_items}
use Rattle.av_clock.proofs.state.State.settle.Goals as goal

pub word-requires : goal.word-requires
word-requires c =
    let s = c.args.self.now in
    let one = one_of s.circuit c.computed-assignment-items.result.now c.loop-assignment.assignment-index c.assignment-item.result c.computed-assignment-items.ensures c.loop-assignment-test.true c.assignment-item.is in
    assignment_takes s.circuit c.loop-assignment.words one.place c.assignment-item.result c.is_sound.ensures (c.loop-assignment.auto.words ∙ ap length c.as_mut_slice-words.ensures.value ∙ s.size) one.for c.loop-assignment.invariant.fit

pub bounds-words-assignment : goal.bounds-words-assignment
bounds-words-assignment c =
    let s = c.args.self.now in
    let one = one_of s.circuit c.computed-assignment-items.result.now c.loop-assignment.assignment-index c.assignment-item.result c.computed-assignment-items.ensures c.loop-assignment-test.true c.assignment-item.is in
    target_within s.circuit c.loop-assignment.words one.place c.assignment-item.result (c.loop-assignment.auto.words ∙ ap length c.as_mut_slice-words.ensures.value ∙ s.size) one.for

pub offset_bounds-words-assignment : goal.offset_bounds-words-assignment
offset_bounds-words-assignment c =
    let s = c.args.self.now in
    let one = one_of s.circuit c.computed-assignment-items.result.now c.loop-assignment.assignment-index c.assignment-item.result c.computed-assignment-items.ensures c.loop-assignment-test.true c.assignment-item.is in
    let lt : c.assignment-item.result.target < length c.loop-assignment.words = target_within s.circuit c.loop-assignment.words one.place c.assignment-item.result (c.loop-assignment.auto.words ∙ ap length c.as_mut_slice-words.ensures.value ∙ s.size) one.for in
    omega arith

pub loop-assignment-preserved : goal.loop-assignment-preserved
loop-assignment-preserved c =
    let s = c.args.self.now in
    let one = one_of s.circuit c.computed-assignment-items.result.now c.loop-assignment.assignment-index c.assignment-item.result c.computed-assignment-items.ensures c.loop-assignment-test.true c.assignment-item.is in
    computes_more s.circuit c.computed-assignment-items.result.now s.words.items c.loop-assignment.words c.loop-assignment.assignment-index c.assignment-item.result c.word.result c.is_sound.ensures
    (c.loop-assignment.auto.words ∙ ap length c.as_mut_slice-words.ensures.value ∙ s.size) c.loop-assignment-test.true c.assignment-item.is one c.word.ensures c.loop-assignment.invariant

pub returns-clause-settled : goal.returns-clause-settled
returns-clause-settled c =
    let s = c.args.self.now in
    let all = c.computed-assignment-items.ensures in
    subst (λ (ws : List ℕ). Settled s.circuit (named s.circuit ws)) (sym (new_items s.words _ c.loop-assignment.words c.loop-assignment.auto.words c.as_mut_slice-words.ensures.value))
    (have_settled s.circuit all.assignments c.computed-assignment-items.result.now s.words.items c.loop-assignment.words c.loop-assignment.assignment-index c.is_sound.ensures s.size all.assigned all.filtered
    c.requires.zeros c.loop-assignment-test.false c.loop-assignment.invariant).settled

pub returns-clause-given : goal.returns-clause-given
returns-clause-given c =
    let s = c.args.self.now in
    let all = c.computed-assignment-items.ensures in
    subst (λ (ws : List ℕ). Agree (given_names s.circuit) (named s.circuit s.words.items) (named s.circuit ws)) (sym (new_items s.words _ c.loop-assignment.words c.loop-assignment.auto.words c.as_mut_slice-words.ensures.value))
    (have_settled s.circuit all.assignments c.computed-assignment-items.result.now s.words.items c.loop-assignment.words c.loop-assignment.assignment-index c.is_sound.ensures s.size all.assigned all.filtered
    c.requires.zeros c.loop-assignment-test.false c.loop-assignment.invariant).given

pub invariant_of-self : goal.invariant_of-self
invariant_of-self c = grind (arith, common_steps)
