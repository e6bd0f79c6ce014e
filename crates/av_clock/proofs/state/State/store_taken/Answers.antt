use Rattle.std.proofs.Common.{◌≡◌, ◌∙◌, ℕ, List, Some, ap, sym, subst, get_or, set, slice_get, length, arith}
use Rattle.std.proofs.lemmas.Grind.{common_steps, elements}
use Rattle.av_base.specs.Words.{IsWord}
use Rattle.av_net.specs.declared.netlist.Module.{Module}
use Rattle.av_net.specs.Names.{all_names, width_of}
use Rattle.av_clock.specs.Marking.{ReadTheSame}
use Rattle.av_clock.proofs.Edges.{no_flip_flop, register_within}
use Rattle.av_clock.proofs.Storing.{is_taken}
use Rattle.av_clock.proofs.Taking.{taken_fits, gives_more, all_given}
use Rattle.av_clock.proofs.state.State.store_taken.Goals as goal

pub write-requires-clause-place : goal.write-requires-clause-place
write-requires-clause-place c =
    let first = c.args.self.now in
    let s = c.loop-i.self in
    let flip_flop = get_or c.flip_flops.result.now c.index.result.now no_flip_flop in
    let one = is_taken first s c.args.count c.loop-i.i c.index.result.now c.index-word.result.now c.flip_flops.result.now c.loop-i.invariant.0 c.loop-i.invariant.1 c.loop-i.invariant.2 c.requires.count c.loop-i-test.true
    (c.requires.within c.loop-i.i c.loop-i-test.true) c.flip_flops.ensures c.index.ensures c.index-word.ensures in
    register_within first.circuit s.words.items (get_or first.taken.items c.loop-i.i 0) flip_flop one.size one.for

pub write-requires-clause-fits : goal.write-requires-clause-fits
write-requires-clause-fits c =
    let first = c.args.self.now in
    let s = c.loop-i.self in
    let flip_flop = get_or c.flip_flops.result.now c.index.result.now no_flip_flop in
    let one = is_taken first s c.args.count c.loop-i.i c.index.result.now c.index-word.result.now c.flip_flops.result.now c.loop-i.invariant.0 c.loop-i.invariant.1 c.loop-i.invariant.2 c.requires.count c.loop-i-test.true
    (c.requires.within c.loop-i.i c.loop-i-test.true) c.flip_flops.ensures c.index.ensures c.index-word.ensures in
    subst (λ (m : Module). (name : List ℕ) → slice_get (all_names m) flip_flop.register ≡ Some name → IsWord (width_of m name) c.index-word.result.now) (sym c.loop-i.invariant.0)
    (subst (λ (n : ℕ). (name : List ℕ) → slice_get (all_names first.circuit) flip_flop.register ≡ Some name → IsWord (width_of first.circuit name) n) (sym one.word)
    (taken_fits first.circuit first.taken.items first.next.items c.args.count c.loop-i.i flip_flop c.loop-i-test.true one.for c.requires.fitting))

pub loop-i-preserved : goal.loop-i-preserved
loop-i-preserved c =
    let first = c.args.self.now in
    let s = c.loop-i.self in
    let flip_flop = get_or c.flip_flops.result.now c.index.result.now no_flip_flop in
    let one = is_taken first s c.args.count c.loop-i.i c.index.result.now c.index-word.result.now c.flip_flops.result.now c.loop-i.invariant.0 c.loop-i.invariant.1 c.loop-i.invariant.2 c.requires.count c.loop-i-test.true
    (c.requires.within c.loop-i.i c.loop-i-test.true) c.flip_flops.ensures c.index.ensures c.index-word.ensures in
    let t = c.write.new.self in (
      c.write.ensures.circuit ∙ c.loop-i.invariant.0,
      c.write.ensures.taken ∙ c.loop-i.invariant.1,
      c.write.ensures.next ∙ c.loop-i.invariant.2,
      gives_more first.circuit first.words.items s.words.items t.words.items first.stale s.stale t.stale first.due s.due t.due first.taken.items first.next.items c.args.count c.loop-i.i flip_flop
          c.is_sound.ensures one.size c.loop-i-test.true one.for c.requires.fitting (c.write.ensures.words ∙ ap (set s.words.items flip_flop.register) one.word)
          (subst (λ (m : Module). ReadTheSame m s.words.items t.words.items s.stale t.stale s.due t.due) c.loop-i.invariant.0 c.write.ensures.same)
          (t.stale_size ∙ ap (λ (m : Module). length m.drives) c.write.ensures.circuit ∙ sym s.stale_size) (t.due_size ∙ ap (λ (m : Module). length m.steps) c.write.ensures.circuit ∙ sym s.due_size) c.loop-i.invariant.3,
    )

pub returns-clause-registers : goal.returns-clause-registers
returns-clause-registers c =
    let first = c.args.self.now in
    let s = c.loop-i.self in
    all_given first.circuit first.words.items s.words.items first.stale s.stale first.due s.due first.taken.items first.next.items c.args.count c.loop-i.i c.loop-i-test.false c.loop-i.invariant.3

pub offset_bounds-flip_flops-index : goal.offset_bounds-flip_flops-index
offset_bounds-flip_flops-index c = grind (arith, elements)

pub loop-i-init : goal.loop-i-init
loop-i-init c = grind (arith, common_steps)

pub invariant_of-self-in-loop-i-2 : goal.invariant_of-self-in-loop-i-2
invariant_of-self-in-loop-i-2 c = grind (arith, common_steps)
