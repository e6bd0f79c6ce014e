use Rattle.std.proofs.Common.{List, ℕ, ◌∙◌, ◌<◌, ap, sym, subst, length, get_or, arith}
use Rattle.std.proofs.lemmas.Grind.{common_steps}
use Rattle.av_net.specs.Names.{names_of}
use Rattle.av_net.specs.Settled.{Agree}
use Rattle.av_clock.specs.Named.{named}
use Rattle.av_clock.specs.Kept.{AreZero}
use Rattle.av_clock.proofs.Computing.{edge_zero}
use Rattle.av_clock.proofs.Edges.{no_flip_flop, for_read, register_within, stores_more, ports_kept}
use Rattle.av_clock.proofs.Views.{new_items}
use Rattle.av_clock.proofs.state.State.store.Goals as goal

pub bounds-words-flip_flop : goal.bounds-words-flip_flop
bounds-words-flip_flop c =
    let s = c.args.self.now in
    let flip_flops = c.flip_flops-flip_flop-items.result.now in
    register_within s.circuit c.loop-i.words c.loop-i.i (get_or flip_flops c.loop-i.i no_flip_flop) (c.loop-i.auto.words ∙ ap length c.as_mut_slice-words.ensures.value ∙ s.size)
    (for_read s.circuit flip_flops c.loop-i.i c.flip_flops-flip_flop-items.ensures c.loop-i-test.true)

pub offset_bounds-words-flip_flop : goal.offset_bounds-words-flip_flop
offset_bounds-words-flip_flop c =
    let s = c.args.self.now in
    let flip_flops = c.flip_flops-flip_flop-items.result.now in
    let within : (get_or flip_flops c.loop-i.i no_flip_flop).register < length c.loop-i.words =
    register_within s.circuit c.loop-i.words c.loop-i.i (get_or flip_flops c.loop-i.i no_flip_flop) (c.loop-i.auto.words ∙ ap length c.as_mut_slice-words.ensures.value ∙ s.size)
    (for_read s.circuit flip_flops c.loop-i.i c.flip_flops-flip_flop-items.ensures c.loop-i-test.true) in
    omega arith

pub loop-i-preserved : goal.loop-i-preserved
loop-i-preserved c =
    let s = c.args.self.now in
    let flip_flops = c.flip_flops-flip_flop-items.result.now in
    stores_more s.circuit s.words.items c.loop-i.words s.next.items c.loop-i.i (get_or flip_flops c.loop-i.i no_flip_flop) (get_or c.as_slice-next.result.now c.loop-i.i 0) c.is_sound.ensures (c.loop-i.auto.words ∙ ap length c.as_mut_slice-words.ensures.value ∙ s.size)
    (for_read s.circuit flip_flops c.loop-i.i c.flip_flops-flip_flop-items.ensures c.loop-i-test.true)
    (ap (λ ws. get_or ws c.loop-i.i 0) c.as_slice-next.ensures.value) c.requires.fitting c.loop-i.invariant

pub returns-clause-ports : goal.returns-clause-ports
returns-clause-ports c =
    let s = c.args.self.now in
    subst (λ (ws : List ℕ). Agree (names_of s.circuit.inputs) (named s.circuit s.words.items) (named s.circuit ws)) (sym (new_items s.words _ c.loop-i.words c.loop-i.auto.words c.as_mut_slice-words.ensures.value))
    (ports_kept s.circuit s.words.items c.loop-i.words s.next.items c.loop-i.i c.is_sound.ensures c.loop-i.invariant)

pub returns-clause-zeros : goal.returns-clause-zeros
returns-clause-zeros c = λ zeros.
    let s = c.args.self.now in
    subst (λ (ws : List ℕ). AreZero s.circuit ws) (sym (new_items s.words _ c.loop-i.words c.loop-i.auto.words c.as_mut_slice-words.ensures.value))
    (edge_zero s.circuit s.words.items c.loop-i.words c.is_sound.ensures c.loop-i.invariant.others zeros)

pub invariant_of-self : goal.invariant_of-self
invariant_of-self c = grind (arith, common_steps)

pub returns-clause-registers : goal.returns-clause-registers
returns-clause-registers c = grind (arith, common_steps)
