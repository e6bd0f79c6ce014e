use Rattle.std.proofs.Common.{List, ℕ, subst, sym, arith}
use Rattle.std.proofs.lemmas.Grind.{common_steps}
use Rattle.av_net.specs.declared.netlist.Module.{Module}
use Rattle.av_clock.specs.Kept.{AreZero}
use Rattle.av_clock.specs.Marked.{AreHeld}
use Rattle.av_clock.specs.Marking.{ReadTheSame}
use Rattle.av_clock.proofs.Views.{port_fits, set_fits, set_held, set_zero}
use Rattle.av_clock.proofs.state.State.present.Goals as goal

pub invariant_of-self-clause-fit : goal.invariant_of-self-clause-fit
invariant_of-self-clause-fit c =
    let s = c.args.self.now in
    set_fits s.circuit s.words.items c.args.port c.args.value c.is_sound.ensures s.size c.requires.port c.requires.fits s.fit

pub write-requires-clause-fits : goal.write-requires-clause-fits
write-requires-clause-fits c = port_fits c.args.self.now.circuit c.args.port c.args.value c.is_sound.ensures c.requires.port c.requires.fits

pub returns-then-dense-clause-zeros : goal.returns-then-dense-clause-zeros
returns-then-dense-clause-zeros c =
    let s = c.args.self.now in
    set_zero s.circuit s.words.items c.args.port c.args.value c.is_sound.ensures s.size c.requires.port

pub returns-else-dense-clause-held : goal.returns-else-dense-clause-held
returns-else-dense-clause-held c = λ marked held.
    let s = c.args.self.now in
    let t = c.write.new.self in
    let reads = subst (λ (ws : List ℕ). ReadTheSame s.circuit s.words.items ws s.stale t.stale s.due t.due) c.write.ensures.words c.write.ensures.same in
    let still = set_held s.circuit s.words.items c.args.port c.args.value s.stale t.stale s.due t.due c.is_sound.ensures s.size c.requires.port reads held in
    subst (λ (m : Module). AreHeld m t.words.items t.stale t.due) (sym c.write.ensures.circuit) (subst (λ (ws : List ℕ). AreHeld s.circuit ws t.stale t.due) (sym c.write.ensures.words) still)

pub returns-else-dense-clause-zeros : goal.returns-else-dense-clause-zeros
returns-else-dense-clause-zeros c = λ zeros.
    let s = c.args.self.now in
    let t = c.write.new.self in
    subst (λ (m : Module). AreZero m t.words.items) (sym c.write.ensures.circuit) (subst (λ (ws : List ℕ). AreZero s.circuit ws) (sym c.write.ensures.words)
    (set_zero s.circuit s.words.items c.args.port c.args.value c.is_sound.ensures s.size c.requires.port zeros))

pub write-requires-clause-place : goal.write-requires-clause-place
write-requires-clause-place c = grind (arith, common_steps)
