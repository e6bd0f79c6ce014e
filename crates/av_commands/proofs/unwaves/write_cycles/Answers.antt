use Rattle.std.proofs.Common.{◌≡◌, ◌≤◌, ◌<◌, ℕ, List, length, take, subst, sym, ap, ◌∙◌, refl, arith}
use Rattle.av_base.proofs.Moves.{on_err}
use Rattle.av_base.specs.Outside.{Adds}
use Rattle.av_net.specs.declared.netlist.Port.{Port}
use Rattle.av_wave.specs.declared.wave.Change.{Change}
use Rattle.av_wave.specs.Waves.{Recording, IsWave}
use Rattle.av_commands.specs.Waves.{wave_lines}
use Rattle.av_commands.specs.inner.Changing.{values_of, AreMade}
use Rattle.av_commands.proofs.Unwaving.{starts_unwaving, make_first, make_ports, make_words, made_long, unwaves_on, unwave_fails, risen_since}
use Rattle.av_commands.proofs.unwaves.write_cycles.Goals as goal

pub loop-cycle-init : goal.loop-cycle-init
loop-cycle-init g c = starts_unwaving c.args.wave.now c.args.words.now (g.K.Sink.state c.args.sink.now) c.requires

pub make_changes-next-requires-clause-first : goal.make_changes-next-requires-clause-first
make_changes-next-requires-clause-first g c = make_first c.as_slice-changes.result.now (c.as_slice-changes.ensures ∙ ap (λ (w : Recording). w.changes) c.wave.view_is) c.loop-cycle.invariant

pub make_changes-next-requires-clause-ports : goal.make_changes-next-requires-clause-ports
make_changes-next-requires-clause-ports g c =
    make_ports c.as_slice-changes.result.now (c.as_slice-changes.ensures ∙ ap (λ (w : Recording). w.changes) c.wave.view_is) (subst IsWave c.wave.view_is c.wave.invariant) c.loop-cycle.invariant

pub make_changes-next-requires-clause-words : goal.make_changes-next-requires-clause-words
make_changes-next-requires-clause-words g c = make_words c.as_slice-changes.result.now (c.as_slice-changes.ensures ∙ ap (λ (w : Recording). w.changes) c.wave.view_is) c.loop-cycle.invariant

pub write_cycle-requires : goal.write_cycle-requires
write_cycle-requires g c =
    let ports : c.as_slice-ports.result.now ≡ c.args.wave.now.ports = c.as_slice-ports.ensures ∙ ap (λ (w : Recording). w.ports) c.wave.view_is in
    ap (λ (ps : List Port). length ps) ports ∙ sym (made_long c.make_changes-next.new.words (take c.make_changes-next.result c.as_slice-changes.result.now) c.loop-cycle.invariant c.make_changes-next.ensures.words)
    ∙ ap (λ (ws : List ℕ). length ws) (sym c.as_slice.ensures)

pub returns-in_err-write_cycle-clause-fault : goal.returns-in_err-write_cycle-clause-fault
returns-in_err-write_cycle-clause-fault g c = λ _. risen_since (g.K.Sink.state c.write_cycle.new.sink).faults c.loop-cycle.invariant (c.in_err-write_cycle.ensures.fault refl)

pub returns-in_err-write_cycle-clause-front : goal.returns-in_err-write_cycle-clause-front
returns-in_err-write_cycle-clause-front g c =
    let w : Recording = c.args.wave.now in
    let next : ℕ = c.make_changes-next.result in
    let words : List ℕ = c.make_changes-next.new.words in
    let ports : c.as_slice-ports.result.now ≡ w.ports = c.as_slice-ports.ensures ∙ ap (λ (v : Recording). v.ports) c.wave.view_is in
    let changes : c.as_slice-changes.result.now ≡ w.changes = c.as_slice-changes.ensures ∙ ap (λ (v : Recording). v.changes) c.wave.view_is in
    on_err c.from_residual.result
    (unwave_fails next words (g.K.Sink.state c.write_cycle.new.sink).held (subst IsWave c.wave.view_is c.wave.invariant) c.loop-cycle.invariant
    (subst (λ (n : ℕ). c.loop-cycle.cycle < n) (ap (λ (v : Recording). v.cycles) c.wave.view_is) c.loop-cycle-test.true)
    (c.make_changes-next.ensures.words ∙ ap (λ (gs : List Change). values_of (length c.loop-cycle.words) (take next gs)) changes)
    (subst (λ (gs : List Change). AreMade gs c.loop-cycle.next c.loop-cycle.cycle next) changes c.make_changes-next.ensures.made)
    (rw (ports, c.as_slice.ensures) at c.in_err-write_cycle.ensures.front))

pub loop-cycle-preserved : goal.loop-cycle-preserved
loop-cycle-preserved g c =
    let w : Recording = c.args.wave.now in
    let next : ℕ = c.make_changes-next.result in
    let words : List ℕ = c.make_changes-next.new.words in
    let ports : c.as_slice-ports.result.now ≡ w.ports = c.as_slice-ports.ensures ∙ ap (λ (v : Recording). v.ports) c.wave.view_is in
    let changes : c.as_slice-changes.result.now ≡ w.changes = c.as_slice-changes.ensures ∙ ap (λ (v : Recording). v.changes) c.wave.view_is in
    unwaves_on next words (g.K.Sink.state c.write_cycle.new.sink) (subst IsWave c.wave.view_is c.wave.invariant) c.loop-cycle.invariant
    (subst (λ (gs : List Change). next ≤ length gs) changes c.make_changes-next.ensures.within)
    (c.make_changes-next.ensures.words ∙ ap (λ (gs : List Change). values_of (length c.loop-cycle.words) (take next gs)) changes)
    (subst (λ (gs : List Change). AreMade gs c.loop-cycle.next c.loop-cycle.cycle next) changes c.make_changes-next.ensures.made)
    (rw (ports, c.as_slice.ensures) at c.in_ok-write_cycle.ensures.added) c.in_ok-write_cycle.ensures.later

pub returns-clause-added : goal.returns-clause-added
returns-clause-added g c =
    let w : Recording = c.args.wave.now in
    let cycles : c.wave.inside.cycles ≡ w.cycles = ap (λ (v : Recording). v.cycles) c.wave.view_is in
    let all : c.loop-cycle.cycle ≡ w.cycles = omega (arith, c.loop-cycle-test.false, c.loop-cycle.auto.cycle-end, cycles) in
    subst (λ (n : ℕ). Adds (g.K.Sink.state c.args.sink.now).held (g.K.Sink.state c.loop-cycle.sink).held (wave_lines w n)) all c.loop-cycle.invariant.written
