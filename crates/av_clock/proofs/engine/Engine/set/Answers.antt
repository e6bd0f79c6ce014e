use Rattle.std.proofs.Common.{◌≡◌, ◌≢◌, ◌∙◌, ap, length, sym, subst, ℕ, List, slice_get, true, false}
use Rattle.std.specs.Prelude.{IfSome}
use Rattle.av_net.specs.declared.netlist.Module.{Module}
use Rattle.av_net.specs.Meaning.{Words}
use Rattle.av_net.specs.Sound.{IsSound}
use Rattle.av_clock.specs.Named.{named}
use Rattle.av_clock.specs.Seen.{carried}
use Rattle.av_clock.proofs.Views.{set_seen, set_port, set_others, port_seen, fits_seen}
use Rattle.av_clock.proofs.engine.Engine.set.Goals as goal

pub present-requires-clause-port : goal.present-requires-clause-port
present-requires-clause-port c = port_seen c.args.self.now c.self.inside.state.circuit c.self.inside.state.words.items c.self.inside.settled c.self.inside.work c.args.port c.self.view_is c.requires.port

pub present-requires-clause-fits : goal.present-requires-clause-fits
present-requires-clause-fits c = fits_seen c.args.self.now c.self.inside.state.circuit c.self.inside.state.words.items c.self.inside.settled c.self.inside.work c.args.port c.args.value c.self.view_is c.requires.fits

pub returns-clause-words : goal.returns-clause-words
returns-clause-words c =
    let state = c.self.inside.state in
    set_seen c.args.self.now state.circuit c.present.new.self.circuit state.words.items c.present.new.self.words.items c.self.inside.settled c.self.inside.work c.args.port c.args.value c.self.view_is c.present.ensures.circuit c.present.ensures.words

pub returns-clause-port : goal.returns-clause-port
returns-clause-port c =
    let state = c.self.inside.state in
    let wrote = ap (λ (m : Module). named m c.present.new.self.words.items) c.present.ensures.circuit ∙ ap (named state.circuit) c.present.ensures.words in
    subst (λ (v : Words). IfSome (slice_get c.args.self.now.of.inputs c.args.port) (λ port. v port.name ≡ c.args.value)) (sym wrote)
    (set_port c.args.self.now state.circuit state.words.items c.self.inside.settled c.self.inside.work c.args.port c.args.value c.self.view_is c.self.invariant.sound state.size)

pub returns-clause-others : goal.returns-clause-others
returns-clause-others c =
    let state = c.self.inside.state in
    let wrote = ap (λ (m : Module). named m c.present.new.self.words.items) c.present.ensures.circuit ∙ ap (named state.circuit) c.present.ensures.words in
    subst (λ (v : Words). IfSome (slice_get c.args.self.now.of.inputs c.args.port) (λ port. (name : List ℕ) → name ≢ port.name → v name ≡ carried c.args.self.now name)) (sym wrote)
    (set_others c.args.self.now state.circuit state.words.items c.self.inside.settled c.self.inside.work c.args.port c.args.value c.self.view_is c.self.invariant.sound state.size)

pub invariant_of-self : goal.invariant_of-self
invariant_of-self c = record {
  sound = subst IsSound (sym c.present.ensures.circuit) c.self.invariant.sound;
  settled = λ flag. absurd (let e : false ≡ true = flag in cc);
  zeros = c.present.ensures.zeros c.self.invariant.zeros;
  held = λ some. c.present.ensures.held some (c.self.invariant.held some);
  first = λ none some. ap (λ (m : Module). length m.drives) c.present.ensures.circuit ∙ c.self.invariant.first none some;
  shown = λ none flag. absurd (let e : false ≡ true = flag in cc);
}
