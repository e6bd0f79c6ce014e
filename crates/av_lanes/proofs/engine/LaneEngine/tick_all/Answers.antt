use Rattle.std.proofs.Common.{◌≡◌, ℕ, List, ap, ◌∙◌, true, false}
use Rattle.std.specs.Prelude.{Contains}
use Rattle.std.specs.Vec.{with_items}
use Rattle.av_net.specs.Names.{names_of, registers_of}
use Rattle.av_net.specs.Settled.{Agree}
use Rattle.av_net.specs.Clocked.{Edge}
use Rattle.av_clock.specs.Named.{named, AllFit}
use Rattle.av_lanes.specs.Seen.{Seen, lane}
use Rattle.av_lanes.proofs.LanePasses.{lane_long}
use Rattle.av_lanes.proofs.LaneStates.{size_after, after_call, before_call, lane_ports, lane_edge, kept_edge}
use Rattle.av_lanes.proofs.engine.LaneEngine.tick_all.Goals as goal

pub tick-requires-clause-fit : goal.tick-requires-clause-fit
tick-requires-clause-fit c k lt = before_call (λ words. AllFit c.self.inside.circuit (lane k words)) c.self.inside.words _ c.deref_mut.ensures.value (c.self.invariant.lanes k lt).fit

pub returns-clause-of : goal.returns-clause-of
returns-clause-of c = ap (λ (s : Seen). s.of) c.self.view_is

pub returns-clause-edge : goal.returns-clause-edge
returns-clause-edge c k lt =
    lane_edge c.args.self.now c.self.inside.of.now c.self.inside.circuit c.self.inside.sources.items c.self.inside.words.items (with_items c.self.inside.words c.tick.new.words).items false c.self.inside.settled k c.self.view_is c.self.invariant.sound c.self.invariant.sources c.self.invariant.circuit (lane_long k c.self.inside.circuit c.self.inside.words.items c.self.invariant.size) (lane_long k c.self.inside.circuit (with_items c.self.inside.words c.tick.new.words).items (size_after c.self.inside.words _ c.tick.new.words c.tick.auto.words c.deref_mut.ensures.value ∙ c.self.invariant.size))
    (after_call (λ old new. Edge c.self.inside.circuit false (named c.self.inside.circuit (lane k old)) (named c.self.inside.circuit (lane k new))) c.self.inside.words _ c.tick.new.words c.tick.auto.words c.deref_mut.ensures.value (c.tick.ensures.edge k lt))

pub returns-clause-ports : goal.returns-clause-ports
returns-clause-ports c k lt =
    lane_ports c.args.self.now c.self.inside.of.now c.self.inside.circuit c.self.inside.sources.items c.self.inside.words.items (with_items c.self.inside.words c.tick.new.words).items c.self.inside.settled k c.self.view_is c.self.invariant.sound c.self.invariant.sources c.self.invariant.circuit (lane_long k c.self.inside.circuit c.self.inside.words.items c.self.invariant.size) (lane_long k c.self.inside.circuit (with_items c.self.inside.words c.tick.new.words).items (size_after c.self.inside.words _ c.tick.new.words c.tick.auto.words c.deref_mut.ensures.value ∙ c.self.invariant.size))
    (after_call (λ old new. Agree (names_of c.self.inside.circuit.inputs) (named c.self.inside.circuit (lane k old)) (named c.self.inside.circuit (lane k new))) c.self.inside.words _ c.tick.new.words c.tick.auto.words c.deref_mut.ensures.value (c.tick.ensures.ports k lt))

pub invariant_of-self : goal.invariant_of-self
invariant_of-self c = record {
  sound = c.self.invariant.sound;
  sources = c.self.invariant.sources;
  circuit = c.self.invariant.circuit;
  safe = c.self.invariant.safe;
  drives = c.self.invariant.drives;
  size = size_after c.self.inside.words _ c.tick.new.words c.tick.auto.words c.deref_mut.ensures.value ∙ c.self.invariant.size;
  next = size_after c.self.inside.next _ c.tick.new.next c.tick.auto.next c.deref_mut-2.ensures.value ∙ c.self.invariant.next;
  taken = c.self.invariant.taken;
  moves = c.self.invariant.moves;
  stale = c.self.invariant.stale;
  due = c.self.invariant.due;
  lanes = λ k lt. kept_edge c.self.inside.circuit (lane k c.self.inside.words.items) (lane k (with_items c.self.inside.words c.tick.new.words).items) c.self.inside.stale c.self.inside.due true c.self.invariant.safe (after_call (λ old new. AllFit c.self.inside.circuit (lane k new)) c.self.inside.words _ c.tick.new.words c.tick.auto.words c.deref_mut.ensures.value (c.tick.ensures.fit k lt)) (c.self.invariant.lanes k lt).zeros
      (after_call (λ old new. (name : List ℕ) → (Contains (registers_of c.self.inside.circuit.steps) name → ⊥) → named c.self.inside.circuit (lane k new) name ≡ named c.self.inside.circuit (lane k old) name) c.self.inside.words _ c.tick.new.words c.tick.auto.words c.deref_mut.ensures.value (c.tick.ensures.others k lt))
      (λ some. absurd (let e : true ≡ false = some in cc));
}
