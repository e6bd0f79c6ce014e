use Rattle.std.proofs.Common.{◌≡◌, ℕ, List, ap, ◌∙◌, true}
use Rattle.std.specs.Prelude.{Contains}
use Rattle.std.specs.Vec.{with_items}
use Rattle.av_net.specs.Names.{names_of, registers_of}
use Rattle.av_net.specs.Settled.{Agree}
use Rattle.av_net.specs.Clocked.{Edge}
use Rattle.av_clock.specs.Marked.{AreHeld}
use Rattle.av_clock.specs.Named.{named, AllFit}
use Rattle.av_clock.proofs.Views.{size_call}
use Rattle.av_lanes.specs.Seen.{Seen, lane}
use Rattle.av_lanes.proofs.LanePasses.{lane_long}
use Rattle.av_lanes.proofs.LaneStates.{size_after, after_call, before_call, lane_ports, lane_edge, kept_edge}
use Rattle.av_lanes.proofs.engine.LaneEngine.reset.Goals as goal

pub reset-requires-clause-fit : goal.reset-requires-clause-fit
reset-requires-clause-fit c k lt = before_call (λ words. AllFit c.self.inside.circuit (lane k words)) c.self.inside.words _ c.deref_mut.ensures.value (c.self.invariant.lanes k lt).fit

pub returns-clause-of : goal.returns-clause-of
returns-clause-of c = ap (λ (s : Seen). s.of) c.self.view_is

pub returns-clause-edge : goal.returns-clause-edge
returns-clause-edge c k lt =
    lane_edge c.args.self.now c.self.inside.of.now c.self.inside.circuit c.self.inside.sources.items c.self.inside.words.items (with_items c.self.inside.words c.reset.new.words).items true c.self.inside.settled k c.self.view_is c.self.invariant.sound c.self.invariant.sources c.self.invariant.circuit (lane_long k c.self.inside.circuit c.self.inside.words.items c.self.invariant.size) (lane_long k c.self.inside.circuit (with_items c.self.inside.words c.reset.new.words).items (size_after c.self.inside.words _ c.reset.new.words c.reset.auto.words c.deref_mut.ensures.value ∙ c.self.invariant.size))
    (after_call (λ old new. Edge c.self.inside.circuit true (named c.self.inside.circuit (lane k old)) (named c.self.inside.circuit (lane k new))) c.self.inside.words _ c.reset.new.words c.reset.auto.words c.deref_mut.ensures.value (c.reset.ensures.edge k lt))

pub returns-clause-ports : goal.returns-clause-ports
returns-clause-ports c k lt =
    lane_ports c.args.self.now c.self.inside.of.now c.self.inside.circuit c.self.inside.sources.items c.self.inside.words.items (with_items c.self.inside.words c.reset.new.words).items c.self.inside.settled k c.self.view_is c.self.invariant.sound c.self.invariant.sources c.self.invariant.circuit (lane_long k c.self.inside.circuit c.self.inside.words.items c.self.invariant.size) (lane_long k c.self.inside.circuit (with_items c.self.inside.words c.reset.new.words).items (size_after c.self.inside.words _ c.reset.new.words c.reset.auto.words c.deref_mut.ensures.value ∙ c.self.invariant.size))
    (after_call (λ old new. Agree (names_of c.self.inside.circuit.inputs) (named c.self.inside.circuit (lane k old)) (named c.self.inside.circuit (lane k new))) c.self.inside.words _ c.reset.new.words c.reset.auto.words c.deref_mut.ensures.value (c.reset.ensures.ports k lt))

pub invariant_of-self : goal.invariant_of-self
invariant_of-self c = record {
  sound = c.self.invariant.sound;
  sources = c.self.invariant.sources;
  circuit = c.self.invariant.circuit;
  safe = c.self.invariant.safe;
  drives = c.self.invariant.drives;
  size = size_after c.self.inside.words _ c.reset.new.words c.reset.auto.words c.deref_mut.ensures.value ∙ c.self.invariant.size;
  next = size_after c.self.inside.next _ c.reset.new.next c.reset.auto.next c.deref_mut-2.ensures.value ∙ c.self.invariant.next;
  taken = size_call c.self.inside.taken _ c.reset.new.taken c.reset.auto.taken c.deref_mut-3.ensures.value ∙ c.self.invariant.taken;
  moves = c.self.invariant.moves;
  stale = c.reset.ensures.stale ∙ c.self.invariant.stale;
  due = c.reset.ensures.due ∙ c.self.invariant.due;
  lanes = λ k lt. kept_edge c.self.inside.circuit (lane k c.self.inside.words.items) (lane k (with_items c.self.inside.words c.reset.new.words).items) c.reset.new.stale c.reset.new.due c.self.inside.dense c.self.invariant.safe (after_call (λ old new. AllFit c.self.inside.circuit (lane k new)) c.self.inside.words _ c.reset.new.words c.reset.auto.words c.deref_mut.ensures.value (c.reset.ensures.fit k lt)) (c.self.invariant.lanes k lt).zeros (after_call (λ old new. (name : List ℕ) → (Contains (registers_of c.self.inside.circuit.steps) name → ⊥) → named c.self.inside.circuit (lane k new) name ≡ named c.self.inside.circuit (lane k old) name) c.self.inside.words _ c.reset.new.words c.reset.auto.words c.deref_mut.ensures.value (c.reset.ensures.others k lt))
      (λ some. after_call (λ old new. AreHeld c.self.inside.circuit (lane k old) c.self.inside.stale c.self.inside.due → AreHeld c.self.inside.circuit (lane k new) c.reset.new.stale c.reset.new.due) c.self.inside.words _ c.reset.new.words c.reset.auto.words c.deref_mut.ensures.value (c.reset.ensures.held k lt) ((c.self.invariant.lanes k lt).held some));
}
