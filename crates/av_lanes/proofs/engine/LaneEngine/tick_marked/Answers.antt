use Rattle.std.proofs.Common.{◌≡◌, ℕ, List, ap, ◌∙◌, true, false}
use Rattle.std.specs.Prelude.{Contains}
use Rattle.std.specs.Vec.{with_items}
use Rattle.av_net.specs.Names.{names_of, registers_of}
use Rattle.av_net.specs.Settled.{Agree}
use Rattle.av_net.specs.Clocked.{Edge}
use Rattle.av_clock.specs.Marked.{AreHeld}
use Rattle.av_clock.specs.Named.{named, AllFit}
use Rattle.av_clock.proofs.Views.{anew_held, anew_size, size_call}
use Rattle.av_lanes.specs.Seen.{Seen, lane}
use Rattle.av_lanes.proofs.LanePasses.{lane_long}
use Rattle.av_lanes.proofs.LaneStates.{size_after, after_call, before_call, lane_ports, lane_edge, kept_edge}
use Rattle.av_lanes.proofs.engine.LaneEngine.tick_marked.Goals as goal

pub tick_marked-requires-clause-fit : goal.tick_marked-requires-clause-fit
tick_marked-requires-clause-fit c k lt = before_call (λ words. AllFit c.self.inside.circuit (lane k words)) c.self.inside.words _ c.deref_mut.ensures.value (c.self.invariant.lanes k lt).fit

pub tick_marked-requires-clause-held : goal.tick_marked-requires-clause-held
tick_marked-requires-clause-held c k lt =
    before_call (λ words. AreHeld c.self.inside.circuit (lane k words) c.mark_anew.new.stale c.mark_anew.new.due) c.self.inside.words _ c.deref_mut.ensures.value
    (anew_held c.self.inside.circuit (lane k c.self.inside.words.items) c.self.inside.dense c.self.inside.stale c.mark_anew.new.stale c.self.inside.due c.mark_anew.new.due c.mark_anew.ensures.dense c.mark_anew.ensures.kept (c.self.invariant.lanes k lt).held
    ((c.self.invariant.lanes k lt).settled_words (ap (λ (s : Seen). s.settled) c.self.view_is ∙ c.requires)))

pub tick_marked-requires-clause-stale : goal.tick_marked-requires-clause-stale
tick_marked-requires-clause-stale c = anew_size c.self.inside.dense false c.self.inside.stale c.mark_anew.new.stale (λ t. (c.mark_anew.ensures.dense t).0) (λ f. (c.mark_anew.ensures.kept f).0) ∙ c.self.invariant.stale

pub tick_marked-requires-clause-due : goal.tick_marked-requires-clause-due
tick_marked-requires-clause-due c = anew_size c.self.inside.dense true c.self.inside.due c.mark_anew.new.due (λ t. (c.mark_anew.ensures.dense t).1) (λ f. (c.mark_anew.ensures.kept f).1) ∙ c.self.invariant.due

pub returns-clause-of : goal.returns-clause-of
returns-clause-of c = ap (λ (s : Seen). s.of) c.self.view_is

pub returns-clause-edge : goal.returns-clause-edge
returns-clause-edge c k lt =
    lane_edge c.args.self.now c.self.inside.of.now c.self.inside.circuit c.self.inside.sources.items c.self.inside.words.items (with_items c.self.inside.words c.tick_marked.new.words).items false c.self.inside.settled k c.self.view_is c.self.invariant.sound c.self.invariant.sources c.self.invariant.circuit (lane_long k c.self.inside.circuit c.self.inside.words.items c.self.invariant.size) (lane_long k c.self.inside.circuit (with_items c.self.inside.words c.tick_marked.new.words).items (size_after c.self.inside.words _ c.tick_marked.new.words c.tick_marked.auto.words c.deref_mut.ensures.value ∙ c.self.invariant.size))
    (after_call (λ old new. Edge c.self.inside.circuit false (named c.self.inside.circuit (lane k old)) (named c.self.inside.circuit (lane k new))) c.self.inside.words _ c.tick_marked.new.words c.tick_marked.auto.words c.deref_mut.ensures.value (c.tick_marked.ensures.edge k lt))

pub returns-clause-ports : goal.returns-clause-ports
returns-clause-ports c k lt =
    lane_ports c.args.self.now c.self.inside.of.now c.self.inside.circuit c.self.inside.sources.items c.self.inside.words.items (with_items c.self.inside.words c.tick_marked.new.words).items c.self.inside.settled k c.self.view_is c.self.invariant.sound c.self.invariant.sources c.self.invariant.circuit (lane_long k c.self.inside.circuit c.self.inside.words.items c.self.invariant.size) (lane_long k c.self.inside.circuit (with_items c.self.inside.words c.tick_marked.new.words).items (size_after c.self.inside.words _ c.tick_marked.new.words c.tick_marked.auto.words c.deref_mut.ensures.value ∙ c.self.invariant.size))
    (after_call (λ old new. Agree (names_of c.self.inside.circuit.inputs) (named c.self.inside.circuit (lane k old)) (named c.self.inside.circuit (lane k new))) c.self.inside.words _ c.tick_marked.new.words c.tick_marked.auto.words c.deref_mut.ensures.value (c.tick_marked.ensures.ports k lt))

pub invariant_of-self : goal.invariant_of-self
invariant_of-self c = record {
  sound = c.self.invariant.sound;
  sources = c.self.invariant.sources;
  circuit = c.self.invariant.circuit;
  safe = c.self.invariant.safe;
  drives = c.self.invariant.drives;
  size = size_after c.self.inside.words _ c.tick_marked.new.words c.tick_marked.auto.words c.deref_mut.ensures.value ∙ c.self.invariant.size;
  next = size_after c.self.inside.next _ c.tick_marked.new.next c.tick_marked.auto.next c.deref_mut-2.ensures.value ∙ c.self.invariant.next;
  taken = size_call c.self.inside.taken _ c.tick_marked.new.taken c.tick_marked.auto.taken c.deref_mut-3.ensures.value ∙ c.self.invariant.taken;
  moves = c.self.invariant.moves;
  stale = c.tick_marked.ensures.stale ∙ anew_size c.self.inside.dense false c.self.inside.stale c.mark_anew.new.stale (λ t. (c.mark_anew.ensures.dense t).0) (λ f. (c.mark_anew.ensures.kept f).0) ∙ c.self.invariant.stale;
  due = c.tick_marked.ensures.due ∙ anew_size c.self.inside.dense true c.self.inside.due c.mark_anew.new.due (λ t. (c.mark_anew.ensures.dense t).1) (λ f. (c.mark_anew.ensures.kept f).1) ∙ c.self.invariant.due;
  lanes = λ k lt. kept_edge c.self.inside.circuit (lane k c.self.inside.words.items) (lane k (with_items c.self.inside.words c.tick_marked.new.words).items) c.tick_marked.new.stale c.tick_marked.new.due false c.self.invariant.safe (after_call (λ old new. AllFit c.self.inside.circuit (lane k new)) c.self.inside.words _ c.tick_marked.new.words c.tick_marked.auto.words c.deref_mut.ensures.value (c.tick_marked.ensures.fit k lt)) (c.self.invariant.lanes k lt).zeros (after_call (λ old new. (name : List ℕ) → (Contains (registers_of c.self.inside.circuit.steps) name → ⊥) → named c.self.inside.circuit (lane k new) name ≡ named c.self.inside.circuit (lane k old) name) c.self.inside.words _ c.tick_marked.new.words c.tick_marked.auto.words c.deref_mut.ensures.value (c.tick_marked.ensures.others k lt)) (λ some. (after_call (λ old new. AreHeld c.self.inside.circuit (lane k new) c.tick_marked.new.stale c.tick_marked.new.due) c.self.inside.words _ c.tick_marked.new.words c.tick_marked.auto.words c.deref_mut.ensures.value (c.tick_marked.ensures.held k lt)));
}
