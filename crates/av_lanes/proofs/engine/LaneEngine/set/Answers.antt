use Rattle.std.proofs.Common.{◌≡◌, get_or, set, ap, sym, ◌∙◌}
use Rattle.std.specs.Vec.{with_items}
use Rattle.av_clock.specs.Marking.{ReadTheSame}
use Rattle.av_lanes.specs.Seen.{Seen, lane}
use Rattle.av_lanes.specs.inner.Engine.{at_sources}
use Rattle.av_lanes.proofs.LanePasses.{lane_long}
use Rattle.av_lanes.proofs.LaneStates.{size_after, after_call, port_within, port_place, value_fits, lane_set_words, set_port_lanes, set_others_lanes, seen_long, kept_set}
use Rattle.av_lanes.proofs.engine.LaneEngine.set.Goals as goal

pub present-requires-clause-place : goal.present-requires-clause-place
present-requires-clause-place c =
    port_place c.self.inside.circuit c.self.inside.words _ c.args.port c.deref_mut.ensures.value c.self.invariant.size
    (port_within c.args.self.now c.self.inside.of.now c.self.inside.circuit c.self.inside.sources.items c.self.inside.words.items c.self.inside.settled c.args.port c.self.view_is c.self.invariant.circuit c.requires.port)

pub returns-clause-of : goal.returns-clause-of
returns-clause-of c = ap (λ (s : Seen). s.of) c.self.view_is

pub returns-clause-words : goal.returns-clause-words
returns-clause-words c k lt =
    lane_set_words c.args.self.now c.self.inside.of.now c.self.inside.circuit c.self.inside.sources.items c.self.inside.words.items (with_items c.self.inside.words c.present.new.words).items c.self.inside.settled k c.args.port (get_or c.args.values k 0) c.self.view_is c.self.invariant.sound c.self.invariant.sources c.self.invariant.circuit (lane_long k c.self.inside.circuit c.self.inside.words.items c.self.invariant.size) c.requires.port
    (after_call (λ old new. lane k new ≡ set (lane k old) c.args.port (get_or c.args.values k 0)) c.self.inside.words _ c.present.new.words c.present.auto.words c.deref_mut.ensures.value (c.present.ensures.words k lt))

pub returns-clause-port : goal.returns-clause-port
returns-clause-port c =
    set_port_lanes c.args.self.now c.self.inside.of.now (at_sources c.self.inside.sources.items (with_items c.self.inside.words c.present.new.words).items) c.args.port c.args.values (sym (ap (λ (s : Seen). s.of) c.self.view_is)) c.self.invariant.sound
    (λ k lt. seen_long c.args.self.now c.self.inside.of.now c.self.inside.circuit c.self.inside.sources.items c.self.inside.words.items c.self.inside.settled c.self.view_is c.self.invariant.sources k) (λ k lt.
    lane_set_words c.args.self.now c.self.inside.of.now c.self.inside.circuit c.self.inside.sources.items c.self.inside.words.items (with_items c.self.inside.words c.present.new.words).items c.self.inside.settled k c.args.port (get_or c.args.values k 0) c.self.view_is c.self.invariant.sound c.self.invariant.sources c.self.invariant.circuit (lane_long k c.self.inside.circuit c.self.inside.words.items c.self.invariant.size) c.requires.port
    (after_call (λ old new. lane k new ≡ set (lane k old) c.args.port (get_or c.args.values k 0)) c.self.inside.words _ c.present.new.words c.present.auto.words c.deref_mut.ensures.value (c.present.ensures.words k lt)))

pub returns-clause-others : goal.returns-clause-others
returns-clause-others c =
    set_others_lanes c.args.self.now c.self.inside.of.now (at_sources c.self.inside.sources.items (with_items c.self.inside.words c.present.new.words).items) c.args.port c.args.values (sym (ap (λ (s : Seen). s.of) c.self.view_is)) c.self.invariant.sound
    (λ k lt. seen_long c.args.self.now c.self.inside.of.now c.self.inside.circuit c.self.inside.sources.items c.self.inside.words.items c.self.inside.settled c.self.view_is c.self.invariant.sources k) (λ k lt.
    lane_set_words c.args.self.now c.self.inside.of.now c.self.inside.circuit c.self.inside.sources.items c.self.inside.words.items (with_items c.self.inside.words c.present.new.words).items c.self.inside.settled k c.args.port (get_or c.args.values k 0) c.self.view_is c.self.invariant.sound c.self.invariant.sources c.self.invariant.circuit (lane_long k c.self.inside.circuit c.self.inside.words.items c.self.invariant.size) c.requires.port
    (after_call (λ old new. lane k new ≡ set (lane k old) c.args.port (get_or c.args.values k 0)) c.self.inside.words _ c.present.new.words c.present.auto.words c.deref_mut.ensures.value (c.present.ensures.words k lt)))

pub invariant_of-self : goal.invariant_of-self
invariant_of-self c = record {
  sound = c.self.invariant.sound;
  sources = c.self.invariant.sources;
  circuit = c.self.invariant.circuit;
  safe = c.self.invariant.safe;
  drives = c.self.invariant.drives;
  size = size_after c.self.inside.words _ c.present.new.words c.present.auto.words c.deref_mut.ensures.value ∙ c.self.invariant.size;
  next = c.self.invariant.next;
  taken = c.self.invariant.taken;
  moves = c.self.invariant.moves;
  stale = c.present.ensures.stale ∙ c.self.invariant.stale;
  due = c.present.ensures.due ∙ c.self.invariant.due;
  lanes = λ k lt. kept_set c.self.inside.circuit (lane k c.self.inside.words.items) (lane k (with_items c.self.inside.words c.present.new.words).items) c.self.inside.stale c.present.new.stale c.self.inside.due c.present.new.due c.self.inside.dense c.self.inside.settled c.args.port (get_or c.args.values k 0) c.self.invariant.safe (lane_long k c.self.inside.circuit c.self.inside.words.items c.self.invariant.size) (c.self.invariant.lanes k lt) (port_within c.args.self.now c.self.inside.of.now c.self.inside.circuit c.self.inside.sources.items c.self.inside.words.items c.self.inside.settled c.args.port c.self.view_is c.self.invariant.circuit c.requires.port)
      (value_fits c.args.self.now c.self.inside.of.now c.self.inside.circuit c.self.inside.sources.items c.self.inside.words.items c.self.inside.settled c.args.port c.args.values c.self.view_is c.self.invariant.circuit c.fits-values.0 c.requires.fits k lt) (after_call (λ old new. lane k new ≡ set (lane k old) c.args.port (get_or c.args.values k 0)) c.self.inside.words _ c.present.new.words c.present.auto.words c.deref_mut.ensures.value (c.present.ensures.words k lt))
      (λ some. after_call (λ old new. ReadTheSame c.self.inside.circuit (lane k old) (lane k new) c.self.inside.stale c.present.new.stale c.self.inside.due c.present.new.due) c.self.inside.words _ c.present.new.words c.present.auto.words c.deref_mut.ensures.value (c.present.ensures.same some k lt));
}
