use Rattle.std.proofs.Common.{◌≡◌, ap, ◌∙◌, true, false}
use Rattle.std.specs.Vec.{with_items}
use Rattle.av_net.specs.Names.{given_names}
use Rattle.av_net.specs.Settled.{Settled, Agree}
use Rattle.av_clock.specs.Kept.{AreZero}
use Rattle.av_clock.specs.Named.{named, AllFit}
use Rattle.av_lanes.specs.Seen.{Seen, lane}
use Rattle.av_lanes.proofs.LanePasses.{lane_long}
use Rattle.av_lanes.proofs.LaneStates.{size_after, after_call, before_call, lane_settled, lane_given, kept_settled}
use Rattle.av_lanes.proofs.engine.LaneEngine.settle_all.Goals as goal

pub settle-requires-clause-fit : goal.settle-requires-clause-fit
settle-requires-clause-fit c k lt = before_call (λ words. AllFit c.self.inside.circuit (lane k words)) c.self.inside.words _ c.deref_mut.ensures.value (c.self.invariant.lanes k lt).fit

pub settle-requires-clause-zeros : goal.settle-requires-clause-zeros
settle-requires-clause-zeros c k lt = before_call (λ words. AreZero c.self.inside.circuit (lane k words)) c.self.inside.words _ c.deref_mut.ensures.value (c.self.invariant.lanes k lt).zeros

pub returns-clause-of : goal.returns-clause-of
returns-clause-of c = ap (λ (s : Seen). s.of) c.self.view_is

pub returns-clause-settled : goal.returns-clause-settled
returns-clause-settled c k lt =
    lane_settled c.self.inside.of.now c.self.inside.circuit c.self.inside.sources.items (with_items c.self.inside.words c.settle.new.words).items k c.self.invariant.sound c.self.invariant.sources c.self.invariant.circuit (lane_long k c.self.inside.circuit (with_items c.self.inside.words c.settle.new.words).items (size_after c.self.inside.words _ c.settle.new.words c.settle.auto.words c.deref_mut.ensures.value ∙ c.self.invariant.size))
    (after_call (λ old new. Settled c.self.inside.circuit (named c.self.inside.circuit (lane k new))) c.self.inside.words _ c.settle.new.words c.settle.auto.words c.deref_mut.ensures.value (c.settle.ensures.settled k lt))

pub returns-clause-given : goal.returns-clause-given
returns-clause-given c k lt =
    lane_given c.args.self.now c.self.inside.of.now c.self.inside.circuit c.self.inside.sources.items c.self.inside.words.items (with_items c.self.inside.words c.settle.new.words).items c.self.inside.settled k c.self.view_is c.self.invariant.sound c.self.invariant.sources c.self.invariant.circuit (lane_long k c.self.inside.circuit c.self.inside.words.items c.self.invariant.size) (lane_long k c.self.inside.circuit (with_items c.self.inside.words c.settle.new.words).items (size_after c.self.inside.words _ c.settle.new.words c.settle.auto.words c.deref_mut.ensures.value ∙ c.self.invariant.size))
    (after_call (λ old new. Agree (given_names c.self.inside.circuit) (named c.self.inside.circuit (lane k old)) (named c.self.inside.circuit (lane k new))) c.self.inside.words _ c.settle.new.words c.settle.auto.words c.deref_mut.ensures.value (c.settle.ensures.given k lt))

pub invariant_of-self : goal.invariant_of-self
invariant_of-self c = record {
  sound = c.self.invariant.sound;
  sources = c.self.invariant.sources;
  circuit = c.self.invariant.circuit;
  safe = c.self.invariant.safe;
  drives = c.self.invariant.drives;
  size = size_after c.self.inside.words _ c.settle.new.words c.settle.auto.words c.deref_mut.ensures.value ∙ c.self.invariant.size;
  next = c.self.invariant.next;
  taken = c.self.invariant.taken;
  moves = c.self.invariant.moves;
  stale = c.self.invariant.stale;
  due = c.self.invariant.due;
  lanes = λ k lt. kept_settled c.self.inside.circuit (lane k (with_items c.self.inside.words c.settle.new.words).items) c.self.inside.stale c.self.inside.due true (after_call (λ old new. AllFit c.self.inside.circuit (lane k new)) c.self.inside.words _ c.settle.new.words c.settle.auto.words c.deref_mut.ensures.value (c.settle.ensures.fit k lt)) (after_call (λ old new. Settled c.self.inside.circuit (named c.self.inside.circuit (lane k new))) c.self.inside.words _ c.settle.new.words c.settle.auto.words c.deref_mut.ensures.value (c.settle.ensures.settled k lt)) (λ some. absurd (let e : true ≡ false = some in cc));
}
