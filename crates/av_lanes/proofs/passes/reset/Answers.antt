use Rattle.std.proofs.Common.{slice_index_or}
use Rattle.av_clock.specs.Named.{named}
use Rattle.av_clock.proofs.Taking.{reset_within, reset_due_fit, reset_due, ports_same, reset_held}
use Rattle.av_lanes.specs.Seen.{lane}
use Rattle.av_lanes.proofs.passes.reset.Goals as goal

pub store_taken-requires-clause-within : goal.store_taken-requires-clause-within
store_taken-requires-clause-within c = λ j lt. reset_within c.args.circuit.now c.reset_words.new.taken c.reset_words.ensures.steps j (rw c.steps.ensures at lt)

pub store_taken-requires-clause-fitting : goal.store_taken-requires-clause-fitting
store_taken-requires-clause-fitting c k lt j d below =
    let m = c.args.circuit.now in
    reset_due_fit m (named m (lane k c.args.words.now)) c.reset_words.new.taken (lane k c.reset_words.new.next) c.requires.sound c.reset_words.ensures.steps (c.reset_words.ensures.words k lt) j d (rw c.steps.ensures at below)

pub returns-clause-edge : goal.returns-clause-edge
returns-clause-edge c k lt i d below =
    let m = c.args.circuit.now in
    c.store_taken.ensures.registers k lt (λ j. (slice_index_or m.steps j d).reset)
    (rw c.steps.ensures (reset_due m (named m (lane k c.args.words.now)) c.reset_words.new.taken (lane k c.reset_words.new.next) d c.reset_words.ensures.steps (c.reset_words.ensures.words k lt))) i d below

pub returns-clause-ports : goal.returns-clause-ports
returns-clause-ports c k lt =
    let m = c.args.circuit.now in
    ports_same m (named m (lane k c.args.words.now)) (named m (lane k c.store_taken.new.words)) c.requires.sound (c.store_taken.ensures.others k lt)

pub returns-clause-held : goal.returns-clause-held
returns-clause-held c k lt =
    reset_held c.args.circuit.now (lane k c.args.words.now) (lane k c.store_taken.new.words) c.args.stale.now c.store_taken.new.stale c.args.due.now c.store_taken.new.due _ _ c.requires.sound (c.store_taken.ensures.same k lt) (c.store_taken.ensures.others k lt) c.fill.ensures
