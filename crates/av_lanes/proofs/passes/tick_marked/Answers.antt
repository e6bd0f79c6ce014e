use Rattle.std.proofs.Common.{slice_index_or}
use Rattle.av_net.specs.Meaning.{word_of}
use Rattle.av_clock.specs.Named.{named}
use Rattle.av_clock.proofs.Taking.{due_fit, ports_same, tick_held}
use Rattle.av_lanes.specs.Seen.{lane}
use Rattle.av_lanes.proofs.passes.tick_marked.Goals as goal

pub take_due-count-requires-clause-held : goal.take_due-count-requires-clause-held
take_due-count-requires-clause-held c k lt = (c.requires.held k lt).steps

pub store_taken-requires-clause-fitting : goal.store_taken-requires-clause-fitting
store_taken-requires-clause-fitting c k lt =
    due_fit c.args.circuit.now (lane k c.args.words.now) c.take_due-count.new.taken (lane k c.take_due-count.new.next) c.take_due-count.result c.requires.sound (c.requires.fit k lt) c.take_due-count.ensures.within (c.take_due-count.ensures.taken k lt)

pub returns-clause-edge : goal.returns-clause-edge
returns-clause-edge c k lt =
    let m = c.args.circuit.now in
    λ i d below. c.store_taken.ensures.registers k lt (λ j. word_of (named m (lane k c.args.words.now)) (slice_index_or m.steps j d).next) (c.take_due-count.ensures.taken k lt d) i d below

pub returns-clause-ports : goal.returns-clause-ports
returns-clause-ports c k lt =
    let m = c.args.circuit.now in
    ports_same m (named m (lane k c.args.words.now)) (named m (lane k c.store_taken.new.words)) c.requires.sound (c.store_taken.ensures.others k lt)

pub returns-clause-held : goal.returns-clause-held
returns-clause-held c k lt =
    let m = c.args.circuit.now in
    tick_held m (lane k c.args.words.now) (lane k c.store_taken.new.words) c.args.stale.now c.store_taken.new.stale c.args.due.now c.take_due-count.new.due c.store_taken.new.due c.requires.sound (c.requires.held k lt) (c.store_taken.ensures.same k lt) (c.store_taken.ensures.others k lt)
    (λ i d below. c.store_taken.ensures.registers k lt (λ j. word_of (named m (lane k c.args.words.now)) (slice_index_or m.steps j d).next) (c.take_due-count.ensures.taken k lt d) i d below)
