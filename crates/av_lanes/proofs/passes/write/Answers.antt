use Rattle.std.proofs.Common.{sym, subst, ◌∙◌}
use Rattle.av_clock.specs.Marking.{ReadTheSame}
use Rattle.av_clock.proofs.Held.{written_read, written_same, same_read}
use Rattle.av_lanes.specs.Seen.{lane}
use Rattle.av_lanes.proofs.ByLane.{lane_set, lane_in}
use Rattle.av_lanes.proofs.LanePasses.{lane_long, lane_within}
use Rattle.av_lanes.proofs.passes.write.Goals as goal

pub returns-then-differ-clause-words : goal.returns-then-differ-clause-words
returns-then-differ-clause-words c k lt = lane_set k c.args.words.now c.args.place c.args.word

pub returns-then-differ-clause-same : goal.returns-then-differ-clause-same
returns-then-differ-clause-same c k lt =
    let m = c.args.circuit.now in
    subst (λ ws. ReadTheSame m (lane k c.args.words.now) ws c.args.stale.now c.mark_readers.new.stale c.args.due.now c.mark_readers.new.due) (sym (lane_set k c.args.words.now c.args.place c.args.word))
    (written_read m (lane k c.args.words.now) c.args.place _ c.args.stale.now c.mark_readers.new.stale c.args.due.now c.mark_readers.new.due c.requires.sound (lane_long k m c.args.words.now c.requires.size) (lane_within k c.args.words.now c.args.place c.requires.place)
    c.mark_readers.ensures.drives c.mark_readers.ensures.steps)

pub returns-else-differ-clause-words : goal.returns-else-differ-clause-words
returns-else-differ-clause-words c k lt =
    sym (written_same (lane k c.args.words.now) c.args.place _ (sym (lane_in k c.args.words.now c.args.place _ c.requires.place ∙ c.differ.ensures c.if-differ.false k lt)))

pub returns-else-differ-clause-same : goal.returns-else-differ-clause-same
returns-else-differ-clause-same c k lt = same_read c.args.circuit.now (lane k c.args.words.now) c.args.stale.now c.args.due.now
