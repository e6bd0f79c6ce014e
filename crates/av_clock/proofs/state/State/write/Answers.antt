use Rattle.std.proofs.Common.{◌∙◌, arith}
use Rattle.std.proofs.lemmas.Grind.{get_or_default_zero, common_steps}
use Rattle.av_clock.proofs.Held.{written_read, written_fit}
use Rattle.av_clock.proofs.Touched.{written_touched}
use Rattle.av_clock.proofs.state.State.write.Goals as goal

pub invariant_of-self-clause-fit : goal.invariant_of-self-clause-fit
invariant_of-self-clause-fit c =
    let s = c.args.self.now in
    written_fit s.circuit s.words.items c.args.place c.args.word c.is_sound.ensures s.size c.requires.place c.requires.fits s.fit

pub returns-then-index-word-clause-same : goal.returns-then-index-word-clause-same
returns-then-index-word-clause-same c =
    let s = c.args.self.now in
    written_read s.circuit s.words.items c.args.place c.args.word s.stale c.mark_readers.new.stale s.due c.mark_readers.new.due c.is_sound.ensures s.size c.requires.place
    c.mark_readers.ensures.drives c.mark_readers.ensures.steps

pub returns-then-index-word-clause-touched : goal.returns-then-index-word-clause-touched
returns-then-index-word-clause-touched c =
    let s = c.args.self.now in
    written_touched s.circuit s.words.items c.args.place c.args.word s.stale c.mark_readers.new.stale c.is_sound.ensures s.size c.requires.place
    (λ e. c.if-index-word.true (c.index.ensures ∙ get_or_default_zero s.words.items c.args.place c.index.result.now c.requires.place ∙ e)) c.mark_readers.ensures.others

pub invariant_of-self-clause-size : goal.invariant_of-self-clause-size
invariant_of-self-clause-size c = grind (arith, common_steps)
