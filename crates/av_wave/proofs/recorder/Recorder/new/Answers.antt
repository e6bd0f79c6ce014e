use Rattle.av_wave.proofs.Kept.{kept_first}
use Rattle.av_wave.proofs.recorder.Recorder.new.Goals as goal

pub invariant_of-result : goal.invariant_of-result
invariant_of-result c =
    kept_first c.args.name c.args.ports c.in_ok-words.words c.len.result c.new.result c.requires.named c.requires.ports_named c.requires.apart c.in_ok-words.ensures.zeros c.in_ok-words.ensures.count c.len.ensures.count c.new.ensures

pub returns-clause-part : goal.returns-clause-part
returns-clause-part c =
    (kept_first c.args.name c.args.ports c.in_ok-words.words c.len.result c.new.result c.requires.named c.requires.ports_named c.requires.apart c.in_ok-words.ensures.zeros c.in_ok-words.ensures.count c.len.ensures.count c.new.ensures).part
