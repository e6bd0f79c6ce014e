use Rattle.std.proofs.Common.{◌∙◌, refl}
use Rattle.av_cli.proofs.OptionWords.{bare_two}
use Rattle.av_cli.proofs.words.is_bare.Goals as goal

pub returns-then-words-eq2 : goal.returns-then-words-eq2
returns-then-words-eq2 c = bare_two c.args.words.now c.index-words-1.result c.eq.result c.if-words-eq2.true c.index-words-1.is (c.eq.ensures ∙ rw c.as_str.ensures refl)
