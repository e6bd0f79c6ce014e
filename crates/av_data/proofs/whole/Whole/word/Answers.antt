use Rattle.std.proofs.Common.{sym, ◌∙◌}
use Rattle.std.proofs.lemmas.Option.{IfSome_then}
use Rattle.av_base.specs.Tokens.{number_of}
use Rattle.av_data.proofs.Entered.{opposite_word}
use Rattle.av_data.proofs.whole.Whole.word.Goals as goal

pub returns-then-self-clause-some : goal.returns-then-self-clause-some
returns-then-self-clause-some c =
    IfSome_then c.opposite.result c.opposite.ensures.some (λ w e.
    let o = opposite_word c.args.width.bits (number_of c.args.self.now.digits.now) c.args.width.least e.0 in
    rw c.if-self.true (o.0, e.1 ∙ sym o.1))
