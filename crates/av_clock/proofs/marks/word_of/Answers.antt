use Rattle.std.proofs.Common.{◌==◌, ◌∙◌, ap, sym}
use Rattle.std.proofs.lemmas.Nat.Bits.{bit_at_ones}
use Rattle.av_clock.proofs.marks.word_of.Goals as goal

pub returns-then-mark : goal.returns-then-mark
returns-then-mark c = λ bit lt. ap (λ b. b == 1) (bit_at_ones 64 bit lt) ∙ sym c.if-mark.true
