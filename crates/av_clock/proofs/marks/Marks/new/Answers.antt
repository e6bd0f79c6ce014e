use Rattle.std.proofs.Common.{List, ℕ, ◌∙◌, ap}
use Rattle.av_clock.specs.Bits.{marks_from}
use Rattle.av_clock.proofs.Bits.{new_bits}
use Rattle.av_clock.proofs.marks.Marks.new.Goals as goal

pub returns : goal.returns
returns c = ap (λ (words : List ℕ). marks_from words 0 c.args.count) (c.in_ok-words.ensures.items_if_clones_equal (λ y same. same)) ∙ new_bits c.args.count
