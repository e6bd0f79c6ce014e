use Rattle.std.proofs.Common.{◌∙◌, sym, ap, length}
use Rattle.av_clock.proofs.Bits.{marks_size}
use Rattle.av_clock.proofs.marks.Marks.len.Goals as goal

pub returns : goal.returns
returns c = sym (marks_size c.self.inside.words.items 0 c.self.inside.count) ∙ ap length c.self.view_is
