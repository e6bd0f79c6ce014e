use Rattle.std.proofs.Common.{◌==◌, ap, false}
use Rattle.av_clock.proofs.Bits.{word_there, read_word, seen_written}
use Rattle.av_clock.proofs.marks.Marks.clear.Goals as goal

pub index-word-requires : goal.index-word-requires
index-word-requires c = word_there c.self.inside.words c.self.inside.count c.args.index c.args.self.now c.self.view_is c.self.invariant c.requires

pub index_mut-requires : goal.index_mut-requires
index_mut-requires c = word_there c.self.inside.words c.self.inside.count c.args.index c.args.self.now c.self.view_is c.self.invariant c.requires

pub returns : goal.returns
returns c =
    seen_written c.self.inside.words.items c.self.inside.count c.args.index c.index-word.result.now c.without_bit.result false c.args.self.now c.self.view_is c.self.invariant c.requires (read_word c.self.inside.words c.self.inside.count c.args.index c.index-word.result.now c.args.self.now c.self.view_is c.self.invariant c.requires c.index-word.ensures)
    (ap (λ b. b == 1) c.without_bit.ensures.clear) c.without_bit.ensures.others
