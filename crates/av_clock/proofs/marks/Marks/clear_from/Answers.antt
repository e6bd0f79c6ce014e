use Rattle.av_clock.proofs.Bits.{word_there, read_word, some_step, seen_passed}
use Rattle.av_clock.proofs.marks.Marks.clear_from.Goals as goal

pub index-requires : goal.index-requires
index-requires c = word_there c.self.inside.words c.self.inside.count c.args.index c.args.self.now c.self.view_is c.self.invariant c.requires.place

pub returns-clause-some : goal.returns-clause-some
returns-clause-some c =
    some_step c.self.inside.words.items c.self.inside.count c.args.index c.index.result.now c.next_bit.result c.args.self.now c.self.view_is c.requires.place (read_word c.self.inside.words c.self.inside.count c.args.index c.index.result.now c.args.self.now c.self.view_is c.self.invariant c.requires.place c.index.ensures) c.requires.clear c.next_bit.ensures.later c.next_bit.ensures.set

pub returns-clause-clear : goal.returns-clause-clear
returns-clause-clear c =
    seen_passed c.self.inside.words.items c.self.inside.count c.args.index c.index.result.now c.next_bit.result c.args.self.now c.self.view_is c.requires.place (read_word c.self.inside.words c.self.inside.count c.args.index c.index.result.now c.args.self.now c.self.view_is c.self.invariant c.requires.place c.index.ensures) c.next_bit.ensures.most c.next_bit.ensures.clear
