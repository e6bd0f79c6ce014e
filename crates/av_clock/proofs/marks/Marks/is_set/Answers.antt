use Rattle.av_clock.proofs.Bits.{word_there, seen_set, seen_clear, bit_cases, read_word}
use Rattle.av_clock.proofs.marks.Marks.is_set.Goals as goal

pub index-requires : goal.index-requires
index-requires c = word_there c.self.inside.words c.self.inside.count c.args.index c.args.self.now c.self.view_is c.self.invariant c.requires

pub returns-clause-set : goal.returns-clause-set
returns-clause-set c = λ set. seen_set c.self.inside.words.items c.self.inside.count c.args.index c.index.result.now c.args.self.now c.self.view_is c.requires
    (read_word c.self.inside.words c.self.inside.count c.args.index c.index.result.now c.args.self.now c.self.view_is c.self.invariant c.requires c.index.ensures) (c.has_bit.ensures.0 set)

pub returns-clause-clear : goal.returns-clause-clear
returns-clause-clear c = λ clear. seen_clear c.self.inside.words.items c.self.inside.count c.args.index c.index.result.now c.args.self.now c.self.view_is c.requires
    (read_word c.self.inside.words c.self.inside.count c.args.index c.index.result.now c.args.self.now c.self.view_is c.self.invariant c.requires c.index.ensures) (bit_cases c.index.result.now _ c.has_bit.result c.has_bit.ensures clear)
