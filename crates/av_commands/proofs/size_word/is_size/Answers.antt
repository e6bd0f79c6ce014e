use Rattle.std.proofs.Common.{sym}
use Rattle.av_base.proofs.Spelled.{name_is}
use Rattle.av_commands.proofs.SizeWords.{size_by, no_size_by}
use Rattle.av_commands.proofs.size_word.is_size.Goals as goal

pub returns-then-is_name : goal.returns-then-is_name
returns-then-is_name c = size_by c.args.word.now c.word_len-len.result c.is_given.result c.word_len-len.ensures.len (name_is _ (sym c.if-is_name.ensures)) c.is_given.ensures

pub returns-else-is_name : goal.returns-else-is_name
returns-else-is_name c = no_size_by c.args.word.now c.word_len-len.result c.is_name.result c.word_len-len.ensures.len c.if-is_name.false c.is_name.ensures
