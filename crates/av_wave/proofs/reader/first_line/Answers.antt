use Rattle.av_wave.proofs.Reading.{first_whole, first_all}
use Rattle.av_wave.proofs.reader.first_line.Goals as goal

pub returns-then-len-text : goal.returns-then-len-text
returns-then-len-text c = first_whole c.args.text.now c.line_len-len.result c.line_len-len.ensures.len c.if-len-text.true

pub returns-else-len-text : goal.returns-else-len-text
returns-else-len-text c = first_all c.args.text.now c.line_len-len.result c.line_len-len.ensures.len c.if-len-text.false
