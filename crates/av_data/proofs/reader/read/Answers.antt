use Rattle.av_data.proofs.reader.read.Goals as goal

pub returns : goal.returns
returns c = rw c.in_ok-inputs.ensures at c.read_lines.ensures
