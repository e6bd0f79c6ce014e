use Rattle.av_vread.proofs.rows.wrong_in.Goals as goal

pub wrong_among-requires : goal.wrong_among-requires
wrong_among-requires c = record { wires = c.in_ok-wires.ensures; registers = c.in_ok-registers.ensures }
