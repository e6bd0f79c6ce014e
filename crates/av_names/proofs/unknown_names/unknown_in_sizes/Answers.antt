use Rattle.av_names.proofs.unknown_names.unknown_in_sizes.Goals as goal

pub returns : goal.returns
returns c = rw (c.new-nothing.ensures, c.as_slice.ensures) at c.unknown_in_constraints.ensures
