use Rattle.av_names.proofs.repetitions.repeated.Goals as goal

pub repeated_among-requires-clause-sizes : goal.repeated_among-requires-clause-sizes
repeated_among-requires-clause-sizes c = rw c.as_slice.ensures at c.in_ok-sizes.ensures
