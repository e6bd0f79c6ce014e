use Rattle.av_names.proofs.unknown_names.unknown_index.Goals as goal

pub unknown_index_among-requires-clause-sizes : goal.unknown_index_among-requires-clause-sizes
unknown_index_among-requires-clause-sizes c = rw c.as_slice.ensures at c.in_ok-sizes.ensures
