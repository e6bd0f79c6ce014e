use Rattle.av_vread.proofs.entry.+push_indices.Given as goal

abbrev pub decreases-push_indices : goal.decreases-push_indices
decreases-push_indices l = l.room
