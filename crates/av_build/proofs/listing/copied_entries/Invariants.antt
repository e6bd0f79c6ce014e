use Rattle.std.proofs.Common.{◌≡◌, take}
use Rattle.av_build.proofs.listing.copied_entries.Given as goal

abbrev pub invariant-loop-entry : goal.invariant-loop-entry
invariant-loop-entry l = l.own ≡ take l.entry-index l.entries
