use Rattle.std.proofs.Common.{◌≡◌, map, take}
use Rattle.av_flat.specs.Trees.{view_variable}
use Rattle.av_sched.proofs.Listing.{sizes}
use Rattle.av_array_tests.proofs.sched.placed.dimensions.Given as goal

abbrev pub invariant-loop-var : goal.invariant-loop-var
invariant-loop-var l = l.dims.items ≡ sizes (map view_variable (take l.var-index l.var-items))
