use Rattle.av_flat.specs.Trees.{view_system}
use Rattle.av_data.specs.inner.ReadData.{AreWhole}
use Rattle.av_data.proofs.missing.first_missing.Given as goal

abbrev pub invariant-loop-place : goal.invariant-loop-place
invariant-loop-place l = AreWhole (view_system l.flat) l.words l.place
