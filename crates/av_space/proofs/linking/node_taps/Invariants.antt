use Rattle.av_flat.specs.Trees.{view_system}
use Rattle.av_space.specs.inner.Sites.{AreTapsTo}
use Rattle.av_space.proofs.linking.node_taps.Given as goal

abbrev pub invariant-loop-node : goal.invariant-loop-node
invariant-loop-node l = AreTapsTo (view_system l.timed.flat) l.timed.helpers l.node l.sites
