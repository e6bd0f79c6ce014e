use Rattle.std.proofs.Common.{◌≡◌, map, take, length}
use Rattle.av_flat.specs.Trees.{view_system}
use Rattle.av_best.specs.Lengths.{linear_parts}
use Rattle.av_best.specs.inner.Spans.{AreSpanned}
use Rattle.av_best.proofs.measuring.length_of.Given as goal

abbrev pub invariant-loop-k : goal.invariant-loop-k
invariant-loop-k l = record {
  offsets : l.offsets.items ≡ map (λ t. t.offset) (take l.k l.times);
  many : length l.spans.items ≡ l.k;
  spanned : AreSpanned (view_system l.fn.timed.flat) l.k (linear_parts l.fn.timed.times) l.spans.items;
}
