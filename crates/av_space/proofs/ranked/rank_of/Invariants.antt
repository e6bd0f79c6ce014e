use Rattle.std.proofs.Common.{◌≡◌, ◌<◌, ◌^◌, drop}
use Rattle.av_space.specs.inner.Laying.{rank_from}
use Rattle.av_space.proofs.ranked.rank_of.Given as goal

abbrev pub invariant-loop-k : goal.invariant-loop-k
invariant-loop-k l = record {
  value : rank_from l.rank (drop l.k l.entries) ≡ rank_from 0 l.entries;
  fits : l.rank < 65536 ^ l.k;
}
