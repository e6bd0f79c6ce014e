use Rattle.std.proofs.Common.{◌≡◌, ◌++◌, length}
use Rattle.std.specs.Vec.Iter.{into_iter_items, into_iter_len}
use Rattle.av_serial.proofs.with_chains.append.Given as goal

-- those so far and those to come are all
abbrev pub invariant-loop-var : goal.invariant-loop-var
invariant-loop-var l = record {
  all : l.vars ++ into_iter_items l.var-iterator ≡ l.initial.vars ++ l.fn.more;
  left : into_iter_len l.var-iterator ≡ length (into_iter_items l.var-iterator);
}
