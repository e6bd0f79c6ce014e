use Rattle.std.proofs.Common.{◌≡◌, ◌++◌, map}
use Rattle.av_kinds.specs.inner.Gates.{drives_from, ports_from}
use Rattle.av_kinds.specs.inner.Numbered.{wire_in}
use Rattle.av_kinds.proofs.kind.add_gates.Given as goal

abbrev pub invariant-loop-number : goal.invariant-loop-number
invariant-loop-number l = record {
  wires : l.wires ≡ l.initial.wires ++ ports_from (wire_in l.names) 0 (map (λ p. p.1) l.yielded);
  drives : l.drives ≡ l.initial.drives ++ drives_from (wire_in l.names) 0 (map (λ p. p.1) l.yielded);
}
