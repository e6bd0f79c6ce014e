use Rattle.std.proofs.Common.{length, subst}
use Rattle.av_net.specs.declared.operation.Operand.{Operand}
use Rattle.av_kinds.specs.inner.Numbered.{wire_in}
use Rattle.av_kinds.specs.inner.Added.{AddsBuilt, choice_built}
use Rattle.av_kinds.proofs.Added.{if_ok_map}
use Rattle.av_kinds.proofs.selection.in_guard.Goals as goal

pub returns : goal.returns
returns c =
    let between = c.named.new.gates.items in
    let second = c.in_ok-second.second in
    if_ok_map _ _ (λ choice is. record {
      between = between;
      second = second;
      on_wire = c.in_ok-second.ensures;
      chosen = subst (λ (x : Operand). AddsBuilt between c.either.new.gates.items (choice_built (wire_in c.args.names) (length between) c.args.counter.now c.args.guard.now x second) choice) c.in_ok-first.ensures is;
    }) c.either.result c.either.ensures
