use Rattle.std.proofs.Common.{subst}
use Rattle.av_base.specs.declared.width.Width.{Width}
use Rattle.av_kinds.specs.inner.Gates.{named_by}
use Rattle.av_kinds.specs.inner.Numbered.{wire_in}
use Rattle.av_kinds.specs.inner.Added.{AddsNamed}
use Rattle.av_kinds.proofs.Steps.{test_added}
use Rattle.av_kinds.proofs.selection.either.Goals as goal

pub returns : goal.returns
returns c =
    let name = wire_in c.args.names in
    let k = subst (λ (w : Width). AddsNamed c.named.new.gates.items (named_by name 0 w c.guard_test.new.gates.items c.in_ok-test.test) c.in_ok-condition.condition) c.bit.ensures c.in_ok-condition.ensures in
    test_added name c.args.counter.now c.args.gates.now.items c.guard_test.new.gates.items c.named.new.gates.items c.args.guard.now c.in_ok-test.test c.in_ok-condition.condition c.args.first c.args.second c.in_ok-test.ensures k
