use Rattle.std.proofs.lemmas.Iterator.Adapters.{YieldsList-from_vec}
use Rattle.std.proofs.lemmas.Iterator.Consumers.{YieldsList-from_enumerate, YieldsList-turn}
use Rattle.std.proofs.Common.{◌≡◌, length, refl}
use Rattle.av_kinds.specs.inner.Numbered.{wire_in}
use Rattle.av_kinds.proofs.Placing.{number_is, next_port, next_gate}
use Rattle.av_kinds.proofs.kind.add_gates.Goals as goal

pub loop-number-preserved : goal.loop-number-preserved
loop-number-preserved c =
    let name = wire_in c.args.names in
    let seen = c.loop-number.yielded in
    let n = c.in-Some.number in
    let g = c.in-Some.gate in
    let turn = YieldsList-turn (YieldsList-from_enumerate {s = c.into_iter-number-iterator.result} (YieldsList-from_vec c.args.gates.items (cc) (cc (c.args.gates.ok.0))) (cc)) c.loop-number.yielded c.loop-number.number-iterator c.loop-number.yielded_by c.next.result c.next.new.self (n, g) c.in-Some.is c.next.ensures.steps in
    let at : n ≡ length seen = number_is c.args.gates.items (length seen) n g turn in
    record {
      wires = next_port name c.args.wires.now c.loop-number.wires c.add_gate.new.wires seen n g (name n) at c.loop-number.invariant.wires c.in_ok-add_gate.ensures.wires refl;
      drives = next_gate name c.args.drives.now c.loop-number.drives c.add_gate.new.drives seen n g (name n) at c.loop-number.invariant.drives c.in_ok-add_gate.ensures.drives refl;
    }
