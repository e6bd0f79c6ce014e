use Rattle.std.proofs.Common.{◌≡◌, ◌<◌, ◌+◌, ℕ, length, refl, sym, subst, arith}
use Rattle.av_net.specs.declared.netlist.Module.{Module}
use Rattle.av_net.specs.Names.{names_of}
use Rattle.av_net.specs.Settled.{Agree}
use Rattle.av_lanes.specs.Seen.{carried}
use Rattle.av_commands.specs.inner.LaneClocking.{AreLeftInLanes, ArePresentedInLanes}
use Rattle.av_commands.proofs.LanesPresented.{words_fit, presents_next, all_presented}
use Rattle.av_commands.proofs.lane_showing.present_in_lanes.Goals as goal

pub words_next-words-requires-clause-within : goal.words_next-words-requires-clause-within
words_next-words-requires-clause-within c = c.loop-port.invariant.left.within

pub set-requires-clause-port : goal.set-requires-clause-port
set-requires-clause-port c =
    let lt : c.loop-port.port < length c.args.lanes.now.of.inputs = (let test = c.loop-port-test.true in let count = c.requires.count in omega (arith, test, count)) in
    subst (λ (m : Module). c.loop-port.port < length m.inputs) (sym c.loop-port.invariant.of) lt

pub set-requires-clause-fits : goal.set-requires-clause-fits
set-requires-clause-fits c =
    let lt : c.loop-port.port < length c.args.lanes.now.of.inputs = (let test = c.loop-port-test.true in let count = c.requires.count in omega (arith, test, count)) in
    words_fit c.args.lanes.now.of c.args.stimuli.now c.args.cycle c.loop-port.port c.args.lanes.now c.loop-port.lanes c.loop-port.next c.words_next-words.result c.requires.sound lt c.requires.few c.loop-port.invariant
    c.words_next-words.ensures.words c.words_next-words.ensures.others

pub loop-port-init : goal.loop-port-init
loop-port-init c = record {
  of = refl;
  ports = λ k s at i port lt there. absurd (omega (arith, lt));
  registers = λ k lt i d at. refl;
  left = c.requires.left;
}

pub loop-port-preserved : goal.loop-port-preserved
loop-port-preserved c =
    let lt : c.loop-port.port < length c.args.lanes.now.of.inputs = (let test = c.loop-port-test.true in let count = c.requires.count in omega (arith, test, count)) in
    presents_next c.args.lanes.now.of c.args.stimuli.now c.args.cycle c.loop-port.port c.args.lanes.now c.loop-port.lanes c.loop-port.next c.words_next-words.result c.requires.sound lt c.requires.few c.loop-port.invariant
    c.words_next-words.ensures.words c.set.new.self c.words_next-words.new.next c.set.ensures.of c.set.ensures.port c.set.ensures.others c.words_next-words.ensures.rest c.words_next-words.ensures.within

pub returns-clause-ports : goal.returns-clause-ports
returns-clause-ports c =
    let inv = c.loop-port.invariant in
    let all : c.loop-port.port ≡ c.args.inputs = (let test = c.loop-port-test.false in let end = c.loop-port.auto.port-end in omega (arith, test, end)) in
    subst (λ (m : Module). ArePresentedInLanes m c.args.stimuli.now c.args.cycle c.args.inputs c.loop-port.lanes) (sym inv.of)
    (subst (λ n. ArePresentedInLanes c.args.lanes.now.of c.args.stimuli.now c.args.cycle n c.loop-port.lanes) all inv.ports)

pub returns-clause-registers : goal.returns-clause-registers
returns-clause-registers c =
    let inv = c.loop-port.invariant in
    subst (λ (m : Module). (k : ℕ) → k < 8 → Agree (names_of m.registers) (carried k c.args.lanes.now) (carried k c.loop-port.lanes)) (sym inv.of) inv.registers

pub returns-clause-left : goal.returns-clause-left
returns-clause-left c =
    let inv = c.loop-port.invariant in
    let m : Module = c.args.lanes.now.of in
    let all : c.loop-port.port ≡ length m.inputs = (let test = c.loop-port-test.false in let end = c.loop-port.auto.port-end in let count = c.requires.count in omega (arith, test, end, count)) in
    subst (λ (x : Module). AreLeftInLanes x.inputs c.args.stimuli.now (c.args.cycle + 1) 0 c.loop-port.next) (sym inv.of) (all_presented m c.args.stimuli.now c.args.cycle c.loop-port.port c.loop-port.next all inv.left)
