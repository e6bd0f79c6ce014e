use Rattle.std.proofs.Common.{subst, arith, ◌∙◌, sym, ap}
use Rattle.std.proofs.lemmas.Grind.{common_steps, elements}
use Rattle.av_space.specs.declared.layout.Slot.{Slot}
use Rattle.av_kinds.specs.Counters.{count_in}
use Rattle.av_build.proofs.Pairwise.{element}
use Rattle.av_build.proofs.OrderSteps.{AreHigh, one_high, start_here}
use Rattle.av_build.proofs.order.before_start.Goals as goal

pub loop-k-preserved : goal.loop-k-preserved
loop-k-preserved c =
    let slots = c.args.slots.now in
    let k = c.loop-k.k in
    let t = c.index-slots-k.result in
    let is = element slots k t t c.loop-k-test.true c.index-slots-k.is in
    let fails = c.if-number-least.false in
    let number = c.number.ensures ∙ ap (λ (x : Slot). count_in c.args.counter x.cycle) (sym c.index-slots-k.is) in
    one_high (count_in c.args.counter) slots c.number-least.result k c.loop-k.invariant t is (omega (arith, fails, number))

pub returns-then-number-least : goal.returns-then-number-least
returns-then-number-least c =
    let slots = c.args.slots.now in
    let k = c.loop-k.k in
    let t = c.index-slots-k.result in
    let is = element slots k t t c.loop-k-test.true c.index-slots-k.is in
    let first = c.index-slots-0.result in
    let lt = c.loop-k-test.true in
    let is_first = element slots 0 first first (omega (arith, lt)) c.index-slots-0.is in
    let low = c.if-number-least.true in
    let number = c.number.ensures ∙ ap (λ (x : Slot). count_in c.args.counter x.cycle) (sym c.index-slots-k.is) in
    let least = c.number-least.ensures ∙ ap (λ (x : Slot). count_in c.args.counter x.cycle) (sym c.index-slots-0.is) in
    start_here (count_in c.args.counter) slots first is_first k (subst (λ n. AreHigh (count_in c.args.counter) slots n k) least c.loop-k.invariant) t is (omega (arith, low, number, least))

pub returns-then-is_empty : goal.returns-then-is_empty
returns-then-is_empty c = grind (arith, common_steps)

pub returns : goal.returns
returns c = grind (arith, elements)
