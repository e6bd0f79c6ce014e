use Rattle.std.proofs.Common.{◌∙◌, subst, inl, inr}
use Rattle.std.proofs.lemmas.Result.{on_ok_weaker}
use Rattle.av_clock.specs.Gates.{IsResolved}
use Rattle.av_clock.proofs.Readings.{enters_buffer, enters_slice, enters_extender, enters_operator, enters_comparator, enters_multiplexer}
use Rattle.av_clock.proofs.readers.enter_gate.Goals as goal

pub returns-in-Buffer : goal.returns-in-Buffer
returns-in-Buffer c =
    let before = c.args.lists.now.items in
    let after = c.enter_reading-in-Buffer.new.lists.items in
    on_ok_weaker c.enter_reading-in-Buffer.result (λ entered widths names operation distinct same resolved.
    elim c.in-Buffer.is [
      | inl is ↦ enters_buffer widths names c.in-Buffer.input c.args.reader before after (λ o is. entered names o distinct same is) operation (subst (IsResolved widths names operation) is resolved)
      | inr (inl (from, width, is)) ↦ enters_slice widths names c.in-Buffer.input from width c.args.reader before after (λ o is. entered names o distinct same is) operation (subst (IsResolved widths names operation) is resolved)
      | inr (inr (width, by, is)) ↦ enters_extender widths names c.in-Buffer.input width by c.args.reader before after (λ o is. entered names o distinct same is) operation (subst (IsResolved widths names operation) is resolved)
    ]) c.enter_reading-in-Buffer.ensures.entered

pub returns-in_ok-enter_reading-in-Operator : goal.returns-in_ok-enter_reading-in-Operator
returns-in_ok-enter_reading-in-Operator c =
    let before = c.args.lists.now.items in
    let middle = c.enter_reading-in-Operator.new.lists.items in
    let after = c.enter_reading-in-Operator-2.new.lists.items in
    on_ok_weaker c.enter_reading-in-Operator-2.result (λ entered widths names operation distinct same resolved.
    elim c.in-Operator.is [
      | inl (symbol, width, is) ↦ enters_operator widths names c.in-Operator.left c.in-Operator.right symbol width c.args.reader before middle after (λ o is. c.in_ok-enter_reading-in-Operator.ensures.entered names o distinct same is)
          (λ o is. entered names o distinct (c.in_ok-enter_reading-in-Operator.ensures.size ∙ same) is) operation (subst (IsResolved widths names operation) is resolved)
      | inr (symbol, width, is) ↦ enters_comparator widths names c.in-Operator.left c.in-Operator.right symbol width c.args.reader before middle after (λ o is. c.in_ok-enter_reading-in-Operator.ensures.entered names o distinct same is)
          (λ o is. entered names o distinct (c.in_ok-enter_reading-in-Operator.ensures.size ∙ same) is) operation (subst (IsResolved widths names operation) is resolved)
    ]) c.enter_reading-in-Operator-2.ensures.entered

pub returns-in_ok-enter_reading-in-Multiplexer-2 : goal.returns-in_ok-enter_reading-in-Multiplexer-2
returns-in_ok-enter_reading-in-Multiplexer-2 c =
    on_ok_weaker c.enter_reading-in-Multiplexer-2.result (λ entered widths names operation distinct same resolved.
    enters_multiplexer widths names c.in-Multiplexer.condition c.in-Multiplexer.first c.in-Multiplexer.second c.args.reader c.args.lists.now.items c.enter_reading.new.lists.items c.enter_reading-in-Multiplexer.new.lists.items
    c.enter_reading-in-Multiplexer-2.new.lists.items (λ o is. c.in_ok-enter_reading-in-Multiplexer.ensures.entered names o distinct same is)
    (λ o is. c.in_ok-enter_reading-in-Multiplexer-2.ensures.entered names o distinct (c.in_ok-enter_reading-in-Multiplexer.ensures.size ∙ same) is)
    (λ o is. entered names o distinct (c.in_ok-enter_reading-in-Multiplexer-2.ensures.size ∙ c.in_ok-enter_reading-in-Multiplexer.ensures.size ∙ same) is)
    operation (subst (IsResolved widths names operation) c.in-Multiplexer.is resolved)) c.enter_reading-in-Multiplexer-2.ensures.entered
