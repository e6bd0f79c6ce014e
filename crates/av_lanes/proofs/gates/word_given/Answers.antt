use Rattle.std.proofs.Common.{◌≡◌, ◌∙◌, ◌/◌, ◌%◌, ◌^◌, ℕ, List, ap, get_or, subst, sym}
use Rattle.av_net.specs.Meaning.{applied, signed_test, bit, chosen, widened}
use Rattle.av_clock.specs.declared.gate.Gate.{Gate}
use Rattle.av_clock.specs.Gates.{gate_word, reading_word, CanTake}
use Rattle.av_lanes.specs.Seen.{lane}
use Rattle.av_lanes.proofs.GateLanes.{takes_word, of_two, of_three}
use Rattle.av_lanes.proofs.gates.word_given.Goals.{in-Buffer, in-Operator, in-Comparator, in-Multiplexer, in-Slice, in-Extender}
use Rattle.av_lanes.proofs.gates.word_given.Goals as goal

pub returns : goal.returns
returns c k lt =
    let words = c.args.words.now in
    let ws = lane k words in
    let at : List ℕ → ℕ = λ xs. get_or xs k 0 in
    let P : Gate → Type 0 = λ g. at c.match-gate.result ≡ gate_word ws g in
    elim c.match-gate.branch [
      | in-Buffer w ↦ subst P (sym w.in-Buffer.is) (ap at w.result-is ∙ w.word_read.ensures k lt)
      | in-Operator w ↦
          let takes = subst (CanTake ws) w.in-Operator.is (c.requires k lt) in
          let left = w.word_read-in-Operator.ensures k lt in
          let right = w.word_read-in-Operator-2.ensures k lt in
          subst P (sym w.in-Operator.is)
          (ap at w.result-is
          ∙ w.operated.ensures k lt (takes_word k words w.in-Operator.width.bits w.in-Operator.left w.word_read-in-Operator.result left takes.0) (takes_word k words w.in-Operator.width.bits w.in-Operator.right w.word_read-in-Operator-2.result right takes.1)
          ∙ of_two (applied w.in-Operator.symbol w.in-Operator.width.bits) (at w.word_read-in-Operator.result) (at w.word_read-in-Operator-2.result) (reading_word ws w.in-Operator.left) (reading_word ws w.in-Operator.right) left right)
      | in-Comparator w ↦
          let takes = subst (CanTake ws) w.in-Comparator.is (c.requires k lt) in
          let left = w.word_read-in-Comparator.ensures k lt in
          let right = w.word_read-in-Comparator-2.ensures k lt in
          subst P (sym w.in-Comparator.is)
          (ap at w.result-is
          ∙ w.compared.ensures k lt (takes_word k words w.in-Comparator.width.bits w.in-Comparator.left w.word_read-in-Comparator.result left takes.0) (takes_word k words w.in-Comparator.width.bits w.in-Comparator.right w.word_read-in-Comparator-2.result right takes.1)
          ∙ of_two (λ (a b : ℕ). bit (signed_test w.in-Comparator.symbol w.in-Comparator.width.bits a b)) (at w.word_read-in-Comparator.result) (at w.word_read-in-Comparator-2.result) (reading_word ws w.in-Comparator.left) (reading_word ws w.in-Comparator.right) left right)
      | in-Multiplexer w ↦
          let takes = subst (CanTake ws) w.in-Multiplexer.is (c.requires k lt) in
          let condition = w.word_read-in-Multiplexer.ensures k lt in
          let first = w.word_read-in-Multiplexer-2.ensures k lt in
          let second = w.word_read-in-Multiplexer-3.ensures k lt in
          subst P (sym w.in-Multiplexer.is)
          (ap at w.result-is
          ∙ w.chosen.ensures k lt (takes_word k words 1 w.in-Multiplexer.condition w.word_read-in-Multiplexer.result condition takes.0)
          ∙ of_three chosen (at w.word_read-in-Multiplexer.result) (at w.word_read-in-Multiplexer-2.result) (at w.word_read-in-Multiplexer-3.result) (reading_word ws w.in-Multiplexer.condition) (reading_word ws w.in-Multiplexer.first) (reading_word ws w.in-Multiplexer.second) condition first second)
      | in-Slice w ↦
          subst P (sym w.in-Slice.is) (ap at w.result-is ∙ w.sliced.ensures k lt ∙ ap (λ (n : ℕ). n / 2 ^ w.in-Slice.from % 2 ^ w.in-Slice.width.bits) (w.word_read-in-Slice.ensures k lt))
      | in-Extender w ↦
          let takes = subst (CanTake ws) w.in-Extender.is (c.requires k lt) in
          let input = w.word_read-in-Extender.ensures k lt in
          subst P (sym w.in-Extender.is)
          (ap at w.result-is ∙ w.extended.ensures k lt (takes_word k words w.in-Extender.width.bits w.in-Extender.input w.word_read-in-Extender.result input takes.0) ∙ ap (λ (n : ℕ). widened w.in-Extender.width.bits w.in-Extender.by n) input)
    ]
