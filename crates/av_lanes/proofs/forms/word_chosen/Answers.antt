use Rattle.std.proofs.Common.{◌≡◌, ◌∙◌, ℕ, List, ap, get_or, sym}
use Rattle.av_net.specs.Meaning.{chosen}
use Rattle.av_clock.specs.Gates.{reading_word}
use Rattle.av_lanes.specs.Seen.{lane}
use Rattle.av_lanes.proofs.GateLanes.{takes_word, of_three}
use Rattle.av_lanes.proofs.forms.word_chosen.Goals.{then-differ, else-differ}
use Rattle.av_lanes.proofs.forms.word_chosen.Goals as goal

pub returns : goal.returns
returns c k lt =
    let words = c.args.words.now in
    let ws = lane k words in
    let at : List ℕ → ℕ = λ xs. get_or xs k 0 in
    let takes = c.requires k lt in
    let condition = c.word_read-bits.ensures k lt in
    elim c.if-differ.branch [
      | then-differ b ↦
          let first = b.word_read.ensures k lt in
          let second = b.word_read-then-differ.ensures k lt in
          ap at b.result-is
          ∙ b.chosen.ensures k lt (takes_word k words 1 c.args.condition c.word_read-bits.result condition takes.0)
          ∙ of_three chosen (at c.word_read-bits.result) (at b.word_read.result) (at b.word_read-then-differ.result) (reading_word ws c.args.condition) (reading_word ws c.args.first) (reading_word ws c.args.second) condition first second
      | else-differ b ↦
          let none : reading_word ws c.args.condition ≡ 0 = sym condition ∙ c.differ.ensures b.if-differ.false k lt ∙ c.constant.ensures k lt in
          ap at b.result-is ∙ b.word_read-else-differ.ensures k lt ∙ ap (λ n. chosen n (reading_word ws c.args.first) (reading_word ws c.args.second)) (sym none)
    ]
