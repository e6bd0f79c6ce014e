use Rattle.std.proofs.Common.{◌≡◌, ◌∙◌, ℕ, List, ap, get_or, subst, sym}
use Rattle.av_base.specs.Words.{sum, product}
use Rattle.av_clock.specs.Gates.{gate_word, reading_word}
use Rattle.av_lanes.specs.declared.forms.GateForm.{GateForm}
use Rattle.av_lanes.specs.Seen.{lane}
use Rattle.av_lanes.specs.inner.Forms.{gate_of, IsMasked}
use Rattle.av_lanes.proofs.GateLanes.{of_two}
use Rattle.av_lanes.proofs.forms.word_formed.Goals.{in-Sum, in-Product, in-Choice, in-Any}
use Rattle.av_lanes.proofs.forms.word_formed.Goals as goal

pub returns : goal.returns
returns c k lt =
    let words = c.args.words.now in
    let ws = lane k words in
    let at : List ℕ → ℕ = λ xs. get_or xs k 0 in
    let P : GateForm → Type 0 = λ form. at c.match-form.result ≡ gate_word ws (gate_of form) in
    elim c.match-form.branch [
      | in-Sum w ↦
          let is = subst IsMasked w.in-Sum.is c.requires.masked in
          let left = w.word_read.ensures k lt in
          let right = w.word_read-in-Sum.ensures k lt in
          subst P (sym w.in-Sum.is)
          (ap at w.result-is
          ∙ w.masked_sum.ensures w.in-Sum.width.bits w.in-Sum.width.most is k lt
          ∙ of_two (sum w.in-Sum.width.bits) (at w.word_read.result) (at w.word_read-in-Sum.result) (reading_word ws w.in-Sum.left) (reading_word ws w.in-Sum.right) left right)
      | in-Product w ↦
          let is = subst IsMasked w.in-Product.is c.requires.masked in
          let left = w.word_read-in-Product.ensures k lt in
          let right = w.word_read-in-Product-2.ensures k lt in
          subst P (sym w.in-Product.is)
          (ap at w.result-is
          ∙ w.masked_product.ensures w.in-Product.width.bits is.1 is.0 k lt
          ∙ of_two (product w.in-Product.width.bits) (at w.word_read-in-Product.result) (at w.word_read-in-Product-2.result) (reading_word ws w.in-Product.left) (reading_word ws w.in-Product.right) left right)
      | in-Choice w ↦ subst P (sym w.in-Choice.is) (ap at w.result-is ∙ w.word_chosen.ensures k lt)
      | in-Any w ↦ subst P (sym w.in-Any.is) (ap at w.result-is ∙ w.word_given.ensures k lt)
    ]
