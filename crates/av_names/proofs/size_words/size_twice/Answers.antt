use Rattle.std.proofs.Common.{◌≡◌, [], ◌∙◌, option_map}
use Rattle.std.proofs.lemmas.Result.{IfOk-weaker}
use Rattle.av_names.specs.declared.size.Size.{Size}
use Rattle.av_names.specs.SizeWords as words
use Rattle.av_names.specs.inner.FirstAgain.{first_again}
use Rattle.av_names.proofs.Repeats.{again_named, told}
use Rattle.av_names.proofs.size_words.size_twice.Goals as goal

pub returns : goal.returns
returns c =
    let sizes = c.args.sizes.now in
    let name = λ (s : Size). s.name in
    IfOk-weaker c.first_again.result (λ size. option_map (λ s. s.now) size ≡ first_again name [] sizes) (λ size. option_map (λ s. s.now.name) size ≡ words.size_twice sizes)
    (λ size is. told name size (first_again name [] sizes) is ∙ again_named name [] sizes) (rw c.new-before.ensures at c.first_again.ensures)
