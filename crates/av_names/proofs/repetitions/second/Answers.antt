use Rattle.std.proofs.Common.{◌≡◌, [], ◌∙◌, option_map}
use Rattle.std.proofs.lemmas.Result.{IfOk-weaker}
use Rattle.av_names.specs.Repetitions as repeats
use Rattle.av_names.specs.inner.FirstAgain.{first_again}
use Rattle.av_names.proofs.Repeats.{name_again}
use Rattle.av_names.proofs.repetitions.second.Goals as goal

pub returns : goal.returns
returns c =
    let names = c.args.names.now in
    IfOk-weaker c.first_again.result (λ name. option_map (λ n. n.now) name ≡ first_again (λ n. n) [] names) (λ name. option_map (λ n. n.now) name ≡ repeats.second [] names)
    (λ name is. is ∙ name_again [] names) (rw c.new-before.ensures at c.first_again.ensures)
