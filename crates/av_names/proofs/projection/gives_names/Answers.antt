use Rattle.std.proofs.Common.{◌≡◌, [], ◌∙◌}
use Rattle.std.proofs.lemmas.Result.{IfOk-weaker}
use Rattle.av_names.specs.Reductions as rules
use Rattle.av_names.proofs.Given.{gives_own}
use Rattle.av_names.proofs.projection.gives_names.Goals as goal

pub returns : goal.returns
returns c =
    IfOk-weaker c.gives_each.result (λ yes. yes ≡ rules.gives_names c.in_ok-own.own [] c.args.results.now) (λ yes. yes ≡ rules.gives_names c.args.names.now [] c.args.results.now)
    (λ yes is. is ∙ gives_own c.in_ok-own.own c.args.names.now [] c.args.results.now c.in_ok-own.ensures) (rw c.new-before.ensures at c.gives_each.ensures)
